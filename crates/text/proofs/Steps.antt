-- One turn of each of this crate's loops, as an equation over what remains of the list.
use Rattle.common_laws.proofs.Base.{Bool, false, ◌||◌, ◌&&◌, List, [], ◌∷◌, ◌≡◌, refl, ap, ℕ, zero, suc, ◌+◌, ◌≤◌, ◌<◌, dec_le, add-one, arith, eqb, length, get_or, take, drop}
use Rattle.common_laws.proofs.Base.{drop_of_length-le, drop-cons, take-nil, eq-eqb, ne_eqb, eqb-false}
use Rattle.std.specs.Cmp.Lexicographic.{pointwise}
use Rattle.reading.proofs.Laws.{or_left, or_right}
use Rattle.text.specs.Lines.{stop, span, some_ends, part, same_bytes}

module _ (mark : ℕ) (s : List ℕ) (i : ℕ) where
  pub span-at : i < length s → get_or s i 0 ≡ mark → span mark (drop i s) ≡ 0
  unfolding span stop
  span-at h e = rw (drop-cons s i 0 h, eq-eqb (get_or s i 0) mark e)

  pub span-on : i < length s → (get_or s i 0 ≡ mark → ⊥) → span mark (drop i s) ≡ suc (span mark (drop (i + 1) s))
  unfolding span stop
  span-on h n = rw (add-one, drop-cons s i 0 h, ne_eqb (get_or s i 0) mark n)

  pub span-end : length s ≤ i → span mark (drop i s) ≡ 0
  unfolding span
  span-end h = rw (drop_of_length-le s h)

-- A first part whose end the loop found at `i`.
-- So many bytes that are no mark are passed over at once.
pub span-past : (mark : ℕ) (s : List ℕ) (i k : ℕ) → i + k ≤ length s → ((j : ℕ) → j < k → get_or s (i + j) 0 ≡ mark → ⊥)
    → span mark (drop i s) ≡ k + span mark (drop (i + k) s)
span-past mark s i zero h other = let e : i + 0 ≡ i = omega arith in rw e (omega arith)
span-past mark s i (suc k) h other =
    let e : i + suc k ≡ i + k + 1 = omega arith in
    let on = span-on mark s (i + k) (omega arith) (other k (omega arith)) in
    rw e (omega (arith, on, span-past mark s i k (omega arith) (λ j l. other j (omega arith))))

-- Whether a line ends in so many bytes.
module _ (s : List ℕ) (at : ℕ) where
  pub ends_more : (n : ℕ) (found here : Bool) → found ≡ some_ends s at n → here ≡ eqb (get_or s (at + n) 0) 10
      → (found || here) ≡ some_ends s at (n + 1)
  unfolding some_ends
  ends_more n found here f h = rw (add-one n, f, h)

  pub none-ends : (n : ℕ) → some_ends s at n ≡ false → (j : ℕ) → j < n → get_or s (at + j) 0 ≡ 10 → ⊥
  unfolding some_ends
  none-ends zero t j h = absurd (omega arith)
  none-ends (suc n) t j h = go (dec_le n j) (none-ends n (or_left (some_ends s at n) (eqb (get_or s (at + n) 0) 10) t) j)
    where
      go : Dec (n ≤ j) → (j < n → get_or s (at + j) 0 ≡ 10 → ⊥) → get_or s (at + j) 0 ≡ 10 → ⊥
      go (yes p) below =
          let e : j ≡ n = omega arith in
          rw e (eqb-false (get_or s (at + n) 0) 10 (or_right (some_ends s at n) (eqb (get_or s (at + n) 0) 10) t))
      go (no p) below = below (omega arith)

pub part-found : (mark : ℕ) (s : List ℕ) (i : ℕ) → i ≡ span mark s → take i s ≡ part mark s 0
unfolding part
part-found mark s i e = rw e

pub part-past : (mark : ℕ) (s : List ℕ) (from : ℕ) → length s ≤ from → part mark s from ≡ []
unfolding part
part-past mark s from h = rw (drop_of_length-le s h) (take-nil (span mark []))

-- What `==` of slices says.
pub same_bytes_eq : (a b : List ℕ) → same_bytes a b ≡ pointwise eqb a b
unfolding same_bytes
same_bytes_eq [] [] = refl
same_bytes_eq [] (y ∷ b) = refl
same_bytes_eq (x ∷ a) [] = refl
same_bytes_eq (x ∷ a) (y ∷ b) = ap (λ (t : Bool). eqb x y && t) (same_bytes_eq a b)
