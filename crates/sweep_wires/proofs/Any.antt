-- Whether one of the numbers below a count passes.
use Rattle.common_laws.proofs.Base.{Bool, true, false, ◌&&◌, ◌||◌, List, [], ◌∷◌, ◌≡◌, refl, sym, ap, ap₂, ◌∙◌, ℕ, zero, suc, ◌+◌, ◌*◌, ◌-◌, ◌≤◌, ◌<◌, ℕ_discrete, arith, length}
use Rattle.common_laws.proofs.Base.{get_or, add-zero, zero-add}
use Rattle.std.specs.List.{list_any, range_with_len}
use Rattle.table.specs.Blocks.{fitted}
use Rattle.library_table.specs.Cells.{bit, bit_of}
use Rattle.library_table.specs.Library.{any_of}
use Rattle.calculation.specs.Ways.{both_values}
use Rattle.sweep_wires.specs.Wires.{any_below}

module _ (p : ℕ → Bool) where
  pub any_none : (count : ℕ) → ((i : ℕ) → i < count → p i ≡ false) → any_below p count ≡ false
  unfolding any_below
  any_none zero f = refl
  any_none (suc count) f = rw (f count (omega arith)) (any_none count (λ i h. f i (omega arith)))

  pub any_found : (count i : ℕ) → i < count → p i ≡ true → any_below p count ≡ true
  unfolding any_below
  any_found zero i h e = absurd (omega arith)
  any_found (suc count) i h e = go (ℕ_discrete i count) (λ k. any_found count i k e)
    where
      second : (a b : Bool) → b ≡ true → (a || b) ≡ true
      second true b h = refl
      second false b h = h

      go : Dec (i ≡ count) → (i < count → any_below p count ≡ true) → any_below p (suc count) ≡ true
      go (yes q) ih = rw (rw q at e)
      go (no q) ih = second (p count) (any_below p count) (ih (omega arith))

-- ---- a row that names both values of one pin

-- Pin i of n, from 0.
abbrev pub pin_both : ℕ → ℕ → ℕ → Bool
pin_both n columns i = bit columns (2 * (n - (i + 1)) + 1) && bit columns (2 * (n - (i + 1)))

pub pins-both : (n columns i : ℕ) → any_below (pin_both n columns) i ≡ both_values n i columns
unfolding any_below both_values bit_of
pins-both n columns zero = refl
pins-both n columns (suc i) =
    let e : 2 * (n - suc i) + (1 - 1) ≡ 2 * (n - (i + 1)) = omega arith in
    let f : 2 * (n - suc i) + (1 - 0) ≡ 2 * (n - (i + 1)) + 1 = omega arith in
    rw (e, f) (ap (λ (b : Bool). pin_both n columns i || b) (pins-both n columns i))

-- ---- over a list

module _ (p : ℕ → Bool) where
  -- The first and the others.
  any_shift : (count : ℕ) → any_below p (suc count) ≡ (p 0 || any_below (λ i. p (suc i)) count)
  unfolding any_below
  any_shift zero = refl
  any_shift (suc count) = ap (λ (b : Bool). p (suc count) || b) (any_shift count) ∙ swap (p (suc count)) (p 0) _
    where
      swap : (a b c : Bool) → (a || (b || c)) ≡ (b || (a || c))
      swap true true c = refl
      swap true false c = refl
      swap false b c = refl

pub any_same : (p q : ℕ → Bool) (count : ℕ) → ((i : ℕ) → i < count → p i ≡ q i) → any_below p count ≡ any_below q count
unfolding any_below
any_same p q zero f = refl
any_same p q (suc count) f = ap₂ (λ (a b : Bool). a || b) (f count (omega arith)) (any_same p q count (λ i h. f i (omega arith)))

-- The numbers of a range, asked one after the other.
any_from : (p : ℕ → Bool) (first count : ℕ) → list_any p (range_with_len first count) ≡ any_below (λ i. p (first + i)) count
unfolding any_below
any_from p first zero = refl
any_from p first (suc count) =
    let next : any_below (λ i. p (first + 1 + i)) count ≡ any_below (λ i. p (first + suc i)) count =
    any_same (λ i. p (first + 1 + i)) (λ i. p (first + suc i)) count (λ i h. ap p (omega arith)) in
    ap₂ (λ (a b : Bool). a || b) (ap p (sym (add-zero first))) (any_from p (first + 1) count ∙ next)
    ∙ sym (any_shift (λ i. p (first + i)) count)

pub any_range : (p : ℕ → Bool) (count : ℕ) → list_any p (range_with_len 0 count) ≡ any_below p count
any_range p count = any_from p 0 count ∙ any_same (λ i. p (0 + i)) p count (λ i h. ap p (zero-add i))

module _ {A : Type 0} (p : A → Bool) where
  pub any_list : (xs : List A) (d : A) → any_below (λ i. p (get_or xs i d)) (length xs) ≡ any_of p xs
  unfolding any_below any_of
  any_list [] d = refl
  any_list (x ∷ xs) d = any_shift (λ i. p (get_or (x ∷ xs) i d)) (length xs) ∙ ap (λ (b : Bool). p x || b) (any_list xs d)

  -- Elements that a list is filled up with, where they do not pass.
  pub any-fitted : (d : A) → p d ≡ false → (count : ℕ) (xs : List A) → length xs ≤ count → any_of p (fitted d count xs) ≡ any_of p xs
  unfolding any_of fitted
  any-fitted d e zero [] h = refl
  any-fitted d e zero (x ∷ xs) h = absurd (omega arith)
  any-fitted d e (suc count) [] h = rw e (any-fitted d e count [] (omega arith))
  any-fitted d e (suc count) (x ∷ xs) h = ap (λ (b : Bool). p x || b) (any-fitted d e count xs (omega arith))
