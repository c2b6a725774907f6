-- What stands at a place of a table that is put together from parts of a fixed length.
use Rattle.common_laws.proofs.Base.{List, [], ◌∷◌, ◌++◌, append_assoc, append-nil, ◌≡◌, refl, sym, ap, ◌∙◌, ℕ, zero, suc, ◌+◌, ◌*◌, ◌-◌, ◌≤◌, ◌<◌, min, zero-add, add_comm}
use Rattle.common_laws.proofs.Base.{add_assoc, zero-mul, suc-mul, not-suc-le-zero, le_of_suc-le-suc, arith, length, get_or, replicate, length-append, List-get_or-append}
use Rattle.common_laws.proofs.Base.{get_or-append-add, drop-length}
use native.Mathlib.Nat.{suc-sub-suc}
use Rattle.table.specs.Blocks.{fitted, blocks, cleared}

module _ {A : Type 0} (d : A) where
  pub length-fitted : (n : ℕ) (xs : List A) → length (fitted d n xs) ≡ n
  unfolding fitted
  length-fitted zero xs = refl
  length-fitted (suc n) [] = ap suc (length-fitted n [])
  length-fitted (suc n) (x ∷ xs) = ap suc (length-fitted n xs)

  fitted_none : (n : ℕ) → fitted d n [] ≡ replicate n d
  unfolding fitted
  fitted_none zero = refl
  fitted_none (suc n) = ap (λ (l : List A). d ∷ l) (fitted_none n)

  -- a list that is short enough, and what fills it up
  pub fitted_short : (n : ℕ) (xs : List A) → length xs ≤ n → fitted d n xs ≡ xs ++ replicate (n - length xs) d
  unfolding fitted
  fitted_short n [] h = fitted_none n ∙ ap (λ (k : ℕ). replicate k d) (sym (native.Mathlib.Nat.sub-zero n))
  fitted_short zero (x ∷ xs) h = absurd (not-suc-le-zero h)
  fitted_short (suc n) (x ∷ xs) h =
      rw (suc-sub-suc n (length xs)) (ap (λ (l : List A). x ∷ l) (fitted_short n xs (le_of_suc-le-suc h)))

  -- past the list's end stands what fills it up, so the place need only be below n
  pub getD_fitted : (n : ℕ) (xs : List A) (i : ℕ) → i < n → get_or (fitted d n xs) i d ≡ get_or xs i d
  unfolding fitted
  getD_fitted zero xs i h = absurd (not-suc-le-zero h)
  getD_fitted (suc n) [] zero h = refl
  getD_fitted (suc n) [] (suc i) h = getD_fitted n [] i (le_of_suc-le-suc h)
  getD_fitted (suc n) (x ∷ xs) zero h = refl
  getD_fitted (suc n) (x ∷ xs) (suc i) h = getD_fitted n xs i (le_of_suc-le-suc h)

module _ {A : Type 0} (f : A → List ℕ) (k : ℕ) (even : (x : A) → length (f x) ≡ k) where
  pub length_blocks : (xs : List A) → length (blocks f xs) ≡ length xs * k
  unfolding blocks
  length_blocks [] = sym (zero-mul k)
  length_blocks (x ∷ xs) =
      length-append (f x) (blocks f xs) ∙ rw (even x, length_blocks xs, suc-mul (length xs) k) (omega arith)

  -- number j of part i
  pub getD_blocks : (d : A) (xs : List A) (i j : ℕ) → i < length xs → j < k → get_or (blocks f xs) (i * k + j) 0 ≡ get_or (f (get_or xs i d)) j 0
  unfolding blocks
  getD_blocks d [] i j h q = absurd (not-suc-le-zero h)
  getD_blocks d (x ∷ xs) zero j h q =
      rw (zero-mul k, zero-add j) (List-get_or-append (f x) (blocks f xs) 0 j (rw (even x) q))
  getD_blocks d (x ∷ xs) (suc i) j h q =
      rw (suc-mul i k, add_comm (i * k) k, add_assoc k (i * k) j, ← even x)
      (get_or-append-add (f x) (blocks f xs) (i * length (f x) + j) 0
      ∙ rw (even x) (getD_blocks d xs i j (le_of_suc-le-suc h) q))

-- clearing as many numbers as there are clears them all
pub cleared-all : (xs : List ℕ) → cleared (length xs) xs ≡ replicate (length xs) 0
unfolding cleared
cleared-all xs =
    let e : min (length xs) (length xs) ≡ length xs = omega arith in
    rw (e, drop-length xs) (append-nil (replicate (length xs) 0))

pub blocks_append : {A : Type 0} (f : A → List ℕ) (xs ys : List A) → blocks f (xs ++ ys) ≡ blocks f xs ++ blocks f ys
unfolding blocks
blocks_append f [] ys = refl
blocks_append f (x ∷ xs) ys = rw (blocks_append f xs ys) (sym (append_assoc (f x) (blocks f xs) (blocks f ys)))
