-- How far a part of a table is used: what stands behind the last number that is not 0.
use Rattle.common_laws.proofs.Base.{Bool, true, ◌&&◌, List, ◌≡◌, refl, sym, ap, ◌∙◌, ℕ, zero, suc, ◌+◌, ◌-◌, ◌≤◌, ◌<◌, min, ℕ_discrete, dec_le, add-one, arith, eqb, length, get_or}
use Rattle.common_laws.proofs.Base.{List-get_or-eq-default, eqb-true}
use Rattle.common_laws.proofs.Tests.{and_left, and_right}
use Rattle.table.specs.Blocks.{zeros, if_zero, used}

if_zero_lem : (x a b : ℕ) → x ≡ 0 → if_zero x a b ≡ a
unfolding if_zero
if_zero_lem x a b e = rw e

if_other : (x a b : ℕ) → (x ≡ 0 → ⊥) → if_zero x a b ≡ b
unfolding if_zero
if_other zero a b e = absurd (e refl)
if_other (suc x) a b e = refl

module _ (xs : List ℕ) where
  -- one number more
  pub zeros-more : (at n : ℕ) (b : Bool) → b ≡ zeros xs at n → (b && eqb (get_or xs (at + n) 0) 0) ≡ zeros xs at (n + 1)
  unfolding zeros
  zeros-more at n b e = rw (add-one n, e)

  module _ (from : ℕ) where
    pub used-none : used xs from 0 ≡ 0
    unfolding used
    used-none = refl

    -- A number that is 0 is not the last one used; another is.
    used-zero : (n : ℕ) → get_or xs (from + n) 0 ≡ 0 → used xs from (suc n) ≡ used xs from n
    unfolding used
    used-zero n e = if_zero_lem _ _ _ e

    used-last : (n : ℕ) → (get_or xs (from + n) 0 ≡ 0 → ⊥) → used xs from (suc n) ≡ suc n
    unfolding used
    used-last n e = if_other _ _ _ e

    module _ (n : ℕ) (some : 0 < n) where
      one_less : n ≡ suc (n - 1)
      one_less = omega arith

      pub last-zero : get_or xs (from + (n - 1)) 0 ≡ 0 → used xs from n ≡ used xs from (n - 1)
      last-zero e = ap (used xs from) one_less ∙ used-zero (n - 1) e

      pub last-used : (get_or xs (from + (n - 1)) 0 ≡ 0 → ⊥) → used xs from n ≡ n
      last-used e = ap (used xs from) one_less ∙ used-last (n - 1) e ∙ sym one_less

    -- Nor are so many that are 0.
    pub used-zeros : (n k : ℕ) → ((i : ℕ) → i < k → get_or xs (from + (n + i)) 0 ≡ 0) → used xs from (n + k) ≡ used xs from n
    used-zeros n zero h = let e : n + 0 ≡ n = omega arith in rw e
    used-zeros n (suc k) h =
        let e : n + suc k ≡ suc (n + k) = omega arith in
        rw e (used-zero (n + k) (h k (omega arith)) ∙ used-zeros n k (λ i l. h i (omega arith)))

    each-zero : (at k : ℕ) → zeros xs at k ≡ true → (i : ℕ) → i < k → get_or xs (at + i) 0 ≡ 0
    unfolding zeros
    each-zero at zero t i h = absurd (omega arith)
    each-zero at (suc k) t i h = go (dec_le k i) (each-zero at k (and_left _ _ t) i)
      where
        go : Dec (k ≤ i) → (i < k → get_or xs (at + i) 0 ≡ 0) → get_or xs (at + i) 0 ≡ 0
        go (yes p) below = let e : i ≡ k = omega arith in rw e (eqb-true (get_or xs (at + k) 0) 0 (and_right (zeros xs at k) (eqb (get_or xs (at + k) 0) 0) t))
        go (no p) below = below (omega arith)

    pub used-eight : (at : ℕ) → zeros xs (from + at) 8 ≡ true → used xs from (at + 8) ≡ used xs from at
    used-eight at t = used-zeros at 8 (λ i l. let p : from + (at + i) ≡ from + at + i = omega arith in rw p (each-zero (from + at) 8 t i l))

    -- Nor is what does not stand in the table.
    pub used-within : (n : ℕ) → used xs from n ≡ used xs from (min n (length xs - from))
    used-within n = go (dec_le n (length xs - from))
      where
        go : Dec (n ≤ length xs - from) → used xs from n ≡ used xs from (min n (length xs - from))
        go (yes p) = let e : min n (length xs - from) ≡ n = omega arith in rw e
        go (no p) =
            let m = length xs - from in
            let e : min n m ≡ m = omega arith in
            let s : n ≡ m + (n - m) = omega arith in
            rw e (ap (used xs from) s ∙ used-zeros m (n - m) (λ i l. List-get_or-eq-default xs 0 (omega arith)))

    -- ---- for those who ask no further than what is used

    pub used-most : (n : ℕ) → used xs from n ≤ n
    unfolding used if_zero
    used-most zero = omega arith
    used-most (suc n) = go (get_or xs (from + n) 0) (used-most n)
      where
        go : (x : ℕ) → used xs from n ≤ n → if_zero x (used xs from n) (suc n) ≤ suc n
        go zero below = omega arith
        go (suc x) below = omega arith

    pub used-behind : (n i : ℕ) → used xs from n ≤ i → i < n → get_or xs (from + i) 0 ≡ 0
    used-behind zero i h l = absurd (omega arith)
    used-behind (suc n) i h l = go (ℕ_discrete (get_or xs (from + n) 0) 0) (dec_le n i) (used-behind n i)
      where
        go : Dec (get_or xs (from + n) 0 ≡ 0) → Dec (n ≤ i) → (used xs from n ≤ i → i < n → get_or xs (from + i) 0 ≡ 0)
            → get_or xs (from + i) 0 ≡ 0
        go (yes e) (yes p) below = let q : i ≡ n = omega arith in rw q e
        go (yes e) (no p) below = below (omega (arith, used-zero n e)) (omega arith)
        go (no e) d below = absurd (omega (arith, used-last n e))

    pub used-stands : (n : ℕ) → 0 < used xs from n → from + used xs from n ≤ length xs
    unfolding used
    used-stands zero h = absurd (omega arith)
    used-stands (suc n) h = go (ℕ_discrete (get_or xs (from + n) 0) 0) (dec_le (length xs) (from + n)) (used-stands n)
      where
        go : Dec (get_or xs (from + n) 0 ≡ 0) → Dec (length xs ≤ from + n) → (0 < used xs from n → from + used xs from n ≤ length xs)
            → from + used xs from (suc n) ≤ length xs
        go (yes e) d below = rw (if_zero_lem _ (used xs from n) (suc n) e) (below (omega (arith, if_zero_lem _ (used xs from n) (suc n) e)))
        go (no e) (yes p) below = absurd (e (List-get_or-eq-default xs 0 p))
        go (no e) (no p) below = omega (arith, if_other _ (used xs from n) (suc n) e)
