-- The columns that a row names: the lowest of them and the rest.
use Rattle.common_laws.proofs.Base.{List, [], ◌∷◌, ◌≡◌, refl, sym, ap, ◌∙◌, ℕ, zero, suc, ◌+◌, ◌*◌, ◌-◌, ◌/◌, ◌%◌, ◌^◌, ◌≤◌, ◌<◌, min, ℕ_discrete, pow-suc, mod-lt, arith, bit_and}
use Rattle.common_laws.proofs.Base.{and_step, and_le_l, count_trailing_zeros, ones, length}
use lib.Bits.{and_self}
use lib.Count.{ones_step}
use Rattle.sweep_sums.specs.Columns.{with_named, column_places}

-- ---- the lowest
even_trailing : (k n : ℕ) → n % 2 ≡ 0 → count_trailing_zeros (suc k) n ≡ suc (count_trailing_zeros k (n / 2))
unfolding count_trailing_zeros
even_trailing k n h = rw h

odd_trailing : (k n : ℕ) → (n % 2 ≡ 0 → ⊥) → count_trailing_zeros (suc k) n ≡ 0
unfolding count_trailing_zeros
odd_trailing k n h = let e : n % 2 ≡ 1 = omega arith in rw e

half-below : (k n : ℕ) → n < 2 ^ suc k → n / 2 < 2 ^ k
half-below k n h = omega (arith, pow-suc 2 k)

-- The lowest column is one of those that the row has.
pub lowest-below : (k count n : ℕ) → 0 < n → n < 2 ^ count → count_trailing_zeros k n < count
lowest-below k zero n p h = absurd (omega arith)
lowest-below zero (suc count) n p h = unfold count_trailing_zeros in omega arith
lowest-below (suc k) (suc count) n p h = go (ℕ_discrete (n % 2) 0) (λ q. lowest-below k count (n / 2) q (half-below count n h))
  where
    go : Dec (n % 2 ≡ 0) → (0 < n / 2 → count_trailing_zeros k (n / 2) < count) → count_trailing_zeros (suc k) n < suc count
    go (yes e) ih = omega (arith, even_trailing k n e, ih (omega arith))
    go (no e) ih = omega (arith, odd_trailing k n e)

-- ---- the lowest and the rest

module _ (place : ℕ → ℕ) where
  even_places : (k first n : ℕ) → n % 2 ≡ 0 → column_places place (suc k) first n ≡ column_places place k (suc first) (n / 2)
  unfolding column_places with_named
  even_places k first n h = rw h

  odd-places : (k first n : ℕ) → n % 2 ≡ 1 → column_places place (suc k) first n ≡ place first ∷ column_places place k (suc first) (n / 2)
  unfolding column_places with_named
  odd-places k first n h = rw h

  pub no_places : (k first : ℕ) → column_places place k first 0 ≡ []
  unfolding column_places with_named
  no_places zero first = refl
  no_places (suc k) first = no_places k (suc first)

  pub lowest_first : (k first n : ℕ) → 0 < n → n < 2 ^ k
      → column_places place k first n ≡ place (first + count_trailing_zeros k n) ∷ column_places place k first (bit_and n (n - 1))
  lowest_first zero first n p h = absurd (omega arith)
  lowest_first (suc k) first n p h = go (n % 2) refl (λ q. lowest_first k (suc first) (n / 2) q (half-below k n h))
    where
      rest : (r : ℕ) → n % 2 ≡ r → r < 2 → bit_and n (n - 1) ≡ bit_and (n / 2) ((n - 1) / 2) * 2 + min r (1 - r)
      rest r e l = and_step n (n - 1) ∙ ap (λ (m : ℕ). bit_and (n / 2) ((n - 1) / 2) * 2 + m) (omega arith)

      go : (r : ℕ) → n % 2 ≡ r
          → (0 < n / 2 → column_places place k (suc first) (n / 2) ≡ place (suc first + count_trailing_zeros k (n / 2)) ∷ column_places place k (suc first) (bit_and (n / 2) (n / 2 - 1)))
          → column_places place (suc k) first n ≡ place (first + count_trailing_zeros (suc k) n) ∷ column_places place (suc k) first (bit_and n (n - 1))
      go zero e ih =
          let h1 : (n - 1) / 2 ≡ n / 2 - 1 = omega arith in
          let b : bit_and n (n - 1) ≡ bit_and (n / 2) (n / 2 - 1) * 2 = rest 0 e (omega arith) ∙ rw h1 (omega arith) in
          let t : first + count_trailing_zeros (suc k) n ≡ suc first + count_trailing_zeros k (n / 2) = omega (arith, even_trailing k n e) in
          even_places k first n e ∙ ih (omega arith)
          ∙ rw (t, b) (ap (λ (l : List ℕ). place (suc first + count_trailing_zeros k (n / 2)) ∷ l)
          (ap (column_places place k (suc first)) (omega arith) ∙ sym (even_places k first (bit_and (n / 2) (n / 2 - 1) * 2) (omega arith))))
      go (suc r) e ih =
          let z : n % 2 ≡ 1 = omega arith in
          let h1 : (n - 1) / 2 ≡ n / 2 = omega arith in
          let b : bit_and n (n - 1) ≡ n / 2 * 2 = rest 1 z (omega arith) ∙ rw (h1, and_self (n / 2)) (omega arith) in
          let t : first + count_trailing_zeros (suc k) n ≡ first = omega (arith, odd_trailing k n (omega arith)) in
          odd-places k first n z
          ∙ rw (t, b) (ap (λ (l : List ℕ). place first ∷ l)
          (ap (column_places place k (suc first)) (omega arith) ∙ sym (even_places k first (n / 2 * 2) (omega arith))))

  -- A row names as many columns as it has set bits, so that the rest has fewer.
  places_count : (k first n : ℕ) → n < 2 ^ k → length (column_places place k first n) ≡ ones n
  unfolding column_places with_named ones
  places_count zero first n h = let e : n ≡ 0 = omega arith in rw e
  places_count (suc k) first n h =
      named (n % 2) (column_places place k (suc first) (n / 2)) (mod-lt n (omega arith))
      ∙ ap (λ (x : ℕ). n % 2 + x) (places_count k (suc first) (n / 2) (half-below k n h))
      ∙ sym (ones_step n)
    where
      named : (r : ℕ) (ns : List ℕ) → r < 2 → length (with_named r (place first) ns) ≡ r + length ns
      named zero ns l = omega arith
      named (suc zero) ns l = omega arith
      named (suc (suc r)) ns l = absurd (omega arith)

  -- columns above those that a row names
  pub fewer-places : (k more first n : ℕ) → n < 2 ^ k → column_places place (k + more) first n ≡ column_places place k first n
  unfolding column_places
  fewer-places zero more first n h = let e : n ≡ 0 = omega arith in rw e (no_places (0 + more) first)
  fewer-places (suc k) more first n h =
      let e : suc k + more ≡ suc (k + more) = omega arith in
      rw e (ap (with_named (n % 2) (place first)) (fewer-places k more (suc first) (n / 2) (half-below k n h)))

pub rest-fewer : (k n : ℕ) → 0 < n → n < 2 ^ k → ones (bit_and n (n - 1)) < ones n
rest-fewer k n p h =
    let place : ℕ → ℕ = λ j. j in
    omega (
      arith,
      ap length (lowest_first place k 0 n p h),
      places_count place k 0 n h,
      places_count place k 0 (bit_and n (n - 1)) (omega (arith, and_le_l n (n - 1))),
    )

pub ones_most : (k n : ℕ) → n < 2 ^ k → ones n ≤ k
ones_most zero n h = let e : n ≡ 0 = omega arith in rw e (unfold ones in omega arith)
ones_most (suc k) n h = omega (arith, ones_step n, ones_most k (n / 2) (half-below k n h))
