-- The laws of numbers in any base: the last digit and those above it, how many there are, and what they read back as.
use Rattle.common_laws.proofs.Base.{Bool, true, false, not, List, [], ◌∷◌, ◌++◌, some, ◌≡◌, refl, sym, ap, ◌∙◌, ℕ, zero, suc, ◌+◌, ◌*◌, ◌-◌, ◌/◌, ◌%◌, ◌^◌, ◌≤◌, ◌<◌, pow-zero}
use Rattle.common_laws.proofs.Base.{pow-suc, one-le-pow, mod-lt, mod-eq_of_lt, div-add-mod', arith, ltb, eqb, length, length-append, lt-ltb, le-ltb, le-leb, ne_eqb, ltb-true}
use Rattle.common_laws.proofs.Base.{ltb-false}
use native.Mathlib.Nat.{one-mul, le-div_iff_mul-le}
use Rattle.common_laws.proofs.Numbers.{quotient_below}
use Rattle.reading.specs.Choice.{pick}
use Rattle.reading.proofs.Laws.{by_test, clash, and_left, and_right}
use Rattle.text.specs.Numeral.{digit_below, all_digits, value, no_leading_zero, well_formed, numeral}
use Rattle.text.proofs.FieldLaws.{numeral-good}
use Rattle.writer.specs.Digits.{digits}

-- the value of digits with one more behind them
value-last : (base acc b : ℕ) (f : List ℕ) → value base acc (f ++ (b ∷ [])) ≡ value base acc f * base + (b - 48)
unfolding value
value-last base acc b [] = refl
value-last base acc b (a ∷ f) = value-last base (acc * base + (a - 48)) b f

digits_last : (base b : ℕ) (f : List ℕ) → all_digits base f ≡ true → digit_below base b ≡ true → all_digits base (f ++ (b ∷ [])) ≡ true
unfolding all_digits
digits_last base b [] h d = rw d refl
digits_last base b (a ∷ f) h d =
    rw (and_left (digit_below base a) (all_digits base f) h)
    (digits_last base b f (and_right (digit_below base a) (all_digits base f) h) d)

-- the first byte is there, and no zero
leads : List ℕ → Bool
leads [] = false
leads (b ∷ f) = not (eqb b 48)

leads-append : (f g : List ℕ) → leads f ≡ true → leads (f ++ g) ≡ true
unfolding leads
leads-append [] g h = clash false h refl
leads-append (b ∷ f) g h = h

leads_no_zero : (f : List ℕ) → leads f ≡ true → no_leading_zero f ≡ true
unfolding leads no_leading_zero
leads_no_zero [] h = refl
leads_no_zero (b ∷ []) h = refl
leads_no_zero (b ∷ (c ∷ f)) h = h

module _ (base : ℕ) (positive : 0 < base) where
  -- the last digit
  abbrev last : ℕ → List ℕ
  last n = (48 + n % base) ∷ []

  single : (n : ℕ) → n < base ^ 1 → n < base
  single n h = rw (pow-suc base 0, pow-zero base, one-mul base) at h

  above : (k n : ℕ) → n < base ^ suc (suc k) → n / base < base ^ suc k
  above k n h = quotient_below base (suc k) n positive h

  digit-in : (n : ℕ) → digit_below base (48 + n % base) ≡ true
  unfolding digit_below
  digit-in n =
      let h = mod-lt n positive in
      rw (le-leb 48 (48 + n % base) (omega arith), lt-ltb (48 + n % base) (48 + base) (omega (arith, h))) refl

  -- a digit more is not needed
  digits_more : (k n : ℕ) → n < base ^ suc k → digits base (suc k) n ≡ digits base k n
  unfolding digits pick
  digits_more zero n h = rw (lt-ltb n base (single n h)) refl
  digits_more (suc k) n h =
      by_test (ltb n base)
      (λ low. rw low refl)
      (λ high. rw high (ap (λ (f : List ℕ). f ++ last n) (digits_more k (n / base) (above k n h))))

  pub digits-one : (k n : ℕ) → n < base → digits base k n ≡ (48 + n % base) ∷ []
  unfolding digits pick
  digits-one zero n h = refl
  digits-one (suc k) n h = rw (lt-ltb n base h) refl

  pub digits-then : (k n : ℕ) → base ≤ n → n < base ^ suc k → digits base k n ≡ digits base k (n / base) ++ ((48 + n % base) ∷ [])
  unfolding digits pick
  digits-then zero n h q = absurd (omega (arith, single n q))
  digits-then (suc k) n h q =
      rw (le-ltb n base h) (ap (λ (f : List ℕ). f ++ last n) (sym (digits_more k (n / base) (above k n q))))

  -- read back, a number's digits are the number
  pub digits_value : (k n : ℕ) → n < base ^ suc k → value base 0 (digits base k n) ≡ n
  unfolding digits pick value
  digits_value zero n h = rw (mod-eq_of_lt (single n h)) (omega arith)
  digits_value (suc k) n h =
      by_test (ltb n base)
      (λ low. rw (low, mod-eq_of_lt (ltb-true n base low)) (omega arith))
      (λ high.
      let digit : 48 + n % base - 48 ≡ n % base = omega arith in
      rw (high, value-last base 0 (48 + n % base) (digits base k (n / base)), digits_value k (n / base) (above k n h), digit)
      (div-add-mod' n base))

  pub digits-all : (k n : ℕ) → all_digits base (digits base k n) ≡ true
  unfolding digits pick all_digits
  digits-all zero n = rw (digit-in n) refl
  digits-all (suc k) n =
      by_test (ltb n base)
      (λ low. rw (low, digit-in n) refl)
      (λ high. rw high (digits_last base (48 + n % base) (digits base k (n / base)) (digits-all k (n / base)) (digit-in n)))

  digits-leads : (k n : ℕ) → 0 < n → n < base ^ suc k → leads (digits base k n) ≡ true
  unfolding digits pick leads
  digits-leads zero n p h = rw (mod-eq_of_lt (single n h), ne_eqb (48 + n) 48 (λ e. omega arith)) refl
  digits-leads (suc k) n p h =
      by_test (ltb n base)
      (λ low. rw (low, mod-eq_of_lt (ltb-true n base low), ne_eqb (48 + n) 48 (λ e. omega arith)) refl)
      (λ high.
      let some-above : 1 ≤ n / base = (le-div_iff_mul-le {k = base} {x = 1} {y = n} positive).1 (rw (one-mul base) (ltb-false n base high)) in
      rw high (leads-append (digits base k (n / base)) (last n) (digits-leads k (n / base) some-above (above k n h))))

  digits_no_zero : (k n : ℕ) → n < base ^ suc k → no_leading_zero (digits base k n) ≡ true
  unfolding no_leading_zero
  digits_no_zero k n h =
      by_test (ltb 0 n)
      (λ t. leads_no_zero (digits base k n) (digits-leads k n (ltb-true 0 n t) h))
      (λ t. rw (digits-one k n (omega (arith, ltb-false 0 n t))) refl)

  pub digits-some : (k n : ℕ) → 1 ≤ length (digits base k n)
  unfolding digits pick
  digits-some zero n = omega arith
  digits-some (suc k) n =
      by_test (ltb n base)
      (λ low. rw low (omega arith))
      (λ high. rw (high, length-append (digits base k (n / base)) (last n)) (omega arith))

  pub digits-most : (k n : ℕ) → length (digits base k n) ≤ suc k
  unfolding digits pick
  digits-most zero n = omega arith
  digits-most (suc k) n =
      by_test (ltb n base)
      (λ low. rw low (omega arith))
      (λ high. rw (high, length-append (digits base k (n / base)) (last n)) (omega (arith, digits-most k (n / base))))

  -- a number below a power of the base has no more digits than that
  pub digits-below : (k d n : ℕ) → n < base ^ suc d → length (digits base k n) ≤ suc d
  unfolding digits pick
  digits-below zero d n h = omega arith
  digits-below (suc k) zero n h = rw (lt-ltb n base (single n h)) (omega arith)
  digits-below (suc k) (suc d) n h =
      by_test (ltb n base)
      (λ low. rw low (omega arith))
      (λ high.
      rw (high, length-append (digits base k (n / base)) (last n)) (omega (arith, digits-below k d (n / base) (above d n h))))

  -- a number from a power of the base on has no fewer
  pub digits_above : (k d n : ℕ) → d ≤ k → base ^ d ≤ n → suc d ≤ length (digits base k n)
  unfolding digits pick
  digits_above k zero n h p = digits-some k n
  digits_above zero (suc d) n h p = absurd (omega arith)
  digits_above (suc k) (suc d) n h p =
      let more : base ^ d ≤ n / base = (le-div_iff_mul-le {k = base} {x = base ^ d} {y = n} positive).1 (rw (pow-suc base d) at p) in
      let least : 1 ≤ base ^ d = one-le-pow d base positive in
      let base-most : 1 * base ≤ n = (le-div_iff_mul-le {k = base} {x = 1} {y = n} positive).0 (omega arith) in
      rw (le-ltb n base (rw (one-mul base) at base-most), length-append (digits base k (n / base)) (last n))
      (omega (arith, digits_above k d (n / base) (omega arith) more))

  -- A number of so many digits, as it is printed, is read as the number.
  pub digits-read : (k d n : ℕ) → n < base ^ suc d → n < base ^ suc k → numeral base (suc d) (digits base k n) ≡ some n
  unfolding well_formed
  digits-read k d n h q =
      let f = digits base k n in
      let good : well_formed base (suc d) f ≡ true =
      rw (
        le-leb 1 (length f) (digits-some k n),
        le-leb (length f) (suc d) (digits-below k d n h),
        digits_no_zero k n q,
        digits-all k n,
      ) refl in
      numeral-good base (suc d) f good ∙ ap (λ (v : ℕ). some v) (digits_value k n q)
