-- The laws of numbers in decimal: what the digits read back as, and how many there are.
use Rattle.common_laws.proofs.Base.{[], ◌∷◌, ◌++◌, append_assoc, some, ◌≡◌, refl, ℕ, suc, ◌+◌, ◌/◌, ◌%◌, ◌^◌, ◌≤◌, ◌<◌, arith, length}
use Rattle.text.specs.Numeral.{numeral}
use Rattle.writer.specs.Decimal.{decimal_bytes, two_digits}
use Rattle.writer.proofs.Digits.{digits-one, digits-then, digits-some, digits-most, digits-below, digits_above, digits-read}

ten : 0 < 10
ten = omega arith

pub decimal-one : (n : ℕ) → n < 10 → decimal_bytes n ≡ (48 + n % 10) ∷ []
unfolding decimal_bytes
decimal-one n h = digits-one 10 ten 19 n h

pub decimal-more : (n : ℕ) → 10 ≤ n → n < 10 ^ 20 → decimal_bytes n ≡ decimal_bytes (n / 10) ++ ((48 + n % 10) ∷ [])
unfolding decimal_bytes
decimal-more n h q = digits-then 10 ten 19 n h q

-- Two digits at a time.
pub decimal-two : (n : ℕ) → 10 ≤ n → n < 100 → decimal_bytes n ≡ two_digits n
decimal-two n h q =
    let first : n / 10 % 10 ≡ n / 10 = omega arith in
    rw (decimal-more n h (omega arith), decimal-one (n / 10) (omega arith), first) refl

pub decimal_hundreds : (n : ℕ) → 100 ≤ n → n < 10 ^ 20 → decimal_bytes n ≡ decimal_bytes (n / 100) ++ two_digits (n % 100)
decimal_hundreds n h q =
    let above : n / 10 / 10 ≡ n / 100 = omega arith in
    let first : n / 10 % 10 ≡ n % 100 / 10 = omega arith in
    let last : n % 10 ≡ n % 100 % 10 = omega arith in
    rw (decimal-more n (omega arith) q, decimal-more (n / 10) (omega arith) (omega arith), above, first, last)
    (append_assoc (decimal_bytes (n / 100)) ((48 + n % 100 / 10) ∷ []) ((48 + n % 100 % 10) ∷ []))

pub decimal-below : (d n : ℕ) → n < 10 ^ suc d → length (decimal_bytes n) ≤ suc d
unfolding decimal_bytes
decimal-below d n h = digits-below 10 ten 19 d n h

pub decimal-single : (n : ℕ) → n < 10 → 1 ≡ length (decimal_bytes n)
decimal-single n h = rw (decimal-one n h) refl

pub decimal-width : (d n : ℕ) → d ≤ 19 → 10 ^ d ≤ n → n < 10 ^ suc d → suc d ≡ length (decimal_bytes n)
unfolding decimal_bytes
decimal-width d n h p q = omega (arith, digits_above 10 ten 19 d n h p, digits-below 10 ten 19 d n q)

pub decimal-length : (n : ℕ) → (1 ≤ length (decimal_bytes n)) × (length (decimal_bytes n) ≤ 20)
unfolding decimal_bytes
decimal-length n = (digits-some 10 ten 19 n, digits-most 10 ten 19 n)

-- A number as it is printed is well formed as a field of at most twenty digits, and read as the number.
pub decimal-read : (n : ℕ) → n < 10 ^ 20 → numeral 10 20 (decimal_bytes n) ≡ some n
unfolding decimal_bytes
decimal-read n h = digits-read 10 ten 19 19 n h h
