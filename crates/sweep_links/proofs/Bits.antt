-- Bits of a number: of a power, of what `|` and `^` give, and the lowest one that is set.
use Rattle.common_laws.proofs.Base.{◌≡◌, refl, sym, ap, ◌∙◌, ℕ, zero, suc, ◌+◌, ◌*◌, ◌-◌, ◌/◌, ◌%◌, ◌^◌, ◌≤◌, ◌<◌, max, pow-suc, div-eq_of_lt, one-add, arith, bit_or, bit_xor}
use Rattle.common_laws.proofs.Base.{differ, count_trailing_zeros, pow_pos, pow_mono, shr-shr, shl_exact}
use native.Mathlib.Nat.{zero-div, div_self, lt_of_lt_of_le}
use lib.Bits.{or_step, xor_step, or_shr, xor_shr}
use lib.Count.{under}
use Rattle.sizes.specs.Sizes as Size
use Rattle.sweep_links.specs.Turns.{binary_digit}

-- ---- one bit

pub bit-suc : (n j : ℕ) → binary_digit n (suc j) ≡ binary_digit (n / 2) j
bit-suc n j = ap (λ (e : ℕ). n / 2 ^ e % 2) (sym (one-add j)) ∙ ap (λ (x : ℕ). x % 2) (sym (shr-shr n 1 j))

pub bit_shr : (n s j : ℕ) → binary_digit (n / 2 ^ s) j ≡ binary_digit n (s + j)
bit_shr n s j = ap (λ (x : ℕ). x % 2) (shr-shr n s j)

pub zero_bit : (j : ℕ) → binary_digit 0 j ≡ 0
zero_bit j = ap (λ (x : ℕ). x % 2) (zero-div (2 ^ j))

-- none is set at or past the number's length
pub high_bit : (n k j : ℕ) → n < 2 ^ k → k ≤ j → binary_digit n j ≡ 0
high_bit n k j h l = ap (λ (x : ℕ). x % 2) (div-eq_of_lt (lt_of_lt_of_le h (pow_mono l)))

pub power_same : (b : ℕ) → binary_digit (2 ^ b) b ≡ 1
power_same b = ap (λ (x : ℕ). x % 2) (div_self (pow_pos b))

pub power_other : (b j : ℕ) → (j ≡ b → ⊥) → binary_digit (2 ^ b) j ≡ 0
power_other zero zero h = absurd (h refl)
power_other zero (suc j) h = bit-suc 1 j ∙ zero_bit j
power_other (suc b) zero h = omega (arith, pow-suc 2 b)
power_other (suc b) (suc j) h =
    let half : 2 ^ suc b / 2 ≡ 2 ^ b = omega (arith, pow-suc 2 b) in
    bit-suc (2 ^ suc b) j ∙ ap (λ (n : ℕ). binary_digit n j) half ∙ power_other b j (λ e. h (ap suc e))

pub ones_bit : (k j : ℕ) → j < k → binary_digit (2 ^ k - 1) j ≡ 1
ones_bit zero j h = absurd (omega arith)
ones_bit (suc k) zero h = omega (arith, pow-suc 2 k, pow_pos k)
ones_bit (suc k) (suc j) h =
    let half : (2 ^ suc k - 1) / 2 ≡ 2 ^ k - 1 = omega (arith, pow-suc 2 k, pow_pos k) in
    bit-suc (2 ^ suc k - 1) j ∙ ap (λ (n : ℕ). binary_digit n j) half ∙ ones_bit k j (omega arith)

-- ---- two numbers

pub or-bit : (a b j : ℕ) → binary_digit (bit_or a b) j ≡ max (binary_digit a j) (binary_digit b j)
or-bit a b j = rw (or_shr a b j) (omega (arith, or_step (a / 2 ^ j) (b / 2 ^ j)))

pub xor_bit : (a b j : ℕ) → binary_digit (bit_xor a b) j ≡ differ (binary_digit a j) (binary_digit b j)
xor_bit a b j = rw (xor_shr a b j) (low _ _ (binary_digit a j) (binary_digit b j) (omega arith) (omega arith) (xor_step (a / 2 ^ j) (b / 2 ^ j)))
  where
    low : (n m x y : ℕ) → x < 2 → y < 2 → n ≡ m * 2 + differ x y → n % 2 ≡ differ x y
    low n m zero y h k e = omega arith
    low n m (suc zero) zero h k e = omega arith
    low n m (suc zero) (suc zero) h k e = omega arith
    low n m (suc zero) (suc (suc y)) h k e = absurd (omega arith)
    low n m (suc (suc x)) y h k e = absurd (omega arith)

pub differ_zero : (x : ℕ) → differ x 0 ≡ x
differ_zero zero = refl
differ_zero (suc x) = refl

-- `1 << s`
pub one_shifted : (s : ℕ) → s < Size.word_bits → 1 * 2 ^ s % 2 ^ Size.word_bits ≡ 2 ^ s
one_shifted s h = shl_exact {a = 1} 1 s Size.word_bits (omega arith) (omega arith) ∙ omega arith

-- ---- the lowest bit that is set

pub lowest_set : (k n : ℕ) → 0 < n → n < 2 ^ k → binary_digit n (count_trailing_zeros k n) ≡ 1
unfolding count_trailing_zeros
lowest_set zero n p h = absurd (omega arith)
lowest_set (suc k) n p h = go (n % 2) refl (λ q. lowest_set k (n / 2) q (omega (arith, pow-suc 2 k)))
  where
    go : (r : ℕ) → n % 2 ≡ r → (0 < n / 2 → binary_digit (n / 2) (count_trailing_zeros k (n / 2)) ≡ 1) → binary_digit n (under r (count_trailing_zeros k (n / 2))) ≡ 1
    go zero e ih = bit-suc n (count_trailing_zeros k (n / 2)) ∙ ih (omega arith)
    go (suc r) e ih = omega arith

pub lowest-below : (k n j : ℕ) → j < count_trailing_zeros k n → binary_digit n j ≡ 0
unfolding count_trailing_zeros
lowest-below zero n j h = absurd (omega arith)
lowest-below (suc k) n j h = go (n % 2) j refl (lowest-below k (n / 2)) h
  where
    go : (r i : ℕ) → n % 2 ≡ r → ((l : ℕ) → l < count_trailing_zeros k (n / 2) → binary_digit (n / 2) l ≡ 0) → i < under r (count_trailing_zeros k (n / 2)) → binary_digit n i ≡ 0
    go zero zero e ih l = omega arith
    go zero (suc i) e ih l = bit-suc n i ∙ ih i (omega arith)
    go (suc r) i e ih l = absurd (omega arith)
