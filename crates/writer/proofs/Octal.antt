-- The laws of numbers in octal.
use Rattle.common_laws.proofs.Base.{true, some, ◌≡◌, ℕ, suc, ◌^◌, ◌≤◌, ◌<◌, arith, length}
use Rattle.text.specs.Numeral.{all_digits, value, numeral}
use Rattle.writer.specs.Octal.{octal_bytes}
use Rattle.writer.proofs.Digits.{digits_value, digits-all, digits-most, digits-read}

eight : 0 < 8
eight = omega arith

pub octal_digits : (n : ℕ) → all_digits 8 (octal_bytes n) ≡ true
unfolding octal_bytes
octal_digits n = digits-all 8 eight 21 n

pub octal_most : (n : ℕ) → length (octal_bytes n) ≤ 22
unfolding octal_bytes
octal_most n = digits-most 8 eight 21 n

pub octal_value : (n : ℕ) → n < 8 ^ 22 → value 8 0 (octal_bytes n) ≡ n
unfolding octal_bytes
octal_value n h = digits_value 8 eight 21 n h

-- A number of so many octal digits, as it is printed, is read as the number.
pub octal_read : (d n : ℕ) → n < 8 ^ suc d → n < 8 ^ 22 → numeral 8 (suc d) (octal_bytes n) ≡ some n
unfolding octal_bytes
octal_read d n h q = digits-read 8 eight 21 d n h q
