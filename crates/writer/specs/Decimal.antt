-- Numbers as they are written, in decimal.
use Rattle.std.specs.Prelude.{List, [], ◌∷◌, ◌≡◌, ℕ, ◌+◌, ◌/◌, ◌%◌, ◌≤◌, length}
use Rattle.writer.specs.Digits.{digits, digits_open}

-- A number of 64 bits has twenty digits at the most.
unfoldable pub decimal_bytes : ℕ → List ℕ
decimal_bytes n = digits 10 19 n

-- Two digits, the first of them perhaps 0.
abbrev pub two_digits : ℕ → List ℕ
two_digits n = (48 + n / 10) ∷ (48 + n % 10) ∷ []

-- A buffer has room for a number's digits at a place: they end at `end`.
pub record Room (buffer : List ℕ) (at n end : ℕ) : Type 0 where
  pub ends : end ≡ at + length (decimal_bytes n)
  pub fits : end ≤ length buffer

-- Opens the page's definitions, where a figure computes with them.
unfoldable pub decimal_open : ℕ
unfolding digits_open decimal_bytes
decimal_open = 0
