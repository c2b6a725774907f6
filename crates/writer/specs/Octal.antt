-- Numbers as they are written, in octal.
use Rattle.std.specs.Prelude.{List, ℕ}
use Rattle.writer.specs.Digits.{digits, digits_open}

-- A number of 64 bits has twenty-two digits at the most.
unfoldable pub octal_bytes : ℕ → List ℕ
octal_bytes n = digits 8 21 n

-- Opens the page's definitions, where a figure computes with them.
unfoldable pub octal_open : ℕ
unfolding digits_open octal_bytes
octal_open = 0
