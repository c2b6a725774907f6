-- What is printed of rows that are found one by one.
use Rattle.std.specs.Prelude.{Bool, true, false, ◌||◌, List, [], ◌∷◌, ◌++◌, map, ◌≡◌, ℕ}
use Rattle.text.specs.Bytes.{bytes}
use Rattle.reading.specs.Choice.{pick}
use Rattle.writer.specs.Octal.{octal_bytes}
use Rattle.writer.specs.Put.{Puts}
use Rattle.writer.specs.declared.bytes.Cursor.{Cursor}
use Rattle.truth_rows.specs.Asked.{asked_number}
use Rattle.truth_rows.specs.Masks.{prime_row, prime_rows}
use Rattle.truth_rows.specs.declared.Asked.{Asked}

-- A row by its number, behind others of its group or as the first.
unfoldable pub one_bytes : Bool → ℕ → List ℕ
one_bytes any x = pick any (bytes ",M,") [] ++ octal_bytes x

-- The rows that are left.
unfoldable pub more_bytes : Bool → List ℕ → List ℕ
more_bytes any [] = pick any [] (bytes "Z")
more_bytes any (x ∷ xs) = one_bytes any x ++ more_bytes true xs

unfoldable pub rows_bytes : Asked → List ℕ
rows_bytes a = more_bytes false (map (asked_number a) (prime_rows a.wanted a.pins))

-- A row that was looked at: printed where it is prime, behind those printed before, if any.
pub record Passed (a : Asked) (row : ℕ) (before after : Bool) (entry left : Cursor) : Type 0 where
  pub put : Puts (pick (prime_row a.wanted a.pins row) (one_bytes before (asked_number a row)) []) entry left
  pub any : after ≡ (prime_row a.wanted a.pins row || before)
