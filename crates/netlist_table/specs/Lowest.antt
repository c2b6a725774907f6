-- The lowest of the causes of a line: what a list of causes, each a number with whether it holds, comes to as one number.
use Rattle.std.specs.Prelude.{Bool, List, [], ◌∷◌, ℕ, eqb}
use Rattle.reading.specs.Choice.{pick}
use Rattle.reading.specs.Refusal.{Read, refused, read}

-- "within it the lowest number": of causes listed in the numbers' order the first that holds, 0 where none does.
unfoldable pub lowest : List (ℕ × Bool) → ℕ
lowest [] = 0
lowest (x ∷ xs) = pick x.1 x.0 (lowest xs)

-- What such a number says of a line: 0 that it is not refused.
unfoldable pub verdict : ℕ → ℕ → Read (Unit {0})
verdict line number = pick (eqb number 0) (read tt) (refused number line)
