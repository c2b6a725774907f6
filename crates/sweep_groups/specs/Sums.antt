-- The sum of a row that may be no way, and rows whose sum need not be taken.
use Rattle.std.specs.Prelude.{Bool, ◌&&◌, List, ℕ, eqb, leb}
use Rattle.std.proofs.Math.Option.{Option, none, some}
use Rattle.std.specs.Int.Bits.{bit_and}
use Rattle.cost.specs.Cost.{lesser}
use Rattle.sweep_sums.specs.Sums.{row_sum}

-- The lesser of a row's sum and of the best so far, where the row is a way.
unfoldable pub lesser_row : List ℕ → ℕ → Option ℕ → ℕ → ℕ
lesser_row costs depth none best = best
lesser_row costs depth (some columns) best = lesser (row_sum costs depth columns) best

-- Whether another row of a group dominates a row: the other's columns are among its own, and its depth is no lower.
unfoldable pub dominated : ℕ → ℕ → ℕ → ℕ → Bool
dominated depth columns other others = eqb (bit_and columns others) others && leb other depth
