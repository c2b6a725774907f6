-- Both tables count n cells, and those passed have grown.
use Rattle.common_laws.proofs.Base.{List, ◌≡◌, length}
use Rattle.library_table.specs.Cells.{Cell}
use Rattle.calculation.specs.Growth.{grown_cell, grown}
use Rattle.library_growth.specs.Held.{HoldsCells}
use Rattle.library_growth.proofs.Pairs.{left}
use Rattle.library_growth.proofs.Held.{cells_of}
use Rattle.library_growth.proofs.grown_at.Given as goal

abbrev pub invariant-loop-cell : goal.invariant-loop-cell
invariant-loop-cell l = (cells more : List Cell) → HoldsCells l.old cells → HoldsCells l.new more
    → (l.n ≡ length cells) × (l.n ≡ length more) × (grown cells more ≡ left grown_cell (cells_of cells) (cells_of more) l.cell l.n)
