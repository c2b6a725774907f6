-- Cells that have a truth table, whichever it is.
use Rattle.std.specs.Prelude.{Bool, List}
use Rattle.library_table.specs.Cells.{Cell}
use Rattle.truth_tables.specs.Generated.{Generated}

pub record HasTable (c : Cell) : Type 0 where
  pub bits : List Bool
  pub generated : Generated c bits
