-- Netlists built of cells that have a truth table, and what they do. Document 02, K8: "Consider a netlist without loops or open
-- lines, built only of cells that K6 generates, constants among them."
use Rattle.std.specs.Prelude.{Bool, ℕ}
use mathlib.Core.List.{List, Memᴰ}
use Rattle.library_table.specs.Cells.{Cell}
use Rattle.netlist_table.specs.Netlist.{Gate, Statement, gates_of}
use Rattle.calculation.specs.Ways.{cell_of}
use Rattle.truth_tables.specs.Tables as Table
use Rattle.truth_tables.specs.Generated.{Generated}
use Rattle.chip_values.specs.Loops.{Loopless, NoneOpen}
use Rattle.chip_values.specs.Values.{Tables}

-- Each gate's cell has a truth table: `bits` has that of the cell at each place of the library.
pub record Built (cells : List Cell) (ss : List Statement) : Type 0 where
  pub bits : ℕ → List Bool
  pub generated : (g : Gate) → Memᴰ g (gates_of ss) → Generated (cell_of cells g) (bits g.cell)

-- "each gate's output is its truth table's value"
unfoldable pub tables_of : (ℕ → List Bool) → Tables
tables_of bits g xs = Table.output (bits g.cell) xs

pub record Qualifies (cells : List Cell) (ss : List Statement) : Type 0 where
  pub loopless : Loopless ss
  pub none_open : NoneOpen ss
  pub built : Built cells ss
