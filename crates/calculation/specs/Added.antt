-- What may be added so that numbers that stand are a start of the new runs: rows to cells, and outputs to a netlist.
use Rattle.std.specs.Prelude.{true, ◌⊎◌, ◌≡◌, ℕ}
use mathlib.Core.List.{List, Memᴰ}
use Rattle.library_table.specs.Cells.{Row, Cell}
use Rattle.netlist_table.specs.Netlist.{Gate, Statement, gates_of, is_input, is_output}
use Rattle.calculation.specs.Nodes.{Kind}
use Rattle.calculation.specs.Ways.{cell_of, Role, group_of, one_wire}

-- A cell with the pins of another, its rows and perhaps others. Its one-wire reading is neither lost nor gained.
pub record RowsAdded (c d : Cell) : Type 0 where
  pub pins : d.pins ≡ c.pins
  pub wire : one_wire d ≡ one_wire c
  pub rows : (k : Kind) (role : Role) (r : Row) → Memᴰ r (group_of k c role) → Memᴰ r (group_of k d role)

-- The same of the cell of each gate of a netlist.
abbrev pub AtGates : (Cell → Cell → Type 0) → List Cell → List Cell → List Statement → Type 0
AtGates related cells more ss = (g : Gate) → Memᴰ g (gates_of ss) → related (cell_of cells g) (cell_of more g)

-- A netlist with the gates and inputs of another, its outputs and perhaps others.
pub record OutputsAdded (ss ts : List Statement) : Type 0 where
  pub gates : gates_of ts ≡ gates_of ss
  pub inputs : (l : ℕ) → is_input l ts ≡ is_input l ss
  pub outputs : (l : ℕ) → is_output l ss ≡ true → is_output l ts ≡ true

-- A netlist whose outputs are those of two others, each with its gates and inputs.
pub record OutputsParted (ss us ts : List Statement) : Type 0 where
  pub left : OutputsAdded ss ts
  pub right : OutputsAdded us ts
  pub either : (l : ℕ) → is_output l ts ≡ true → (is_output l ss ≡ true) ⊎ (is_output l us ≡ true)
