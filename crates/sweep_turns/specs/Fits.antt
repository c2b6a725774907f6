-- What the visits of a gate ask of the tables and the numbers (specs/VisitFits.antt); that the links are the tables' is a fact of
-- the type `Circuit`.
use Rattle.std.specs.Prelude.{Bool, true, List, ◌≡◌, ℕ, ◌+◌, ◌≤◌, ◌<◌, length, get_or}
use Rattle.sizes.specs.Sizes as Size
use Rattle.sizes.specs.Places.{cell_place}
use Rattle.netlist_table.specs.Gates.{gate_cell}
use Rattle.sweep_links.specs.Lines.{Chained, Driven}
use Rattle.sweep_groups.specs.Tables.{gate_pins, role_columns, visit_count}
use Rattle.sweep_groups.specs.Fits.{LinesFit, Gathered, GroupFits, TablesFit}
use Rattle.sweep_turns.specs.Order.{turn_group}
use Rattle.sweep_turns.specs.Wakes.{NeedsByLine}

-- Visit i of a gate, out of what was read of it, over the costs of its columns.
pub record TurnFits (role kind : ℕ) (library : List ℕ) (cell : ℕ) (wired : Bool) (lines : List ℕ) (pins : ℕ) (costs numbers : List ℕ) (i : ℕ) : Type 0 where
  pub kind_fits : kind ≤ 1
  pub lines_fit : LinesFit lines pins
  pub turn : i < visit_count role pins
  pub room : cell + Size.cell_words ≤ length library
  pub rows : GroupFits library (turn_group role kind cell i) (role_columns role pins)
  pub setting : wired ≡ true → role ≡ 0
  pub size : length numbers ≡ Size.numbers
  pub gathered : Gathered (role_columns role pins) kind lines pins numbers costs

-- The gates that need a line's number may be woken.
pub record WakeFits (role line gates : ℕ) (links : List ℕ) : Type 0 where
  pub role_fits : role ≤ 1
  pub inside : line ≤ Size.lines
  pub netlist : List ℕ
  pub chained : Chained netlist gates links
  pub driven : Driven netlist gates links

-- The tables, of a role and a kind, such that their links tell who needs a number.
pub record LinksFit (role kind : ℕ) (library netlist : List ℕ) : Type 0 where
  pub role_fits : role ≤ 1
  pub kind_fits : kind ≤ 1
  pub tables_fit : TablesFit library netlist
  pub needs : NeedsByLine role kind library netlist

-- The visits of one gate.
pub record GateVisitsFit (role kind : ℕ) (library netlist numbers : List ℕ) (gate : ℕ) : Type 0 where
  pub links_fit : LinksFit role kind library netlist
  pub inside : gate < get_or netlist 0 0
  pub size : length numbers ≡ Size.numbers

-- The same, where its cell was found and its pins were read.
pub record GateReadFits (role kind : ℕ) (library netlist numbers : List ℕ) (gate cell pins : ℕ) : Type 0 where
  pub visits_fit : GateVisitsFit role kind library netlist numbers gate
  pub cell_is : cell ≡ cell_place (gate_cell netlist gate)
  pub pins_are : pins ≡ gate_pins library netlist gate
