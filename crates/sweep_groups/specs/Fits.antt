-- What the inner functions ask of the tables: that every place which they read or write is there. `calculate` shows it once,
-- from accepted cells and statements, and no loop tests it.
use Rattle.std.specs.Prelude.{Bool, true, false, List, ◌≡◌, ℕ, ◌+◌, ◌*◌, ◌^◌, ◌≤◌, ◌<◌, length, get_or}
use Rattle.sizes.specs.Sizes as Size
use Rattle.sizes.specs.Places.{cell_place, group_place, gate_place}
use Rattle.cost.specs.Cost.{over}
use Rattle.plans.specs.Sweep.{at}
use Rattle.netlist_table.specs.Gates.{gate_cell, gate_lines}
use Rattle.sweep_groups.specs.Tables.{column_place, gate_pins, role_columns, visit_count, visit_group}

-- The line of a gate and those of its pins, each with its numbers in the numbers table.
pub record LinesFit (lines : List ℕ) (pins : ℕ) : Type 0 where
  pub count : pins ≤ Size.pins
  pub least : (i : ℕ) → i ≤ pins → 1 ≤ get_or lines i 0
  pub most : (i : ℕ) → i ≤ pins → get_or lines i 0 ≤ Size.lines

-- The same beside the numbers table.
pub record RowFits (lines : List ℕ) (pins : ℕ) (numbers : List ℕ) : Type 0 where
  pub lines_fit : LinesFit lines pins
  pub size : length numbers ≡ Size.numbers

-- A list of costs has, for the first `count` columns of a gate, what each asks for in the numbers table. "A row's sum is taken
-- as its lowest named column plus the sum of the rest": it is taken over these.
pub record Gathered (count kind : ℕ) (lines : List ℕ) (pins : ℕ) (numbers costs : List ℕ) : Type 0 where
  pub size : length costs ≡ Size.columns
  pub each : (j : ℕ) → j < count → at costs j ≡ at numbers (column_place kind lines pins j)

-- What gathering the columns of a visit asks: costs that are not stale are those of the numbers already.
pub record GatherFits (stale : Bool) (role kind : ℕ) (lines : List ℕ) (pins : ℕ) (numbers costs : List ℕ) : Type 0 where
  pub kind_fits : kind ≤ 1
  pub row_fits : RowFits lines pins numbers
  pub size : length costs ≡ Size.columns
  pub fresh : stale ≡ false → Gathered (role_columns role pins) kind lines pins numbers costs

-- The same for so many lines of a gate, from the last pin's back; after the first pin's comes the gate's own.
pub record LineCostsFit (kind : ℕ) (lines : List ℕ) (pins : ℕ) (numbers : List ℕ) (count : ℕ) (costs : List ℕ) : Type 0 where
  pub kind_fits : kind ≤ 1
  pub row_fits : RowFits lines pins numbers
  pub few : count ≤ pins + 1
  pub size : length costs ≡ Size.columns

-- A group and its rows, in the library table; its rows name none but the first `count` columns ("7 a row with a bit above its
-- columns").
pub record GroupFits (library : List ℕ) (group count : ℕ) : Type 0 where
  pub room : group + 1 + Size.row_words * get_or library group 0 ≤ length library
  pub depth : (i : ℕ) → i < get_or library group 0 → get_or library (group + 1 + Size.row_words * i) 0 ≤ over
  pub columns : (i : ℕ) → i < get_or library group 0 → get_or library (group + 1 + Size.row_words * i + 1) 0 < 2 ^ count

-- The rows of a group over the costs of its columns, of a kind.
pub record SumFits (kind : ℕ) (library : List ℕ) (group : ℕ) (costs : List ℕ) : Type 0 where
  pub kind_fits : kind ≤ 1
  pub group_fits : GroupFits library group Size.columns
  pub size : length costs ≡ Size.columns

-- A row of a gate with so many pins. Where it is read as one of one wire, it names columns of the pins alone.
pub record ReadFits (wired : Bool) (pins columns : ℕ) : Type 0 where
  pub few : pins ≤ Size.pins
  pub within : wired ≡ true → columns < 2 ^ (2 * pins)

-- The rows of a group of such a gate, over the costs of its columns, of a kind.
pub record LeastFits (wired : Bool) (kind : ℕ) (library : List ℕ) (group pins : ℕ) (costs : List ℕ) : Type 0 where
  pub few : pins ≤ Size.pins
  pub sum_fits : SumFits kind library group costs
  pub within : wired ≡ true → GroupFits library group (2 * pins)

pub record GateFits (library netlist : List ℕ) (g : ℕ) : Type 0 where
  pub room : gate_place g + Size.gate_words ≤ length netlist
  pub cell : cell_place (gate_cell netlist g) + Size.cell_words ≤ length library
  pub lines : LinesFit (gate_lines netlist g) (gate_pins library netlist g)
  pub groups : (role kind i : ℕ) → role ≤ 1 → kind ≤ 1 → i < visit_count role (gate_pins library netlist g)
      → GroupFits library (group_place (gate_cell netlist g) (visit_group role kind i)) (role_columns role (gate_pins library netlist g))

-- The tables.
pub record TablesFit (library netlist : List ℕ) : Type 0 where
  pub some : 1 ≤ length netlist
  pub gates : (g : ℕ) → g < get_or netlist 0 0 → GateFits library netlist g
