-- A gate of the netlist table with its cell of the library table, read place for place: what the columns of its rows ask for,
-- and its visits. `proofs/Bridge.antt` shows that at the tables of accepted cells and statements these are the
-- visits of crate `calculation`.
-- A kind is a number here, 0 combinational and 1 sequential, and so is a role, 0 setting and 1 observing.
use Rattle.std.specs.Prelude.{Bool, true, false, List, [], ◌∷◌, ℕ, zero, suc, ◌+◌, ◌*◌, ◌-◌, ◌/◌, ◌%◌, leb, eqb, get_or}
use Rattle.std.proofs.Math.Option.{Option, none, some}
use Rattle.sizes.specs.Sizes as Size
use Rattle.sizes.specs.Places.{cell_place, pins_place, group_place, setting_place, observing_place}
use Rattle.reading.specs.Choice.{pick}
use Rattle.plans.specs.System.{Way, Visit}
use Rattle.netlist_table.specs.Gates.{gate_cell, gate_lines}
use Rattle.sweep_sums.specs.Columns.{column_places, named_columns}
use Rattle.sweep_wires.specs.Wires.{once_columns, both_columns, tied_at}

-- ---- rows

-- The place of what column j asks for at a gate with so many pins: `lines` are the line that the gate drives and the lines that
-- its pins read, so that the columns from the lowest up name the lines from the last to the first, each at 1 and then at 0,
-- and last the first line observed.
unfoldable pub column_place : ℕ → List ℕ → ℕ → ℕ → ℕ
column_place kind lines pins j =
    pick (leb (j / 2) pins)
    (setting_place kind (get_or lines (pins - j / 2) 0) (1 - j % 2))
    (observing_place kind (get_or lines 0 0))

-- The places of the columns that a row names.
unfoldable pub row_places : ℕ → List ℕ → ℕ → ℕ → List ℕ
row_places kind lines pins columns = column_places (column_place kind lines pins) 32 0 columns

-- The columns by which a row asks, of those that it names: all, or where it is read as a row of one wire (document 02, K7) each
-- line once; none where it is no way.
unfoldable pub read_row : Bool → List ℕ → ℕ → ℕ → Option ℕ
read_row true lines pins columns = pick (both_columns lines pins columns) none (some (once_columns lines pins columns))
read_row false lines pins columns = some columns

-- Whether it is a way.
unfoldable pub has_way : Option ℕ → Bool
has_way none = false
has_way (some columns) = true

-- One way more, of the row with this depth whose columns are read so.
unfoldable pub with_way : ℕ → (ℕ → List ℕ) → Option ℕ → List Way → List Way
with_way depth places none ws = ws
with_way depth places (some columns) ws = record { depth = depth; needs = places columns } ∷ ws

-- The rows of a group, `count` of them from a place of the library table on.
unfoldable pub row_ways : (ℕ → Option ℕ) → (ℕ → List ℕ) → List ℕ → ℕ → ℕ → List Way
row_ways read places library zero at = []
row_ways read places library (suc count) at =
    with_way (get_or library at 0) places (read (get_or library (at + 1) 0)) (row_ways read places library count (at + Size.row_words))

unfoldable pub group_ways : (ℕ → Option ℕ) → (ℕ → List ℕ) → List ℕ → ℕ → List Way
group_ways read places library group = row_ways read places library (get_or library group 0) (group + 1)

-- ---- the same rows over the costs of the columns, which stand in a list of their own, each by its bit

abbrev pub group_columns : (ℕ → Option ℕ) → List ℕ → ℕ → List Way
group_columns read library group = group_ways read named_columns library group

-- A group whose number stands at a place.
unfoldable pub group_visit : Bool → ℕ → List ℕ → ℕ → List ℕ → ℕ → ℕ → Visit
group_visit wired kind lines pins library group place =
    record { node = place; ways = group_ways (read_row wired lines pins) (row_places kind lines pins) library group }

-- ---- gates

abbrev pub gate_pins : List ℕ → List ℕ → ℕ → ℕ
gate_pins library netlist g = get_or library (pins_place (gate_cell netlist g)) 0

-- ---- a gate's visits, i from 0: its output's values where lines are set, its pins where they are observed

-- One thing where lines are set, another where they are observed.
unfoldable pub by_role : {A : Type 0} → ℕ → A → A → A
by_role role setting observing = pick (eqb role 0) setting observing

-- How many columns a row has: those of the pins, in CO and SO rows those of the output too.
abbrev pub role_columns : ℕ → ℕ → ℕ
role_columns role pins = by_role role (2 * pins) (2 * pins + 3)

abbrev pub visit_count : ℕ → ℕ → ℕ
visit_count role pins = by_role role Size.values pins

abbrev pub visit_group : ℕ → ℕ → ℕ → ℕ
visit_group role kind i = by_role role (Size.cc_group + kind * Size.values + i) (Size.co_group + kind * Size.pins + i)

abbrev pub visit_place : ℕ → ℕ → List ℕ → ℕ → ℕ
visit_place role kind lines i = by_role role (setting_place kind (get_or lines 0 0) i) (observing_place kind (get_or lines (i + 1) 0))

-- Whether a gate's rows are read as those of one wire: CC and SC rows, "CO and SO rows keep document 01's reading".
abbrev pub gate_tied : List ℕ → List ℕ → ℕ → Bool
gate_tied library netlist g =
    tied_at library (cell_place (gate_cell netlist g)) (gate_lines netlist g) (gate_pins library netlist g)

abbrev pub visit_wired : ℕ → List ℕ → List ℕ → ℕ → Bool
visit_wired role library netlist g = by_role role (gate_tied library netlist g) false

unfoldable pub gate_visit : ℕ → ℕ → List ℕ → List ℕ → ℕ → ℕ → Visit
gate_visit role kind library netlist g i =
    group_visit (visit_wired role library netlist g) kind (gate_lines netlist g) (gate_pins library netlist g) library
    (group_place (gate_cell netlist g) (visit_group role kind i))
    (visit_place role kind (gate_lines netlist g) i)
