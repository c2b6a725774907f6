-- The marks as numbers of a table: what stands there of the visit that last lowered a number.
-- A kind is a number here, 0 combinational and 1 sequential.
use Rattle.std.specs.Prelude.{List, ◌≡◌, ℕ, suc, ◌+◌, ◌*◌, ◌≤◌, ◌<◌, length, get_or}
use Rattle.std.proofs.Math.Option.{Option, none, some}
use Rattle.sizes.specs.Sizes as Size
use Rattle.sizes.specs.Places.{heading_place, group_place, gate_place, setting_place, mark_place}
use Rattle.plans.specs.Trace.{Mark, Trace, mark_at}
use Rattle.netlist_table.specs.Gates.{gate_cell, gate_lines}
use Rattle.sweep_groups.specs.Tables.{read_row, gate_pins, visit_group, gate_tied}
use Rattle.plan_marks.specs.Rows.{way_row, as_written, asking_columns}

-- A row of the group of a gate's output at a value: where it stands in the library table.
abbrev pub row_place : ℕ → List ℕ → ℕ → ℕ → ℕ → ℕ
row_place kind netlist g v row = group_place (gate_cell netlist g) (visit_group 0 kind v) + 1 + Size.row_words * row

-- The row of the group of a gate's output at a value that is way k.
abbrev pub gate_row : ℕ → List ℕ → List ℕ → ℕ → ℕ → ℕ → ℕ
gate_row kind library netlist g v k =
    let group = group_place (gate_cell netlist g) (visit_group 0 kind v) in
    way_row (read_row (gate_tied library netlist g) (gate_lines netlist g) (gate_pins library netlist g)) library (get_or library group 0) (group + 1) k

-- Where the line of a gate's last pin stands in the netlist table.
abbrev pub last_pin : List ℕ → List ℕ → ℕ → ℕ
last_pin library netlist g = gate_place g + 1 + gate_pins library netlist g

-- A row of a gate's cell that stands at a place of the library table: as it is written, and by the columns by which it asks.
abbrev pub written_row : List ℕ → List ℕ → ℕ → ℕ → ℕ
written_row library netlist g at =
    as_written (get_or library (heading_place (gate_cell netlist g)) 0) (get_or library at 0) (get_or library (at + 1) 0)

abbrev pub asking_row : List ℕ → List ℕ → ℕ → ℕ → ℕ
asking_row library netlist g at =
    asking_columns (gate_tied library netlist g) (gate_lines netlist g) (gate_pins library netlist g) (get_or library (at + 1) 0)

module _ (kind : ℕ) (library netlist : List ℕ) where
  -- The mark of a line at a value stands in the table: the visit, counted from 1, the row of the gate that drives the line, as
  -- it is written and by the columns by which it asks, and where the gate's last pin stands.
  pub record Noted (l v : ℕ) (m : Mark) (table : List ℕ) : Type 0 where
    pub gate : ℕ
    pub inside : gate < get_or netlist 0 0
    pub drives : get_or (gate_lines netlist gate) 0 0 ≡ l
    pub visit : get_or table (mark_place l v) 0 ≡ suc m.time
    pub row : get_or table (mark_place l v + 1) 0 ≡ written_row library netlist gate (row_place kind netlist gate v (gate_row kind library netlist gate v m.place))
    pub columns : get_or table (mark_place l v + 2) 0 ≡ asking_row library netlist gate (row_place kind netlist gate v (gate_row kind library netlist gate v m.place))
    pub last : get_or table (mark_place l v + 3) 0 ≡ last_pin library netlist gate

  -- Where there is no mark, visit and columns are 0.
  pub record Unnoted (l v : ℕ) (table : List ℕ) : Type 0 where
    pub visit : get_or table (mark_place l v) 0 ≡ 0
    pub columns : get_or table (mark_place l v + 2) 0 ≡ 0

  unfoldable pub NotedAs : Option Mark → ℕ → ℕ → List ℕ → Type 0
  NotedAs none l v table = Unnoted l v table
  NotedAs (some m) l v table = Noted l v m table

  -- All marks stand in the table.
  abbrev pub AllNoted : List (Option Mark) → List ℕ → Type 0
  AllNoted ms table = (l v : ℕ) → 1 ≤ l → l ≤ Size.lines → v ≤ 1 → NotedAs (mark_at ms (setting_place kind l v)) l v table

  -- The numbers and the table have what is remembered.
  pub record Stands (t : Trace) (numbers table : List ℕ) : Type 0 where
    pub numbers_are : numbers ≡ t.numbers
    pub long : length t.marks ≡ Size.numbers
    pub noted : AllNoted t.marks table
