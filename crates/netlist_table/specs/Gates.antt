-- What a netlist table says of its gates, whatever stands in it (docs/TABLES.md); a place past its end counts as 0.
-- `proofs/HeldGates.antt` shows that of a table that holds statements these are their gates.
use Rattle.std.specs.Prelude.{List, [], ◌∷◌, ℕ, zero, suc, ◌+◌, ◌≤◌, ◌<◌, min, eqb, length, get_or, take, drop}
use Rattle.sizes.specs.Sizes as Size
use Rattle.sizes.specs.Places.{gate_place}
use Rattle.reading.specs.Choice.{pick}
use Rattle.netlist_table.specs.Netlist.{Gate}

-- ---- one gate

-- Its cell, from 0 in library order.
abbrev pub gate_cell : List ℕ → ℕ → ℕ
gate_cell table g = get_or table (gate_place g) 0

-- Line i of a gate: line 0 is the one that it drives, line i the one that its pin i reads, 0 where it has no such pin.
abbrev pub gate_line : List ℕ → ℕ → ℕ → ℕ
gate_line table g i = get_or table (gate_place g + 1 + i) 0

-- All its lines.
unfoldable pub gate_lines : List ℕ → ℕ → List ℕ
gate_lines table g = take Size.gate_lines (drop (gate_place g + 1) table)

-- One for each of so many numbers, from `first` on.
unfoldable pub each_of : {A : Type 0} → (ℕ → A) → ℕ → ℕ → List A
each_of f zero first = []
each_of f (suc n) first = f first ∷ each_of f n (suc first)

-- The numbers but 0, which stands where a gate has no pin.
unfoldable pub present : List ℕ → List ℕ
present [] = []
present (l ∷ ls) = pick (eqb l 0) (present ls) (l ∷ present ls)

-- The lines of its pins.
abbrev pub pin_lines : List ℕ → ℕ → List ℕ
pin_lines table g = present (each_of (gate_line table g) Size.pins 1)

unfoldable pub gate_at : List ℕ → ℕ → Gate
gate_at table g = record { cell = gate_cell table g; line = gate_line table g 0; pins = pin_lines table g }

-- A gate where a reader of a list wants one.
unfoldable pub no_gate : Gate
no_gate = record { cell = 0; line = 0; pins = [] }

-- ---- all gates

-- Their count, as it stands in the table; and no more of them than there may be.
abbrev pub gate_count : List ℕ → ℕ
gate_count table = get_or table 0 0

abbrev pub count_held : List ℕ → ℕ
count_held table = min (gate_count table) Size.gates

unfoldable pub gates_held : List ℕ → List Gate
gates_held table = each_of (gate_at table) (count_held table) 0

-- The lines of the first `gates` gates stand in the table, each a line's number or 0.
pub record LinesStand (table : List ℕ) (gates : ℕ) : Type 0 where
  pub count : gates ≤ Size.gates
  pub room : gate_place gates ≤ length table
  pub most : (g i : ℕ) → g < gates → i < Size.gate_lines → gate_line table g i ≤ Size.lines
