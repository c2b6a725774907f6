-- The links of a netlist, over the netlist table (docs/TABLES.md): the gates that read a line, the gate that drives it, and the
-- gates whose pins are tied. All stand in one array; `sizes` has where each part of it begins.
use Rattle.std.specs.Prelude.{List, ◌≡◌, ℕ, ◌+◌, ◌*◌, ◌-◌, ◌/◌, ◌%◌, ◌≤◌, ◌<◌, length, get_or, replicate}
use Rattle.sizes.specs.Sizes as Size
use Rattle.reading.specs.Choice.{pick}
use Rattle.netlist_table.specs.Gates.{gate_line, LinesStand}
use Rattle.sweep_groups.specs.Tables.{gate_tied}
use Rattle.sweep_groups.specs.Fits.{TablesFit}

-- ---- places: each has a line

-- The highest place below `end` that has the line, 0 where none has it. Places count from 1.
pub record Highest (line_of : ℕ → ℕ) (line end r : ℕ) : Type 0 where
  pub below : r < end
  pub same : 0 < r → line_of r ≡ line
  pub most : (p : ℕ) → 0 < p → p < end → line_of p ≡ line → p ≤ r

-- A part of the links has the highest place for each line.
abbrev pub Highests : (ℕ → ℕ) → ℕ → ℕ → List ℕ → Type 0
Highests line_of end part links = (line : ℕ) → line ≤ Size.lines → Highest line_of line end (get_or links (part + line) 0)

-- A part by line, before any place is in it.
abbrev pub NoPlaces : ℕ → List ℕ → Type 0
NoPlaces part links = (line : ℕ) → line ≤ Size.lines → get_or links (part + line) 0 ≡ 0

-- ---- readers

-- The pins of all gates one after the other, from 1: pin i of gate g stands at place g * pins + i. The gate of a place, and its
-- line.
abbrev pub pin_gate : ℕ → ℕ
pin_gate p = (p - 1) / Size.pins

abbrev pub pin_line : List ℕ → ℕ → ℕ
pin_line netlist p = gate_line netlist (pin_gate p) ((p - 1) % Size.pins + 1)

-- For each line the highest pin that reads it, and for each pin the highest below it that reads the same line: so no reader is
-- jumped over, and a walk falls.
pub record Chained (netlist : List ℕ) (gates : ℕ) (links : List ℕ) : Type 0 where
  pub count : gates ≤ Size.gates
  pub firsts : Highests (pin_line netlist) (gates * Size.pins + 1) Size.readers_at links
  pub nexts : (p : ℕ) → 0 < p → p ≤ gates * Size.pins → Highest (pin_line netlist) (pin_line netlist p) p (get_or links (Size.next_at + p) 0)

-- ---- drivers

-- The line of a gate, gates from 1 here.
abbrev pub driven_line : List ℕ → ℕ → ℕ
driven_line netlist p = gate_line netlist (p - 1) 0

-- For each line the last gate that drives it. In an accepted netlist no line is driven twice, so that it is the only one.
pub record Driven (netlist : List ℕ) (gates : ℕ) (links : List ℕ) : Type 0 where
  pub count : gates ≤ Size.gates
  pub last : Highests (driven_line netlist) (gates + 1) Size.drivers_at links

-- ---- gates whose rows are read as those of one wire

-- It is told of each gate whether they are.
pub record Tied (library netlist : List ℕ) (gates : ℕ) (links : List ℕ) : Type 0 where
  pub each : (g : ℕ) → g < gates → get_or links (Size.tied_at + g) 0 ≡ pick (gate_tied library netlist g) 1 0

-- ---- all of them

-- What `link` asks: tables that can be read, and links that are none yet.
pub record LinkFits (library netlist links : List ℕ) : Type 0 where
  pub lines_stand : LinesStand netlist (get_or netlist 0 0)
  pub tables_fit : TablesFit library netlist
  pub none : links ≡ replicate Size.links 0

pub record Links (library netlist links : List ℕ) : Type 0 where
  pub chained : Chained netlist (get_or netlist 0 0) links
  pub driven : Driven netlist (get_or netlist 0 0) links
  pub tied : Tied library netlist (get_or netlist 0 0) links

-- What each of its loops asks. `chain` and `note_drivers`: gates whose lines stand, and a part with no place in it.
pub record PartFits (part : ℕ) (netlist : List ℕ) (gates : ℕ) (links : List ℕ) : Type 0 where
  pub lines_stand : LinesStand netlist gates
  pub none : NoPlaces part links
  pub size : length links ≡ Size.links

-- `chain_gate`: a gate whose lines stand, and the chains of the gates before it.
pub record GateFits (netlist : List ℕ) (gate : ℕ) (links : List ℕ) : Type 0 where
  pub lines_stand : LinesStand netlist (gate + 1)
  pub chained : Chained netlist gate links
  pub size : length links ≡ Size.links

pub record NoteFits (library netlist : List ℕ) (gates : ℕ) (links : List ℕ) : Type 0 where
  pub count : gates ≡ get_or netlist 0 0
  pub few : gates ≤ Size.gates
  pub tables_fit : TablesFit library netlist
  pub size : length links ≡ Size.links

-- No place changes but those from `low` on, to below `high`.
pub record Kept (low high : ℕ) (before after : List ℕ) : Type 0 where
  pub size : length after ≡ length before
  pub below : (p : ℕ) → p < low → get_or after p 0 ≡ get_or before p 0
  pub above : (p : ℕ) → high ≤ p → get_or after p 0 ≡ get_or before p 0
