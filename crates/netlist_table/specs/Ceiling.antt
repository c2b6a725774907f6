-- The gate ceiling. Document 02, K9: "Each gate drives a line of its own, there are 1,000 lines, and 14 comes first."
use Rattle.std.specs.Prelude.{true, List, ◌⊎◌, ◌≡◌, ◌≤◌, length}
use Rattle.sizes.specs.Sizes as Size
use Rattle.library_table.specs.Cells.{Cell}
use Rattle.netlist_table.specs.Netlist.{Gate, Statement, gate, lines_of, gates_of, any_line_bad, driven_before}
use Rattle.netlist_table.specs.Sound.{Sound}

-- `gate_ceiling_lem` of proofs/Soundness.antt. "Show that no netlist meets it": behind 1,000 gates that were admitted, one more has a
-- bad line, which is 11, or drives one that is driven before, which is 14.
abbrev pub GateCeiling : Type 0
GateCeiling =
    (cells : List Cell) (ss : List Statement) (g : Gate) →
    Sound cells ss →
    Size.gates ≤ length (gates_of ss) →
    (any_line_bad (lines_of (gate g)) ≡ true) ⊎ (driven_before ss (gate g) ≡ true)
