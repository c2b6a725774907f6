-- What a pad on trial asks and leaves. Document 02, K13.
use Rattle.std.specs.Prelude.{List, ℕ, set}
use Rattle.plans.specs.Sweep.{lower, Rests, Settles}
use Rattle.library_table.specs.Cells.{Cell}
use Rattle.netlist_table.specs.Netlist.{Statement, gates_of}
use Rattle.netlist_table.specs.Sound.{InRange}
use Rattle.calculation.specs.Nodes.{combinational, observe, node}
use Rattle.calculation.specs.Ways.{observing_visits}
use Rattle.sweep_runs.specs.Halves.{HalfFits}

-- Costs at which CO rests, beside the tables of an accepted library and netlist, and one of the 1,000 lines.
pub record TryFits (library netlist numbers : List ℕ) (line : ℕ) : Type 0 where
  pub half : HalfFits library netlist numbers
  pub rests : Rests lower (observing_visits combinational half.cells (gates_of half.statements)) numbers
  pub range : InRange line

-- CO run from these costs with the line's own at 0.
abbrev pub PadTried : List Cell → List Statement → ℕ → List ℕ → ℕ → List ℕ → Type 0
PadTried cells ss line before count after =
    Settles lower (observing_visits combinational cells (gates_of ss)) (set before (node combinational (observe line)) 0) count after
