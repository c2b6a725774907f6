-- `place_pads` marks one pad after the other.
use Rattle.common_laws.proofs.Base.{true, List, take, drop}
use Rattle.sizes.specs.Sizes as Size
use Rattle.library_table.specs.Cells.{Cell}
use Rattle.netlist_table.specs.Netlist.{Statement}
use Rattle.calculation.specs.Stored.{Holds}
use Rattle.standing_table.specs.Parts.{PadsTried}
use Rattle.standing_table.proofs.texts.place_pads.Given as goal

abbrev pub invariant-loop-i : goal.invariant-loop-i
invariant-loop-i l =
    (cells : List Cell) (ss : List Statement) → Holds l.library l.fn.netlist cells ss
    → PadsTried l.library cells ss (take l.i (drop Size.pads_at l.standing)) l.netlist true
