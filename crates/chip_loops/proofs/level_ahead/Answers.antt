-- `level_ahead` meets its contract.
use Rattle.chip_loops.specs.Marks.{Ahead.none}
use Rattle.chip_loops.proofs.Order.{ahead-both}
use Rattle.chip_loops.proofs.level_ahead.Goals as goal

pub loop-gate-init : goal.loop-gate-init
loop-gate-init c = none

pub loop-gate-preserved : goal.loop-gate-preserved
loop-gate-preserved c = ahead-both _ c.loop-gate.invariant c.level_from.ensures
