-- `level_from` meets its contract.
use Rattle.chip_loops.specs.Marks.{Ahead.none}
use Rattle.chip_loops.proofs.Order.{ahead-both}
use Rattle.chip_loops.proofs.level_from.Goals as goal

pub loop-init : goal.loop-init
loop-init c = none

pub returns-in_default : goal.returns-in_default
returns-in_default c = ahead-both _ c.level_or_wait.ensures (ahead-both _ c.loop.invariant c.wake_one.ensures)

pub loop-preserved : goal.loop-preserved
loop-preserved c = ahead-both _ c.loop.invariant c.wake_one.ensures

pub returns : goal.returns
returns c = ahead-both _ c.level_or_wait.ensures c.loop.invariant
