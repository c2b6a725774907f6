-- `mark_input` marks a line that is an input.
use Rattle.chip_loops.proofs.Steps.{input-marked, input_none}
use Rattle.chip_loops.proofs.mark_input.Goals as goal

pub returns-then-driver_of-eq1 : goal.returns-then-driver_of-eq1
returns-then-driver_of-eq1 c = input-marked c.args.marks.now c.args.l c.driver_of.ensures c.if-driver_of-eq1.true c.mark.ensures

pub returns-else-driver_of-eq1 : goal.returns-else-driver_of-eq1
returns-else-driver_of-eq1 c = input_none c.args.marks.now c.args.l c.driver_of.ensures c.if-driver_of-eq1.false
