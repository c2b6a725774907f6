-- `least_in` reads the rows as was decided for the gate.
use Rattle.sweep_groups.specs.Tables.{read_row}
use Rattle.plan_marks.proofs.rows.least_in.Goals as goal

pub returns : goal.returns
unfolding read_row
returns c = rw c.if-wired.false c.least_sum.ensures
