-- `asking_columns` goes by how the gate's rows are read.
use Rattle.reading.specs.Choice.{pick}
use Rattle.plan_marks.specs.Rows.{asking_columns}
use Rattle.plan_marks.proofs.rows.asking_columns.Goals as goal

pub returns-then-wired : goal.returns-then-wired
unfolding asking_columns pick
returns-then-wired c = rw c.if-wired.true c.once.ensures

pub returns : goal.returns
unfolding asking_columns pick
returns c = rw c.if-wired.false
