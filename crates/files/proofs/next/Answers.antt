-- `next` tells a read's answer by whether it is an error and by where the bytes end.
use Rattle.common_laws.proofs.Base.{length}
use Rattle.reading.specs.Choice.{pick}
use Rattle.files.proofs.Answers.{failed, went}
use Rattle.files.proofs.next.Goals as goal

pub returns-in_default : goal.returns-in_default
returns-in_default c = rw c.in_default.is (failed _ _ _)

pub returns-then-end-at : goal.returns-then-end-at
unfolding pick
returns-then-end-at c =
    rw c.if-end-at.true at (went (length c.args.buffer.now) c.args.at c.args.got c.in-Ok.count c.min.result c.in-Ok.is c.min.ensures)

pub returns-else-end-at : goal.returns-else-end-at
unfolding pick
returns-else-end-at c =
    rw c.if-end-at.false at (went (length c.args.buffer.now) c.args.at c.args.got c.in-Ok.count c.min.result c.in-Ok.is c.min.ensures)
