-- `judge` tells 23 before 24.
use Rattle.common_laws.proofs.Base.{ap, not}
use Rattle.reading.specs.Answer.{answer_read}
use Rattle.standing_table.proofs.TextsLaws.{taken_first, stale-next, none-refused}
use Rattle.standing_table.proofs.texts.judge.Goals as goal

pub returns-then-not-marked : goal.returns-then-not-marked
unfolding answer_read
returns-then-not-marked c =
    rw c.at.ensures (taken_first (not c.args.marked) c.args.stale (ap not c.if-not-marked.true))

pub returns-then-stale : goal.returns-then-stale
unfolding answer_read
returns-then-stale c =
    rw c.at-then-stale.ensures (stale-next (not c.args.marked) c.args.stale (ap not c.if-not-marked.false) c.if-stale.true)

pub returns : goal.returns
unfolding answer_read
returns c =
    none-refused (not c.args.marked) c.args.stale (ap not c.if-not-marked.false) c.if-stale.false
