-- `bar_all` bars what one entry more names.
use Rattle.advice_calls.proofs.LinesLaws.{barred-next}
use Rattle.advice_calls.proofs.lines.bar_all.Goals as goal

pub loop-entry-preserved : goal.loop-entry-preserved
loop-entry-preserved c =
    let l = c.loop-entry in
    barred-next c.args.forbidden.now l.entry-index c.loop-entry-test.true l.barred c.bar.new.barred l.invariant c.bar.ensures
