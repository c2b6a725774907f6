-- A comma and a cost more with each turn.
use Rattle.common_laws.proofs.Base.{add-one}
use Rattle.report_text.specs.Report.{costs_from}
use Rattle.writer.proofs.Steps.{puts-none, puts_then}
use Rattle.report_text.proofs.Steps.{costs-more}
use Rattle.report_text.proofs.put_costs.Goals as goal

pub loop-k-init : goal.loop-k-init
unfolding costs_from
loop-k-init c = puts-none _

pub loop-k-preserved : goal.loop-k-preserved
loop-k-preserved c =
    let l = c.loop-k in
    rw (add-one l.k, costs-more c.args.numbers.now l.k c.args.place, ← c.word.ensures)
    (puts_then l.invariant (puts_then c.put_byte.ensures c.put_cost.ensures))
