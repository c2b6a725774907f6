-- The costs passed stand in the buffer.
use Rattle.writer.specs.Put.{Puts}
use Rattle.report_text.specs.Report.{costs_from}
use Rattle.report_text.proofs.put_costs.Given as goal

abbrev pub invariant-loop-k : goal.invariant-loop-k
invariant-loop-k l = Puts (costs_from l.numbers l.k l.place) l.initial.report l.report
