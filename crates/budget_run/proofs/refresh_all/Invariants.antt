-- `refresh_all` has taken the gates before one anew.
use Rattle.budget_run.specs.Steps.{AnyGate}
use Rattle.budget_run.proofs.Offers.{Partly, From}
use Rattle.budget_run.proofs.refresh_all.Given as goal

abbrev pub invariant-loop-gate : goal.invariant-loop-gate
invariant-loop-gate l = Partly l.circuit.library.now l.circuit.netlist.now l.numbers AnyGate l.fn.queue (From l.gate) l.queue
