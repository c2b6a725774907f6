-- `refresh_readers` walks along the chain of the line.
use Rattle.budget_run.proofs.Offers.{Walk}
use Rattle.budget_run.proofs.refresh_readers.Given as goal

abbrev pub invariant-loop-gate : goal.invariant-loop-gate
invariant-loop-gate l = Walk l.circuit.library.now l.circuit.netlist.now l.numbers l.line l.fn.queue l.pin l.queue

abbrev pub decreases-loop-gate : goal.decreases-loop-gate
decreases-loop-gate l = l.pin
