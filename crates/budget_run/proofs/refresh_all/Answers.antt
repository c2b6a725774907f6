-- `refresh_all` takes one gate more with each turn.
use Rattle.common_laws.proofs.Base.{◌+◌, arith}
use Rattle.budget_run.specs.Steps.{AnyGate}
use Rattle.budget_run.proofs.Offers.{From, from_next, partly-on, partly-all}
use Rattle.budget_run.proofs.refresh_all.Goals as goal

pub loop-gate-preserved : goal.loop-gate-preserved
loop-gate-preserved c =
    let a = c.args in
    let l = c.loop-gate in
    partly-on a.circuit.now.library.now a.circuit.now.netlist.now a.numbers.now AnyGate a.queue.now (From l.gate) (From (l.gate + 1)) l.gate (from_next l.gate)
    (rw c.count-gate-end.ensures at c.loop-gate-test.true) l.invariant c.refresh_gate.ensures

pub returns : goal.returns
returns c =
    let a = c.args in
    partly-all a.circuit.now.library.now a.circuit.now.netlist.now a.numbers.now AnyGate a.queue.now (From c.loop-gate.gate)
    (λ g b t. omega (arith, c.count-gate-end.ensures, c.loop-gate-test.false)) c.loop-gate.invariant
