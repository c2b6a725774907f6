-- `refresh_readers` walks along the chain of the line.
use Rattle.common_laws.proofs.Base.{◌≡◌, arith}
use Rattle.budget_run.proofs.Offers.{walk_start, walk-on, walk_end}
use Rattle.budget_run.proofs.refresh_readers.Goals as goal

pub loop-gate-init : goal.loop-gate-init
loop-gate-init c =
    let a = c.args in
    walk_start a.circuit.now.library.now a.circuit.now.netlist.now a.circuit.now.links.now a.numbers.now a.line c.args.circuit.now.linked.chained a.queue.now c.requires.1 c.link_at-pin.result c.link_at-pin.ensures

pub loop-gate-preserved : goal.loop-gate-preserved
loop-gate-preserved c =
    let a = c.args in
    let l = c.loop-gate in
    let s = c.in-Some.ensures in
    rw c.link_at-next.ensures
    (walk-on a.circuit.now.library.now a.circuit.now.netlist.now a.circuit.now.links.now a.numbers.now a.line c.args.circuit.now.linked.chained a.queue.now l.pin s.0 l.invariant
    c.gate_of-then.result (rw c.link_at-next.ensures at c.gate_of-then.ensures) (rw s.1 at c.refresh_unless.ensures))

pub returns : goal.returns
returns c =
    let a = c.args in
    let l = c.loop-gate in
    let ended : l.pin ≡ 0 = omega (arith, c.in_default.ensures) in
    walk_end a.circuit.now.library.now a.circuit.now.netlist.now a.circuit.now.links.now a.numbers.now a.line c.args.circuit.now.linked.chained a.queue.now (rw ended at l.invariant)
