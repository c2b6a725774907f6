-- `pass_over` meets its contract.
use Rattle.common_laws.proofs.Base.{refl, sym, ap, ◌∙◌, arith}
use Rattle.netlist_table.specs.Gates.{gate_at}
use Rattle.netlist_table.proofs.HeldGates.{gates-start, each-end}
use Rattle.chip_loops.specs.Marks.{pass}
use Rattle.chip_loops.proofs.Steps.{pass-next, unchanged}
use Rattle.chip_loops.proofs.pass_over.Goals as goal

pub loop-gate-init : goal.loop-gate-init
loop-gate-init c =
    let a = c.args in
    let all = gates-start a.netlist.now c.count-gate-end.result c.count-gate-end.ensures in
    record { few = omega arith; left = ap (λ gs. pass gs a.marks.now) all; same = λ _. refl }

pub loop-gate-preserved : goal.loop-gate-preserved
loop-gate-preserved c =
    let l = c.loop-gate in
    let gate = gate_at c.args.netlist.now in
    let levelled = c.level_gate-changed.ensures.1 in
    record {
      few = l.invariant.few;
      left = pass-next gate c.count-gate-end.result l.gate l.marks (omega arith) levelled ∙ l.invariant.left;
      same = unchanged (gate l.gate) l.invariant.same c.level_gate-changed.ensures.0 levelled;
    }

pub returns : goal.returns
unfolding pass
returns c =
    let l = c.loop-gate in
    let none = each-end (gate_at c.args.netlist.now) c.count-gate-end.result l.gate (omega arith) in
    record { leaves = sym (ap (λ gs. pass gs l.marks) none) ∙ l.invariant.left; same = l.invariant.same }
