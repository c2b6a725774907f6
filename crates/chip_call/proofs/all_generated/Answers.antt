-- `all_generated` meets its contract.
use Rattle.common_laws.proofs.Base.{sym, ap, ◌∙◌, arith, not}
use Rattle.sizes.specs.Sizes as Size
use Rattle.netlist_table.proofs.HeldGates.{gates-start}
use Rattle.chip_call.specs.Qualified.{all_generated}
use Rattle.chip_call.proofs.Judged.{known-none, generated_stop, generated-on, generated-end}
use Rattle.chip_call.proofs.all_generated.Goals as goal

pub loop-gate-init : goal.loop-gate-init
loop-gate-init c =
    let a = c.args in
    let all = gates-start a.netlist.now c.count-gate-end.result c.count-gate-end.ensures in
    record { few = omega arith; known = known-none a.library.now Size.cells; left = ap (λ gs. all_generated a.library.now gs) all }

pub returns-then-not-judge : goal.returns-then-not-judge
returns-then-not-judge c =
    let l = c.loop-gate in
    let a = c.args in
    sym (sym l.invariant.left
    ∙ generated_stop a.library.now a.netlist.now c.count-gate-end.result l.gate (omega arith) c.cell_of.ensures c.judge.ensures.answer (ap not c.if-not-judge.true))

pub loop-gate-preserved : goal.loop-gate-preserved
loop-gate-preserved c =
    let l = c.loop-gate in
    let a = c.args in
    record {
      few = l.invariant.few;
      known = c.judge.ensures.still;
      left =
          generated-on a.library.now a.netlist.now c.count-gate-end.result l.gate (omega arith) c.cell_of.ensures c.judge.ensures.answer (ap not c.if-not-judge.false)
          ∙ l.invariant.left;
    }

pub returns : goal.returns
returns c =
    let l = c.loop-gate in
    sym (generated-end c.args.library.now c.args.netlist.now c.count-gate-end.result l.gate (omega arith)) ∙ l.invariant.left
