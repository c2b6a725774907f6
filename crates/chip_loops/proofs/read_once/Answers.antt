-- `read_once` meets its contract.
use Rattle.common_laws.proofs.Base.{flat_map, refl, sym, ap, ◌∙◌, arith, not}
use Rattle.netlist_table.specs.Gates.{gate_at}
use Rattle.netlist_table.proofs.HeldGates.{gates-start, each-end}
use Rattle.chip_loops.specs.Marks.{no_marks, once_each, pins_of, read_once}
use Rattle.chip_loops.proofs.Steps.{gates-go, gates_stop}
use Rattle.chip_loops.proofs.read_once.Goals as goal

pub loop-gate-init : goal.loop-gate-init
unfolding read_once
loop-gate-init c =
    let all = gates-start c.args.netlist.now c.count-gate-end.result c.count-gate-end.ensures in
    record { few = omega arith; size = refl; left = ap (λ gs. once_each no_marks (pins_of gs)) all }

pub returns-then-not-note_pins : goal.returns-then-not-note_pins
returns-then-not-note_pins c =
    let l = c.loop-gate in
    let stop = gates_stop c.args.netlist.now c.count-gate-end.result l.gate (omega arith) c.note_pins.ensures in
    sym (sym l.invariant.left ∙ stop (ap not c.if-not-note_pins.true))

pub loop-gate-preserved : goal.loop-gate-preserved
loop-gate-preserved c =
    let l = c.loop-gate in
    let go = gates-go c.args.netlist.now c.count-gate-end.result l.gate (omega arith) c.note_pins.ensures in
    record {
      few = l.invariant.few;
      size = c.note_pins.ensures.size ∙ l.invariant.size;
      left = go (ap not c.if-not-note_pins.false) ∙ l.invariant.left;
    }

pub returns : goal.returns
unfolding once_each flat_map
returns c =
    let l = c.loop-gate in
    let none = each-end (gate_at c.args.netlist.now) c.count-gate-end.result l.gate (omega arith) in
    sym (ap (λ gs. once_each l.marks (pins_of gs)) none) ∙ l.invariant.left
