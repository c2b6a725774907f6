-- `note_pins` meets its contract.
use Rattle.common_laws.proofs.Base.{false, refl, sym, ap, ◌∙◌, arith, not}
use Rattle.sizes.specs.Sizes as Size
use Rattle.reading.proofs.Laws.{clash}
use Rattle.netlist_table.specs.Gates.{gate_line, present}
use Rattle.netlist_table.proofs.HeldGates.{each-end}
use Rattle.chip_loops.specs.Marks.{once_each, mark_each}
use Rattle.chip_loops.proofs.Steps.{pins-go, pins_stop}
use Rattle.chip_loops.proofs.note_pins.Goals as goal

pub returns-then-not-note_line : goal.returns-then-not-note_line
returns-then-not-note_line c =
    let l = c.loop-pin in
    let stop = pins_stop (gate_line c.args.netlist.now c.args.gate) Size.gate_lines l.pin (omega arith) c.line_of.ensures
    c.note_line.ensures (ap not c.if-not-note_line.true) in
    record {
      answers = sym (sym l.invariant.0 ∙ stop);
      leaves = λ t. clash false t refl;
      size = c.note_line.ensures.size ∙ l.auto.marks;
    }

pub loop-pin-preserved : goal.loop-pin-preserved
loop-pin-preserved c =
    let l = c.loop-pin in
    let next = pins-go (gate_line c.args.netlist.now c.args.gate) Size.gate_lines l.pin (omega arith) c.line_of.ensures
    c.note_line.ensures (ap not c.if-not-note_line.false) in
    (next.0 ∙ l.invariant.0, next.1 ∙ l.invariant.1)

pub returns : goal.returns
unfolding once_each mark_each present
returns c =
    let l = c.loop-pin in
    let none = each-end (gate_line c.args.netlist.now c.args.gate) Size.gate_lines l.pin (omega arith) in
    record {
      answers = sym (ap (λ ls. once_each l.marks (present ls)) none) ∙ l.invariant.0;
      leaves = λ _. sym (ap (λ ls. mark_each l.marks (present ls)) none) ∙ l.invariant.1;
      size = l.auto.marks;
    }
