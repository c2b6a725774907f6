-- `visit_gate` makes both visits, and after a lowered number the gates that read the line are awake.
use Rattle.common_laws.proofs.Base.{sym, ◌∙◌, arith, get_or}
use Rattle.cost.specs.Kind.{kind_index}
use Rattle.netlist_table.proofs.HeldGates.{line_at}
use Rattle.sweep_turns.proofs.VisitsLaws.{swept-length}
use Rattle.plan_marks.proofs.Turns.{swept-bounded, traced_gate}
use Rattle.plan_marks.proofs.Wakes.{nobody_woken, gate-woken}
use Rattle.plan_marks.proofs.visits.visit_gate.Goals as goal

pub visit-at_one-requires : goal.visit-at_one-requires
visit-at_one-requires c =
    let f = c.requires.fits in
    let w = c.visit-at_zero.ensures.swept in (
      record { links_fit = f.links_fit; size = swept-length w ∙ f.size; bounded = swept-bounded w f.bounded; marks_size = c.visit-at_zero.ensures.marks_long ∙ f.marks_size },
      c.requires.inside,
      omega arith,
      omega (arith, c.requires.timed),
    )

pub returns-then-not-at_zero-at_one : goal.returns-then-not-at_zero-at_one
returns-then-not-at_zero-at_one c =
    let a = c.args in
    let none = c.if-not-at_zero-at_one.true in
    let t = traced_gate (kind_index a.kind) a.circuit.now.library.now a.circuit.now.netlist.now a.gate c.visit-at_zero.ensures c.visit-at_one.ensures in
    record { traced = rw none at t; wakes = nobody_woken (kind_index a.kind) a.circuit.now.library.now a.circuit.now.netlist.now none t.swept }

pub wake_readers-requires : goal.wake_readers-requires
wake_readers-requires c =
    let a = c.args in
    let f = c.requires.fits.links_fit.tables_fit.gates a.gate c.requires.inside in
    record {
      netlist = a.circuit.now.netlist.now;
      gates = get_or a.circuit.now.netlist.now 0 0;
      chained = c.args.circuit.now.linked.chained;
      inside = rw (c.line_of.ensures, ← line_at a.circuit.now.netlist.now a.gate 0 (omega arith)) (f.lines.most 0 (omega arith));
    }

pub returns : goal.returns
returns c =
    let a = c.args in
    let some = c.if-not-at_zero-at_one.false in
    let t = traced_gate (kind_index a.kind) a.circuit.now.library.now a.circuit.now.netlist.now a.gate c.visit-at_zero.ensures c.visit-at_one.ensures in
    let r = c.wake_readers.ensures a.circuit.now.netlist.now (get_or a.circuit.now.netlist.now 0 0) c.args.circuit.now.linked.chained in
    record {
      traced = rw some at t;
      wakes = gate-woken (kind_index a.kind) a.circuit.now.library.now a.circuit.now.netlist.now c.requires.fits.links_fit.needs a.gate c.requires.inside c.line_of.ensures c.visit-at_zero.ensures.swept c.visit-at_one.ensures.swept r;
    }
