-- `one_sweep` goes from one awake gate to the next: the visits between change nothing and leave no mark, so that with each gate
-- all before it are visited, and the gates that are asleep stay idle.
use Rattle.common_laws.proofs.Base.{◌≡◌, ◌∙◌, ◌<◌, arith, get_or}
use Rattle.reading.specs.Choice.{pick}
use Rattle.plans.specs.Idle.{in_turn}
use Rattle.cost.specs.Kind.{kind_index}
use Rattle.sweep_groups.specs.Tables.{by_role}
use Rattle.sweep_turns.specs.Order.{turn_visits}
use Rattle.sweep_turns.proofs.VisitsLaws.{swept-length}
use Rattle.sweep_runs.proofs.Asleep.{come, skipped, rests-on}
use Rattle.plan_marks.proofs.Turns.{swept-bounded, traced_next}
use Rattle.plan_marks.proofs.Sweeps.{traced_none, traced_skipped, gates-length}
use Rattle.plan_marks.proofs.one_sweep.Goals as goal

pub loop-gate-init : goal.loop-gate-init
unfolding in_turn
loop-gate-init c =
    let a = c.args in
    let k = kind_index a.kind in (
      traced_skipped k a.circuit.now.library.now a.circuit.now.netlist.now c.requires.fits.size
          (skipped 0 k a.circuit.now.library.now a.circuit.now.netlist.now (omega arith) c.requires.resting c.next_awake-gate.ensures)
          (traced_none k a.circuit.now.library.now a.circuit.now.netlist.now a.clock a.numbers.now a.marks.now),
      c.requires.resting,
    )

pub visit_gate-lowered-requires : goal.visit_gate-lowered-requires
visit_gate-lowered-requires c =
    let l = c.loop-gate in
    let f = c.requires.fits in
    let few = c.args.circuit.now.linked.chained.count in
    let inside : l.gate < get_or c.args.circuit.now.netlist.now 0 0 = rw c.count-gates.ensures at c.loop-gate-test.true in
    record {
      fits =
          record {
            links_fit = f.links_fit;
            size = swept-length l.invariant.0.swept ∙ f.size;
            bounded = swept-bounded l.invariant.0.swept f.bounded;
            marks_size = l.invariant.0.marks_long ∙ f.marks_size;
          };
      inside = inside;
      timed = omega (arith, few, c.requires.timed);
    }

pub loop-gate-preserved : goal.loop-gate-preserved
unfolding by_role pick
loop-gate-preserved c =
    let a = c.args in
    let k = kind_index a.kind in
    let l = c.loop-gate in
    let here : l.gate < get_or a.circuit.now.netlist.now 0 0 = rw c.count-gates.ensures at c.loop-gate-test.true in
    let came : come 0 k a.circuit.now.library.now a.circuit.now.netlist.now l.gate ≡ l.gate = omega arith in
    let done = rw came at l.invariant.0 in
    let made = c.visit_gate-lowered.ensures.traced in
    let rests = rests-on 0 k a.circuit.now.library.now a.circuit.now.netlist.now l.gate here l.invariant.1 c.rest.ensures c.visit_gate-lowered.ensures.wakes made.swept in
    let next =
    traced_next k a.circuit.now.library.now a.circuit.now.netlist.now (turn_visits 0 k a.circuit.now.library.now a.circuit.now.netlist.now) l.gate
    (omega (arith, gates-length k a.circuit.now.library.now a.circuit.now.netlist.now l.gate)) done made in (
      (traced_skipped k a.circuit.now.library.now a.circuit.now.netlist.now (swept-length made.swept ∙ swept-length l.invariant.0.swept ∙ c.requires.fits.size)
          (skipped 0 k a.circuit.now.library.now a.circuit.now.netlist.now (omega arith) rests c.next_awake-gate-in-loop-gate.ensures) next),
      rests,
    )

pub returns : goal.returns
returns c =
    let a = c.args in
    let l = c.loop-gate in
    let e : come 0 (kind_index a.kind) a.circuit.now.library.now a.circuit.now.netlist.now l.gate ≡ get_or a.circuit.now.netlist.now 0 0 = omega (arith, c.count-gates.ensures) in
    record { traced = rw e at l.invariant.0; rests = l.invariant.1 }
