-- `one_sweep` goes from one awake gate to the next: the visits between change nothing and leave no mark, so that with each gate
-- all before it are visited, and the gates that are asleep stay idle.
use Rattle.common_laws.proofs.Base.{◌-◌}
use Rattle.cost.specs.Kind.{kind_index}
use Rattle.sweep_runs.specs.Asleep.{Resting}
use Rattle.sweep_runs.specs.Order.{first_gates}
use Rattle.sweep_runs.proofs.Asleep.{come}
use Rattle.plan_marks.specs.Visits.{Traced}
use Rattle.plan_marks.proofs.one_sweep.Given as goal

abbrev pub invariant-loop-gate : goal.invariant-loop-gate
invariant-loop-gate l =
    let kind = kind_index l.kind in
    Traced kind l.circuit.library.now l.circuit.netlist.now (first_gates 0 kind l.circuit.library.now l.circuit.netlist.now (come 0 kind l.circuit.library.now l.circuit.netlist.now l.gate)) l.clock l.fn.numbers l.fn.marks l.numbers l.marks l.changed
    × Resting 0 kind l.circuit.library.now l.circuit.netlist.now l.awake l.numbers

abbrev pub decreases-loop-gate : goal.decreases-loop-gate
decreases-loop-gate l = l.gates - l.gate
