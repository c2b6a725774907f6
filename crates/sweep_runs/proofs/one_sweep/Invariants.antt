-- All turns before the next one that is awake are done, and the turns that are asleep are idle.
use Rattle.common_laws.proofs.Base.{◌-◌}
use Rattle.cost.specs.Kind.{kind_index}
use Rattle.sweep_groups.specs.Roles.{role_index}
use Rattle.sweep_turns.specs.Renewed.{Swept}
use Rattle.sweep_runs.specs.Order.{first_gates}
use Rattle.sweep_runs.specs.Asleep.{Resting}
use Rattle.sweep_runs.proofs.Asleep.{come}
use Rattle.sweep_runs.proofs.one_sweep.Given as goal

abbrev pub invariant-loop-turn : goal.invariant-loop-turn
invariant-loop-turn l = record {
  swept : Swept (first_gates (role_index l.role) (kind_index l.kind) l.circuit.library.now l.circuit.netlist.now (come (role_index l.role) (kind_index l.kind) l.circuit.library.now l.circuit.netlist.now l.turn)) l.fn.numbers l.numbers l.changed;
  rests : Resting (role_index l.role) (kind_index l.kind) l.circuit.library.now l.circuit.netlist.now l.awake l.numbers;
}

abbrev pub decreases-loop-turn : goal.decreases-loop-turn
decreases-loop-turn l = l.gates - l.turn
