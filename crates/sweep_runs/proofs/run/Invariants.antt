-- All sweeps before this one changed something, and the turns that are asleep are idle.
use Rattle.common_laws.proofs.Base.{◌≡◌, ◌-◌, ◌^◌, length}
use Rattle.sizes.specs.Sizes as Size
use Rattle.cost.specs.Kind.{kind_index}
use Rattle.sweep_groups.specs.Roles.{role_index}
use Rattle.sweep_runs.specs.Order.{sweep_visits}
use Rattle.sweep_runs.specs.Asleep.{Resting}
use Rattle.sweep_runs.proofs.Runs.{Before}
use Rattle.sweep_runs.proofs.run.Given as goal

abbrev pub invariant-loop-role : goal.invariant-loop-role
invariant-loop-role l = record {
  size : length l.numbers ≡ Size.numbers;
  before : Before (sweep_visits (role_index l.role) (kind_index l.kind) l.circuit.library.now l.circuit.netlist.now) l.fn.numbers l.count l.numbers;
  rests : Resting (role_index l.role) (kind_index l.kind) l.circuit.library.now l.circuit.netlist.now l.awake l.numbers;
}

abbrev pub decreases-loop-role : goal.decreases-loop-role
decreases-loop-role l = 2 ^ 32 - l.count
