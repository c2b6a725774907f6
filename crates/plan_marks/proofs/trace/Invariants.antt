-- `trace` sweeps until nothing changes: what is marked then is all that the definitions remember.
use Rattle.common_laws.proofs.Base.{◌≡◌, ◌*◌, ◌≤◌, length}
use Rattle.sizes.specs.Sizes as Size
use Rattle.cost.specs.Kind.{kind_index}
use Rattle.plans.specs.Sweep.{Bounded}
use Rattle.sweep_runs.specs.Asleep.{Resting}
use Rattle.plan_marks.specs.Marks.{Stands}
use Rattle.plan_marks.proofs.Run.{after}
use Rattle.plan_marks.proofs.trace.Given as goal

abbrev pub invariant-loop : goal.invariant-loop
invariant-loop l =
    let kind = kind_index l.kind in
    (l.clock ≤ 2 * Size.gates * l.counter)
    × ((after kind l.library l.netlist l.counter).time ≡ l.clock)
    × Stands kind l.library l.netlist (after kind l.library l.netlist l.counter) l.numbers l.marks
    × (length l.numbers ≡ Size.numbers)
    × (length l.marks ≡ Size.marks)
    × Bounded l.numbers
    × Resting 0 kind l.library l.netlist l.awake l.numbers
