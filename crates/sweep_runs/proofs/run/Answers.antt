-- The count stays below its type's bound, and what is left to that bound falls.
use Rattle.common_laws.proofs.Base.{◌∙◌, arith}
use Rattle.cost.specs.Kind.{kind_index}
use Rattle.sweep_groups.specs.Roles.{role_index}
use Rattle.sweep_turns.proofs.VisitsLaws.{swept-length}
use Rattle.sweep_runs.specs.Order.{sweep_visits}
use Rattle.sweep_runs.proofs.Runs.{run_first, run_on, run_fits, run_ends}
use Rattle.sweep_runs.proofs.run.Goals as goal

pub loop-role-init : goal.loop-role-init
loop-role-init c =
    let a = c.args in
    record {
      size = c.requires.sweep_fits.size;
      before = run_first (sweep_visits (role_index a.role) (kind_index a.kind) a.circuit.now.library.now a.circuit.now.netlist.now) a.numbers.now;
      rests = c.requires.sweep_fits.resting;
    }

pub overflow_add-count : goal.overflow_add-count
overflow_add-count c = omega (arith, run_fits c.requires.runs c.loop-role.invariant.before c.one_sweep.ensures.swept c.loop-role-test.true)

pub loop-role-smaller : goal.loop-role-smaller
loop-role-smaller c = omega (arith, run_fits c.requires.runs c.loop-role.invariant.before c.one_sweep.ensures.swept c.loop-role-test.true)

pub loop-role-preserved : goal.loop-role-preserved
loop-role-preserved c = record {
  size = swept-length c.one_sweep.ensures.swept ∙ c.loop-role.invariant.size;
  before = run_on c.requires.runs c.loop-role.invariant.before c.one_sweep.ensures.swept c.loop-role-test.true;
  rests = c.one_sweep.ensures.rests;
}

pub returns : goal.returns
returns c = run_ends c.requires.runs c.loop-role.invariant.before c.one_sweep.ensures.swept c.loop-role-test.false
