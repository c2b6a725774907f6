-- With all gates awake nothing is asleep.
use Rattle.cost.specs.Kind.{kind_index}
use Rattle.sweep_groups.specs.Roles.{role_index}
use Rattle.sweep_runs.proofs.Asleep.{all_rest}
use Rattle.sweep_runs.proofs.run_all.Goals as goal

pub run-requires : goal.run-requires
run-requires c =
    let a = c.args in
    let p = c.requires in
    record {
      sweep_fits =
          record {
            links_fit = p.links_fit;
            size = p.size;
            resting = all_rest (role_index a.role) (kind_index a.kind) a.circuit.now.library.now a.circuit.now.netlist.now a.circuit.now.linked.chained.count c.all_awake-awake.ensures;
          };
      runs = p.runs;
    }
