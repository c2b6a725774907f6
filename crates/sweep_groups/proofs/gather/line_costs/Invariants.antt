-- `line_costs` gathers the two columns of one line more with each turn.
use Rattle.common_laws.proofs.Base.{◌*◌}
use Rattle.cost.specs.Kind.{kind_index}
use Rattle.sweep_groups.specs.Fits.{Gathered}
use Rattle.sweep_groups.proofs.gather.line_costs.Given as goal

abbrev pub invariant-loop-back : goal.invariant-loop-back
invariant-loop-back l = Gathered (2 * l.back) (kind_index l.kind) l.lines l.pins l.numbers l.costs
