-- `least_sum`, from the last row to the first, keeps the least sum of the rows passed, and the row summed last.
use Rattle.cost.specs.Kind.{kind_index}
use Rattle.sweep_groups.proofs.Dominated.{LeastBelow}
use Rattle.sweep_groups.proofs.least_sum.Given as goal

abbrev pub invariant-loop-row : goal.invariant-loop-row
invariant-loop-row l = LeastBelow l.library l.costs l.group (kind_index l.fn.kind) l.row l.best l.depth l.columns
