-- `empty` has the key of never everywhere.
use Rattle.budget_queue.proofs.Laws.{empty-queue, empty_costs}
use Rattle.budget_queue.proofs.CostQueue.empty.Goals as goal

pub invariant_of-result : goal.invariant_of-result
invariant_of-result c = empty-queue c.key_of-none.ensures

pub returns : goal.returns
returns c = empty_costs c.key_of-none.ensures
