-- `cost_at` reads a key, whose cost is at most never.
use Rattle.common_laws.proofs.Base.{arith}
use Rattle.budget_queue.specs.Queue.{cost_at}
use Rattle.budget_queue.proofs.CostQueue.cost_at.Goals as goal

pub overflow_cast-result : goal.overflow_cast-result
unfolding cost_at
overflow_cast-result c = omega (arith, c.self.invariant.bounded c.args.leaf c.requires)

pub returns : goal.returns
unfolding cost_at
returns c = rw c.self.view_is
