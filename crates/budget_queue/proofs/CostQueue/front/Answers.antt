-- `front` reads the root.
use Rattle.common_laws.proofs.Base.{arith}
use Rattle.budget_queue.proofs.Laws.{root-bounded, front_some, front_none}
use Rattle.budget_queue.proofs.CostQueue.front.Goals as goal

pub overflow_cast-cost : goal.overflow_cast-cost
overflow_cast-cost c = omega (arith, root-bounded c.self.inside.keys c.self.invariant)

pub returns-then-cost-lt-NEVER : goal.returns-then-cost-lt-NEVER
returns-then-cost-lt-NEVER c = rw (← c.self.view_is) (front_some c.self.inside.keys c.self.invariant c.if-cost-lt-NEVER.true)

pub returns-else-cost-lt-NEVER : goal.returns-else-cost-lt-NEVER
returns-else-cost-lt-NEVER c = rw (← c.self.view_is) (front_none c.self.inside.keys c.self.invariant c.if-cost-lt-NEVER.false)
