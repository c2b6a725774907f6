-- `offer_prices` has put the prices before one.
use Rattle.budget_run.proofs.Runs.{PricedTo}
use Rattle.budget_run.proofs.offer_prices.Given as goal

abbrev pub invariant-loop-leaf : goal.invariant-loop-leaf
invariant-loop-leaf l = PricedTo l.prices l.leaf l.queue
