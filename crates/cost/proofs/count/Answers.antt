-- `count` is the number that a raw number counts as.
use Rattle.common_laws.proofs.Base.{arith}
use Rattle.cost.specs.Cost.{counted}
use Rattle.cost.proofs.count.Goals as goal

pub returns : goal.returns
unfolding counted
returns c = omega arith
