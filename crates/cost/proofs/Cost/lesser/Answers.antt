-- `Cost::lesser` is the lower of two costs.
use Rattle.common_laws.proofs.Base.{arith}
use Rattle.cost.specs.Cost.{lesser}
use Rattle.cost.proofs.Cost.lesser.Goals as goal

pub returns : goal.returns
unfolding lesser
returns g c = omega arith
