-- `goal_at` reads the line of a column's pin.
use Rattle.common_laws.proofs.Base.{refl, arith}
use Rattle.plan_text.specs.Writers.{goal_at}
use Rattle.plan_text.proofs.goal_at.Goals as goal

pub returns : goal.returns
unfolding goal_at
returns c = (rw (c.word-line.ensures, c.pin_place.ensures) refl, omega arith)
