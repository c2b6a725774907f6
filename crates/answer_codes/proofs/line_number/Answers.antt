-- `line_number` tells a line by itself, that there is none by 0.
use Rattle.common_laws.proofs.Base.{refl}
use Rattle.answer_codes.specs.Advice.{advice_line}
use Rattle.answer_codes.proofs.line_number.Goals as goal

pub returns-in-Some : goal.returns-in-Some
unfolding advice_line
returns-in-Some c = rw c.in-Some.is refl

pub returns-in-None : goal.returns-in-None
unfolding advice_line
returns-in-None c = rw c.in-None.is refl
