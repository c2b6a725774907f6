-- `three_decimals` is `three_decimals`, numeral by numeral.
use Rattle.common_laws.proofs.Base.{refl}
use Rattle.text.specs.Numeral.{numeral_read}
use Rattle.scoap_plan.specs.Arguments.{three_decimals}
use Rattle.scoap_plan.proofs.arguments.three_decimals.Goals as goal

pub returns-in_err-line : goal.returns-in_err-line
unfolding three_decimals numeral_read
returns-in_err-line c = rw (c.from_residual.ensures, c.in_err-line.was) refl

pub returns-in_err-value : goal.returns-in_err-value
unfolding three_decimals numeral_read
returns-in_err-value c = rw (c.from_residual-in_err-value.ensures, c.in_ok-line.was, c.in_err-value.was) refl

pub returns-in_err-kind : goal.returns-in_err-kind
unfolding three_decimals numeral_read
returns-in_err-kind c = rw (c.from_residual-in_err-kind.ensures, c.in_ok-line.was, c.in_ok-value.was, c.in_err-kind.was) refl

pub returns : goal.returns
unfolding three_decimals numeral_read
returns c = rw (c.in_ok-line.was, c.in_ok-value.was, c.in_ok-kind.was) refl
