-- `admit_gate` checks a gate and admits it.
use Rattle.common_laws.proofs.Base.{sym, ◌∙◌}
use Rattle.std.proofs.lemmas.Result.{err_from_is_err_and}
use Rattle.reading.specs.Cause.{refusal_number}
use Rattle.reading.proofs.Causes.{number-some}
use Rattle.netlist_admission.proofs.Outcomes.{gate-own, gate-driven, gate-admitted}
use Rattle.netlist_admission.proofs.kinds.admit_gate.Goals as goal

pub returns-in_err-gate_cause : goal.returns-in_err-gate_cause
unfolding refusal_number
returns-in_err-gate_cause c cells g lib is ss so h =
    let p = err_from_is_err_and c.from_residual.result c.from_residual.ensures.1 in
    rw (p.1, p.2) (gate-own cells h g _ (c.in_err-gate_cause.ensures cells g lib is) (number-some _))

pub returns-then-driver_of-ne0 : goal.returns-then-driver_of-ne0
unfolding refusal_number
returns-then-driver_of-ne0 c cells g lib is ss so h =
    gate-driven cells h g (c.in_ok-gate_cause.ensures cells g lib is) (λ e. c.if-driver_of-ne0.true (c.driver_of.ensures ∙ rw is.line e))

pub returns : goal.returns
unfolding refusal_number
returns c cells g lib is ss so h =
    let a = c.args in
    let done =
    gate-admitted cells h g (c.in_ok-gate_cause.ensures cells g lib is) (rw (← is.line) (sym c.driver_of.ensures ∙ c.if-driver_of-ne0.false)) a.s is lib.narrow so
    in
    record { answers = done.answers; leaves = c.store_gate.ensures ∙ rw c.word-g.ensures done.leaves }
