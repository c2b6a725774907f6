-- `step` checks a record where the call was not stopped so far.
use Rattle.std.proofs.lemmas.Result.{err_from_is_err_and}
use Rattle.common_laws.proofs.Base.{refl, rules}
use Rattle.analysis_records.proofs.record.step.Goals as goal

pub returns-in_err-check : goal.returns-in_err-check
returns-in_err-check c =
    let p = err_from_is_err_and c.from_residual-in_err-check.result c.from_residual-in_err-check.ensures.1 in
    record { stays = λ x e. search rules; checks = λ u e. (c.check.result, rw (p.1, p.2, c.in_err-check.was) refl, c.check.ensures) }

pub returns : goal.returns
returns c = record { stays = λ x e. search rules; checks = λ u e. (c.check.result, rw c.in_ok-check.was refl, c.check.ensures) }
