-- `advise` reads both texts, and lays the advice into the answer.
use Rattle.common_laws.proofs.Base.{refl}
use Rattle.std.proofs.lemmas.Result.{err_from_is_err_and}
use Rattle.reading.specs.Answer.{answer_read}
use Rattle.demands.specs.Outcome.{given_texts}
use Rattle.demands.proofs.Given.{texts-checked}
use Rattle.advice_calls.specs.Calls.{advice_size}
use Rattle.advice_calls.proofs.Promise.{some-held, advice-refused, advice-found}
use Rattle.advice_calls.proofs.advise.Goals as goal

pub read_into-requires : goal.read_into-requires
read_into-requires c = record { cells = refl; statements = refl }

pub advise_on-found-requires : goal.advise_on-found-requires
advise_on-found-requires c =
    let a = c.args in
    some-held advice_size (given_texts a.lib.now a.net.now) (texts-checked a.lib.now a.net.now) a.answer.now c.read_into.result c.read_into.ensures c.in_ok-read_into.was

pub returns-in_err-read_into : goal.returns-in_err-read_into
unfolding answer_read
returns-in_err-read_into c =
    let a = c.args in
    let p = err_from_is_err_and c.from_residual.result c.from_residual.ensures.1 in
    rw (p.1, p.2)
    (advice-refused (given_texts a.lib.now a.net.now) (texts-checked a.lib.now a.net.now) a.forbidden.now a.answer.now c.read_into.result c.read_into.ensures _ c.in_err-read_into.was)

pub returns : goal.returns
unfolding answer_read
returns c =
    let a = c.args in
    advice-found (given_texts a.lib.now a.net.now) (texts-checked a.lib.now a.net.now) a.forbidden.now a.answer.now c.read_into.result c.read_into.ensures
    c.in_ok-read_into.was c.advise_on-found.result c.advise_on-found.ensures _ c.put_advice.ensures
