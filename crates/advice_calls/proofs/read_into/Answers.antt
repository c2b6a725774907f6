-- `read_into` refuses a short answer, and reads both texts.
use Rattle.common_laws.proofs.Base.{refl, rules}
use Rattle.reading.specs.Answer.{answer_read}
use Rattle.analysis_texts.proofs.Calls.{short-call, stopped-call, made-call}
use Rattle.advice_calls.proofs.read_into.Goals as goal

pub returns-then-answer-size : goal.returns-then-answer-size
unfolding answer_read
returns-then-answer-size c =
    let a = c.args in
    rw c.at.ensures (short-call a.size a.lib.now a.net.now a.answer.now _ _ _ c.if-answer-size.true)

pub returns-in-Err : goal.returns-in-Err
unfolding answer_read
returns-in-Err c =
    let a = c.args in
    stopped-call a.size a.lib.now a.net.now a.answer.now _ _ c.if-answer-size.false c.requires _ _ c.read_texts-progress.result c.read_texts-progress.ensures _ _ (search rules)
    _ c.stopped.ensures.1 _ c.stopped.ensures.0

pub returns-in-Ok : goal.returns-in-Ok
unfolding answer_read
returns-in-Ok c =
    let a = c.args in
    made-call a.size a.lib.now a.net.now a.answer.now _ _ c.if-answer-size.false c.requires _ _ c.read_texts-progress.result c.read_texts-progress.ensures _ c.in-Ok.is
    _ tt (λ p h. (refl, refl, h))
