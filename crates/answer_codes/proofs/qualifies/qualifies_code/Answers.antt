-- `qualifies_code` tells by one number what the tables of the two texts say.
use Rattle.common_laws.proofs.Base.{refl, ◌∙◌}
use Rattle.answer_codes.proofs.QualifiesLaws.{stopped_line, qualifies-stopped, qualifies-accepted}
use Rattle.answer_codes.proofs.qualifies.qualifies_code.Goals as goal

pub read_texts-progress-requires : goal.read_texts-progress-requires
read_texts-progress-requires c = (refl, refl)

pub refusal_code-requires : goal.refusal_code-requires
refusal_code-requires c =
    rw c.from.ensures
    (stopped_line c.args.lib.now c.args.net.now _ _ c.read_texts-progress.result c.read_texts-progress.ensures c.in-Err.stop c.in-Err.is)

pub returns-in-Err : goal.returns-in-Err
returns-in-Err c =
    qualifies-stopped c.args.lib.now c.args.net.now _ _ c.read_texts-progress.result c.read_texts-progress.ensures c.in-Err.stop c.in-Err.is
    c.refusal_code.result (rw c.from.ensures at c.refusal_code.ensures)

pub returns-in-Ok : goal.returns-in-Ok
returns-in-Ok c =
    qualifies-accepted c.args.lib.now c.args.net.now _ _ c.read_texts-progress.result c.read_texts-progress.ensures c.in-Ok.is c.number.result
    (c.number.ensures ∙ c.qualifies.ensures.answers)
