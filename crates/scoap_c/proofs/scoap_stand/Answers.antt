-- `scoap_stand` tells the answer of `stand` by one number.
use Rattle.answer_codes.proofs.Stand.{stand-line, stand-coded}
use Rattle.scoap_c.proofs.scoap_stand.Goals as goal

pub answer_code-requires : goal.answer_code-requires
answer_code-requires c = stand-line _ _ _ _ _ _ _ c.stand-answer.ensures

pub returns : goal.returns
returns c = stand-coded _ _ _ _ _ _ _ c.stand-answer.ensures _ c.answer_code.ensures
