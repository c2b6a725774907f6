-- `scoap_ask` tells the answer of `ask` by one number.
use Rattle.answer_codes.proofs.Stand.{ask-line, ask-coded}
use Rattle.scoap_c.proofs.scoap_ask.Goals as goal

pub code-requires : goal.code-requires
code-requires c = ask-line _ _ _ _ _ _ _ c.ask-asked.ensures

pub returns : goal.returns
returns c = ask-coded _ _ _ _ _ _ _ c.ask-asked.ensures _ c.code.ensures
