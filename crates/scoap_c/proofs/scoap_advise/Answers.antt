-- `scoap_advise` tells the answer of `advise` by one number.
use Rattle.answer_codes.proofs.Advice.{advice-line, advice-coded}
use Rattle.scoap_c.proofs.scoap_advise.Goals as goal

pub advised_code-requires : goal.advised_code-requires
advised_code-requires c = advice-line _ _ _ _ _ _ c.advise-advised.ensures

pub returns : goal.returns
returns c = advice-coded _ _ _ _ _ _ c.advise-advised.ensures _ c.advised_code.ensures
