-- `scoap_change` tells the answer of `change` by one number.
use Rattle.answer_codes.proofs.Change.{change-line, change-coded}
use Rattle.scoap_c.proofs.scoap_change.Goals as goal

pub change_code-requires : goal.change_code-requires
change_code-requires c = change-line _ _ _ _ _ _ c.change-changed.ensures

pub returns : goal.returns
returns c = change-coded _ _ _ _ _ _ c.change-changed.ensures _ c.change_code.ensures
