-- `scoap_built_in` tells the answer of `put_built_in` by one number.
use Rattle.answer_codes.proofs.Cells.{built-in-line, built-in-coded}
use Rattle.scoap_c.proofs.scoap_built_in.Goals as goal

pub code-requires : goal.code-requires
code-requires c = built-in-line _ _ _ c.put_built_in-written.ensures.writes

pub returns : goal.returns
returns c = built-in-coded _ _ _ c.put_built_in-written.ensures.writes _ c.code.ensures
