-- `scoap_best` tells the answer of `best_within` by one number.
use Rattle.answer_codes.proofs.Best.{best-line, best-coded}
use Rattle.scoap_c.proofs.scoap_best.Goals as goal

pub code-requires : goal.code-requires
code-requires c = best-line _ _ _ _ _ _ c.best_within-steps.ensures

pub returns : goal.returns
returns c = best-coded _ _ _ _ _ _ c.best_within-steps.ensures _ c.code.ensures
