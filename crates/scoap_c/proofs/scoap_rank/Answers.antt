-- `scoap_rank` tells the answer of `rank` by one number.
use Rattle.answer_codes.proofs.Advice.{rank-line, rank-coded}
use Rattle.scoap_c.proofs.scoap_rank.Goals as goal

pub code-requires : goal.code-requires
code-requires c = rank-line _ _ _ _ _ _ c.rank-ranked.ensures

pub returns : goal.returns
returns c = rank-coded _ _ _ _ _ _ c.rank-ranked.ensures _ c.code.ensures
