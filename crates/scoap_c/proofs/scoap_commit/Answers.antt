-- `scoap_commit` tells the answer of `commit` by one number.
use Rattle.answer_codes.proofs.Stand.{commit-line, commit-coded}
use Rattle.scoap_c.proofs.scoap_commit.Goals as goal

pub code-requires : goal.code-requires
code-requires c = commit-line _ _ _ _ _ _ _ c.commit-committed.ensures

pub returns : goal.returns
returns c = commit-coded _ _ _ _ _ _ _ c.commit-committed.ensures _ c.code.ensures
