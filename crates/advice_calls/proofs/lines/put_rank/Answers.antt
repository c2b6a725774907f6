-- `put_rank` stores the four numbers of a line, one behind the other.
use Rattle.common_laws.proofs.Base.{refl}
use Rattle.advice_calls.proofs.Ranks.{rank-stored}
use Rattle.advice_calls.proofs.lines.put_rank.Goals as goal

pub returns : goal.returns
returns c = let a = c.args in rank-stored a.table.now a.l a.nevers a.overs a.largest a.total refl
