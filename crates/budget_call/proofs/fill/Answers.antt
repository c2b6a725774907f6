-- `fill`: the run, its last cost, and the words of all values.
use Rattle.common_laws.proofs.Base.{length-set}
use Rattle.budget_call.proofs.Words.{filled}
use Rattle.budget_call.proofs.fill.Goals as goal

pub hand_over-requires : goal.hand_over-requires
hand_over-requires c = simp length-set c.requires.room

pub returns : goal.returns
returns c cells ss h =
    filled h.sound (c.run-spent.ensures.ran cells ss h) c.args.best.now c.requires.room (rw c.unwrap_or.ensures at c.hand_over.ensures)
