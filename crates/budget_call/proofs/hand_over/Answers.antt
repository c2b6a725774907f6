-- `hand_over` lays the words of one value more with each turn.
use Rattle.budget_call.proofs.Words.{handed-next}
use Rattle.budget_call.proofs.hand_over.Goals as goal

pub loop-leaf-preserved : goal.loop-leaf-preserved
loop-leaf-preserved c =
    let a = c.args in
    let l = c.loop-leaf in
    rw c.hand_value.ensures
    (handed-next a.numbers.now a.queue.now a.best.now l.best l.leaf c.loop-leaf-test.true c.requires l.invariant)
