-- `one_step` fixes the front of the queue, and takes the offers of its readers anew.
use Rattle.budget_run.proofs.Step.{stepped_none, stepped_fix}
use Rattle.budget_run.proofs.one_step.Goals as goal

pub returns-in_err-leaf : goal.returns-in_err-leaf
returns-in_err-leaf c cells ss h m = rw c.from_residual.ensures (stepped_none h m c.in_err-leaf.ensures)

pub returns : goal.returns
returns c cells ss h m =
    rw c.leaf_place-place.ensures.0
    (stepped_fix h m c.in_ok-leaf.ensures c.put.ensures (rw c.leaf_place-place.ensures.0 at c.refresh_readers.ensures))
