-- The place is one of those to be kept, or passed.
use Rattle.sweep_reruns.proofs.Kept.{keep_stored, keep_passed}
use Rattle.sweep_reruns.proofs.keep.Goals as goal

pub returns-then-i-end : goal.returns-then-i-end
returns-then-i-end c = let a = c.args in keep_stored a.end a.i a.numbers.now c.min.result _ c.if-i-end.true c.min.ensures

pub returns-else-i-end : goal.returns-else-i-end
returns-else-i-end c = let a = c.args in keep_passed a.end a.i a.numbers.now _ c.if-i-end.false
