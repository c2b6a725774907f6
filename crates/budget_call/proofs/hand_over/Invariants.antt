-- `hand_over` has laid the words of the values before one.
use Rattle.budget_call.specs.Parts.{Handed}
use Rattle.budget_call.proofs.hand_over.Given as goal

abbrev pub invariant-loop-leaf : goal.invariant-loop-leaf
invariant-loop-leaf l = Handed l.numbers l.queue l.leaf l.fn.best l.best
