-- The places passed are kept.
use Rattle.sweep_reruns.specs.Kept.{Kept}
use Rattle.sweep_reruns.proofs.keep_numbers.Given as goal

abbrev pub invariant-loop-i : goal.invariant-loop-i
invariant-loop-i l = Kept l.end l.standing l.fn.numbers l.i l.numbers
