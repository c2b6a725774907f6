-- `hand_over` has laid the numbers before one.
use Rattle.common_laws.proofs.Base.{◌≡◌, ◌++◌, take, drop}
use Rattle.sweep_runs.proofs.hand_over.Given as goal

abbrev pub invariant-loop-i : goal.invariant-loop-i
invariant-loop-i l = l.numbers ≡ take l.i l.found ++ drop l.i l.fn.numbers
