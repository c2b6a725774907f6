-- `bar_all` has barred what the entries before one name.
use Rattle.common_laws.proofs.Base.{take}
use Rattle.advice_calls.specs.Parts.{Barred}
use Rattle.advice_calls.proofs.lines.bar_all.Given as goal

abbrev pub invariant-loop-entry : goal.invariant-loop-entry
invariant-loop-entry l = Barred (take l.entry-index l.forbidden) l.barred
