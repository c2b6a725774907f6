-- `line_ends` looks at eight bytes: those passed are told.
use Rattle.common_laws.proofs.Base.{◌≡◌}
use Rattle.text.specs.Lines.{some_ends}
use Rattle.text.proofs.line_ends.Given as goal

abbrev pub invariant-loop-b : goal.invariant-loop-b
invariant-loop-b l = l.found ≡ some_ends l.text l.at l.b-index
