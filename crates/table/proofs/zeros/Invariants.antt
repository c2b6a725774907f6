-- `zeros` looks at eight numbers: those passed are told.
use Rattle.common_laws.proofs.Base.{◌≡◌}
use Rattle.table.specs.Blocks.{zeros}
use Rattle.table.proofs.zeros.Given as goal

abbrev pub invariant-loop-x : goal.invariant-loop-x
invariant-loop-x l = l.all ≡ zeros l.table l.at l.x-index
