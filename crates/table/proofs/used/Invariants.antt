-- `used` leaves one number with each turn that is 0.
use Rattle.common_laws.proofs.Base.{◌≡◌}
use Rattle.table.specs.Blocks.{used}
use Rattle.table.proofs.used.Given as goal

abbrev pub invariant-loop-last : goal.invariant-loop-last
invariant-loop-last l = used l.table l.from l.n ≡ used l.table l.from l.last
