-- `used_by_eights` leaves eight numbers with each turn that are 0.
use Rattle.common_laws.proofs.Base.{◌≡◌, ◌+◌, ◌*◌}
use Rattle.table.specs.Blocks.{used}
use Rattle.table.proofs.used_by_eights.Given as goal

abbrev pub invariant-loop-k : goal.invariant-loop-k
invariant-loop-k l = used l.table l.from l.n ≡ used l.table l.from (l.odd + 8 * l.k)
