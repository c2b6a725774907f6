-- The rows passed are found, each behind the one before it.
use Rattle.common_laws.proofs.Base.{◌≡◌, ◌≤◌}
use Rattle.calculation.specs.Growth.{keeps}
use Rattle.library_growth.specs.Held.{group_at}
use Rattle.library_growth.proofs.Pairs.{kept_from, rows_from}
use Rattle.library_growth.proofs.keeps_rows.Given as goal

abbrev pub invariant-loop-other : goal.invariant-loop-other
invariant-loop-other l = record {
  few : l.found ≤ l.rows;
  left : keeps (group_at l.old l.at) (group_at l.new l.at) ≡ kept_from (rows_from l.old l.at) (rows_from l.new l.at) l.found l.rows l.other l.others;
}
