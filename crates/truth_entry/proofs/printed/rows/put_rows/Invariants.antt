-- `put_rows` goes over the rows from the highest down.
use Rattle.truth_entry.proofs.GroupRows.{Progress}
use Rattle.truth_entry.proofs.printed.rows.put_rows.Given as goal

abbrev pub invariant-loop-row : goal.invariant-loop-row
invariant-loop-row l = Progress l.asked l.initial.entry l.row l.any l.entry
