-- `first_row` goes from the first row on, and stops at the first that comes to the least sum.
use Rattle.sweep_groups.specs.Tables.{read_row}
use Rattle.plan_marks.proofs.RowsLaws.{Sought}
use Rattle.plan_marks.proofs.rows.first_row.Given as goal

abbrev pub invariant-loop-row : goal.invariant-loop-row
invariant-loop-row l = Sought (read_row l.wired l.lines l.pins) l.library l.costs l.group l.row
