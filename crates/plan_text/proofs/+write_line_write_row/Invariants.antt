-- The two writers call each other: the line writer hands on the visit at which its number was last lowered, which is below the
-- one that it was handed. The measures are twice that bound, and one more for a row.
use Rattle.common_laws.proofs.Base.{◌+◌, ◌*◌, ◌≤◌, ones}
use Rattle.plan_text.proofs.Writers.{PutsRest}
use Rattle.plan_text.proofs.+write_line_write_row.Given as goal

abbrev pub decreases-write_line : goal.decreases-write_line
decreases-write_line l = l.before * 2

abbrev pub decreases-write_row : goal.decreases-write_row
decreases-write_row l = l.before * 2 + 1

abbrev pub invariant-write_row-loop-rest : goal.invariant-write_row-loop-rest
invariant-write_row-loop-rest l =
    (l.rest ≤ l.columns) × PutsRest l.marks l.netlist l.before l.depth l.last l.initial.out l.columns l.rest l.out

abbrev pub decreases-write_row-loop-rest : goal.decreases-write_row-loop-rest
decreases-write_row-loop-rest l = ones l.rest
