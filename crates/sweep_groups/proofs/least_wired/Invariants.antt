-- `least_wired`, from the last row to the first, keeps the least sum of the rows passed that are ways.
use Rattle.common_laws.proofs.Base.{true}
use Rattle.cost.specs.Kind.{kind_index}
use Rattle.sweep_groups.specs.Tables.{read_row}
use Rattle.sweep_groups.proofs.Rows.{SummedFrom}
use Rattle.sweep_groups.proofs.least_wired.Given as goal

abbrev pub invariant-loop-row : goal.invariant-loop-row
invariant-loop-row l = SummedFrom (read_row true l.lines l.pins) l.library l.costs l.group (kind_index l.fn.kind) l.row l.lowest
