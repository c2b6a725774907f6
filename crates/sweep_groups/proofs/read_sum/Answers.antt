-- `read_sum` is the sum of a row, or never where the row is no way, in the kind that is asked for.
use Rattle.sweep_groups.specs.Tables.{read_row}
use Rattle.sweep_groups.specs.Sums.{lesser_row}
use Rattle.sweep_groups.proofs.Rows.{row_told}
use Rattle.sweep_groups.proofs.read_sum.Goals as goal

pub returns-then-wired : goal.returns-then-wired
returns-then-wired c =
    let a = c.args in
    row_told a.costs.now a.depth (read_row a.wired a.lines.now a.pins a.columns) c.no_sum-none.ensures
    (rw c.if-wired.true c.lesser_wired.ensures)

pub returns : goal.returns
unfolding read_row lesser_row
returns c =
    let a = c.args in
    row_told a.costs.now a.depth (read_row a.wired a.lines.now a.pins a.columns) c.no_sum-none.ensures
    (rw c.if-wired.false c.lesser_row.ensures)
