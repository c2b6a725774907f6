-- `least_sum`, from the last row to the first, keeps the least sum of the rows passed, and the row summed last.
use Rattle.common_laws.proofs.Base.{some, sym, ◌∙◌, arith}
use Rattle.sweep_groups.proofs.Rows.{summed-all}
use Rattle.sweep_groups.proofs.Dominated.{below_none, below-same, below_more}
use Rattle.sweep_groups.proofs.least_sum.Goals as goal

pub loop-row-init : goal.loop-row-init
loop-row-init c =
    let a = c.args in
    below_none a.library.now a.costs.now a.group c.no_sum-best.ensures

pub loop-row-preserved-then-not-is_dominated : goal.loop-row-preserved-then-not-is_dominated
loop-row-preserved-then-not-is_dominated c =
    let a = c.args in
    let l = c.loop-row in
    below_more a.library.now a.costs.now a.group _ l.row l.depth l.columns l.best
    c.loop-row-test.true l.auto.row c.requires.group_fits l.invariant c.lesser_row-best.ensures

pub loop-row-preserved : goal.loop-row-preserved
loop-row-preserved c =
    let a = c.args in
    let l = c.loop-row in
    below-same a.library.now a.costs.now a.group _ l.row l.depth l.columns l.best
    c.loop-row-test.true l.auto.row c.requires.group_fits l.invariant (sym c.is_dominated.ensures ∙ c.if-not-is_dominated.false)

pub returns : goal.returns
returns c =
    let a = c.args in
    summed-all some a.library.now a.costs.now a.group (omega arith) c.loop-row.invariant.0
