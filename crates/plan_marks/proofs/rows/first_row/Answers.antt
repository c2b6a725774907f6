-- `first_row` goes from the first row on, and stops at the first that comes to the least sum.
use Rattle.common_laws.proofs.Base.{◌≡◌, sym, ◌∙◌, arith, get_or}
use Rattle.plan_marks.proofs.RowsLaws.{sought_none, sought_here, sought_later, sought_past, sought_all}
use Rattle.plan_marks.proofs.rows.first_row.Goals as goal
use Rattle.plan_marks.proofs.rows.first_row.Goals.{then-is_way+else-not-is_lower, else-is_way}

pub loop-row-init : goal.loop-row-init
loop-row-init c = sought_none

pub is_lower-requires : goal.is_lower-requires
is_lower-requires c = c.requires.1.of_kind ∙ sym c.read_sum-sum.ensures.of_kind

pub returns-then-not-is_lower : goal.returns-then-not-is_lower
returns-then-not-is_lower c =
    sought_here c.loop-row.invariant c.loop-row-test.true c.requires.0.sum_fits.group_fits c.read_sum-sum.ensures c.requires.1 c.is_lower.ensures
    c.is_way.ensures c.if-is_way.true c.if-not-is_lower.true

pub loop-row-preserved : goal.loop-row-preserved
loop-row-preserved c =
    let k = c.loop-row.invariant in
    let f = c.requires.0.sum_fits.group_fits in
    let inside = c.loop-row-test.true in
    elim c.if-is_way.branch [
      | then-is_way+else-not-is_lower w ↦ sought_later k inside f w.read_sum-sum.ensures c.requires.1 w.is_lower.ensures w.if-not-is_lower.false
      | else-is_way w ↦ sought_past k inside f c.is_way.ensures w.if-is_way.false
    ]

pub returns : goal.returns
returns c =
    let e : c.loop-row.row ≡ get_or c.args.library.now c.args.group 0 = omega (arith, c.loop-row-test.false, c.loop-row.invariant.within) in
    rw e at (sought_all e c.loop-row.invariant)
