-- `least_wired`, from the last row to the first, keeps the least sum of the rows passed that are ways.
use Rattle.common_laws.proofs.Base.{true, refl, sym, ◌∙◌, ◌*◌, ◌-◌, ◌≤◌, arith, pow_mono}
use Rattle.sizes.specs.Sizes as Size
use Rattle.reading.specs.Choice.{pick}
use Rattle.sweep_wires.proofs.RowBits.{once-few}
use Rattle.sweep_groups.specs.Tables.{read_row}
use Rattle.sweep_groups.specs.Sums.{lesser_row}
use Rattle.sweep_groups.proofs.Rows.{summed-none, summed-more, summed-all}
use Rattle.sweep_groups.proofs.least_wired.Goals as goal

pub loop-row-init : goal.loop-row-init
loop-row-init c =
    let a = c.args in
    summed-none (read_row true a.lines.now a.pins) a.library.now a.costs.now a.group c.no_sum-lowest.ensures

pub lesser_row-lowest-requires : goal.lesser_row-lowest-requires
lesser_row-lowest-requires c =
    let a = c.args in
    let n : 2 * a.pins ≤ Size.columns = omega (arith, c.requires.few) in
    let r = (c.requires.within refl).columns (c.loop-row.row - 1) (omega arith) in
    record {
      size = c.requires.sum_fits.size;
      few = rw c.once.ensures (once-few a.lines.now a.pins _ Size.columns (omega arith) (omega (arith, r, pow_mono n)));
    }

pub loop-row-preserved-then-not-needs_both : goal.loop-row-preserved-then-not-needs_both
unfolding read_row pick lesser_row
loop-row-preserved-then-not-needs_both c =
    let a = c.args in
    let l = c.loop-row in
    let way = sym c.needs_both.ensures ∙ c.if-not-needs_both.true in
    summed-more (read_row true a.lines.now a.pins) a.library.now a.costs.now a.group c.loop-row-test.true l.auto.row
    c.requires.sum_fits.group_fits l.invariant (rw way (rw c.once.ensures at c.lesser_row-lowest.ensures))

pub loop-row-preserved : goal.loop-row-preserved
unfolding read_row pick lesser_row
loop-row-preserved c =
    let a = c.args in
    let l = c.loop-row in
    let none = sym c.needs_both.ensures ∙ c.if-not-needs_both.false in
    summed-more (read_row true a.lines.now a.pins) a.library.now a.costs.now a.group c.loop-row-test.true l.auto.row
    c.requires.sum_fits.group_fits l.invariant (record { of_kind = refl; comes_to = rw none })

pub returns : goal.returns
returns c =
    let a = c.args in
    summed-all (read_row true a.lines.now a.pins) a.library.now a.costs.now a.group (omega arith) c.loop-row.invariant
