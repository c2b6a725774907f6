-- `lesser_wired` leaves out a row that is no way, and takes any other at the columns that are left of it.
use Rattle.common_laws.proofs.Base.{refl, sym, ◌∙◌, ◌*◌, ◌≤◌, arith, pow_mono}
use Rattle.sizes.specs.Sizes as Size
use Rattle.reading.specs.Choice.{pick}
use Rattle.sweep_wires.proofs.RowBits.{once-few}
use Rattle.sweep_groups.specs.Tables.{read_row}
use Rattle.sweep_groups.specs.Sums.{lesser_row}
use Rattle.sweep_groups.proofs.lesser_wired.Goals as goal

pub returns-then-needs_both : goal.returns-then-needs_both
unfolding read_row pick lesser_row
returns-then-needs_both c = record { of_kind = refl; comes_to = rw (sym c.needs_both.ensures ∙ c.if-needs_both.true) }

pub lesser_row-requires : goal.lesser_row-requires
lesser_row-requires c =
    let a = c.args in
    let n : 2 * a.pins ≤ Size.columns = omega (arith, c.requires.few) in
    record {
      size = omega arith;
      few = rw c.once.ensures (once-few a.lines.now a.pins a.columns Size.columns (omega arith) (omega (arith, c.requires.within, pow_mono n)));
    }

pub returns : goal.returns
unfolding read_row pick lesser_row
returns c = rw (sym c.needs_both.ensures ∙ c.if-needs_both.false) (rw c.once.ensures at c.lesser_row.ensures)
