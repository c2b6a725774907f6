-- `cover` meets its contract.
use Rattle.common_laws.proofs.Base.{refl, ◌/◌, ◌%◌, ◌^◌, ◌≤◌, mul-le-mul, add-one, arith, eqb}
use Rattle.reading.specs.Choice.{pick}
use Rattle.truth_tables.specs.Tables.{digit, settings, meets}
use Rattle.truth_rows.specs.Masks.{mask_of, cover_mask, term_but}
use Rattle.truth_rows.proofs.Pins.{cover_more, cover_below, wide-most, wide_square, literal_pick, third}
use Rattle.truth_rows.proofs.masks.cover.Goals as goal

pub loop-i-init : goal.loop-i-init
unfolding cover_mask term_but mask_of settings meets digit
loop-i-init c = (refl, refl, omega arith)

pub widened-mask-requires : goal.widened-mask-requires
widened-mask-requires c =
    let l = c.loop-i in
    (rw (l.invariant.0, l.invariant.1) (cover_below l.i _), rw l.invariant.1 (wide-most l.i (omega arith)))

pub overflow_mul-wide : goal.overflow_mul-wide
overflow_mul-wide c =
    let l = c.loop-i in
    let w : l.wide ≤ 256 = rw l.invariant.1 (wide-most l.i (omega arith)) in
    omega (arith, mul-le-mul w w)

pub loop-i-preserved : goal.loop-i-preserved
unfolding term_but
loop-i-preserved c =
    let l = c.loop-i in
    let a = c.args in (
      rw (add-one l.i, literal_pick (eqb l.i a.free) (a.row / 3 ^ l.i % 3), cover_more l.i (pick (eqb l.i a.free) 0 (a.row / 3 ^ l.i % 3)) (term_but a.free l.i a.row), c.widened-mask.ensures, c.digit.ensures, l.invariant.0, l.invariant.1, l.invariant.2) refl,
      rw (add-one l.i, l.invariant.1) (wide_square l.i),
      rw (add-one l.i, l.invariant.2) (third a.row l.i),
    )
