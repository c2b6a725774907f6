-- `is_prime` meets its contract.
use Rattle.common_laws.proofs.Base.{◌≡◌, and-false, refl, sym, add-one, arith}
use Rattle.truth_rows.specs.Masks.{cover_mask, term_but, implied, fixed, prime_row}
use Rattle.truth_rows.proofs.Pins.{third, fixed-not}
use Rattle.truth_rows.proofs.masks.is_prime.Goals as goal

pub returns-then-not-implied : goal.returns-then-not-implied
unfolding prime_row
returns-then-not-implied c = rw (← c.cover.ensures, ← c.implied.ensures, c.if-not-implied.true) refl

pub loop-i-init : goal.loop-i-init
unfolding fixed
loop-i-init c = (omega arith, refl)

pub returns-then-loose : goal.returns-then-loose
unfolding prime_row
returns-then-loose c =
    let l = c.loop-i in
    let a = c.args in
    rw (fixed-not a.wanted a.pins a.row l.i a.pins (omega arith) (rw (← l.invariant.0, ← c.loose.ensures) c.if-loose.true))
    (sym (and-false (implied a.wanted (cover_mask a.pins (term_but a.pins a.pins a.row)))))

pub loop-i-preserved : goal.loop-i-preserved
unfolding fixed
loop-i-preserved c =
    let l = c.loop-i in (
      rw (add-one l.i, l.invariant.0) (third c.args.row l.i),
      rw (add-one l.i, ← l.invariant.0, ← c.loose.ensures, c.if-loose.false) l.invariant.1,
    )

pub returns : goal.returns
unfolding prime_row
returns c =
    let l = c.loop-i in
    let all : l.i ≡ c.args.pins = omega arith in
    rw (← c.cover.ensures, ← c.implied.ensures, c.if-not-implied.false) (sym (rw all at l.invariant.1))
