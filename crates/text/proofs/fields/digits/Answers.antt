-- The digit at the cursor, where the byte there is one; a byte that is none decides.
use Rattle.common_laws.proofs.Base.{true, ◌≡◌, sym, ◌∙◌, add-one, arith, length, get_or}
use Rattle.reading.specs.Choice.{pick}
use Rattle.text.specs.Numeral.{digit_below, numeral_read}
use Rattle.text.proofs.FieldLaws.{digit_low, digit-step}
use Rattle.text.proofs.FieldSteps.{all_digits-good, all_digits-bad, all_digits-end, value-step, value-end, sum_fits_lem}
use Rattle.text.proofs.fields.digits.Goals as goal

pub returns-then-not-digit_below : goal.returns-then-not-digit_below
unfolding numeral_read pick
returns-then-not-digit_below c =
    let a = c.args in
    let l = c.loop-b in
    let bad = all_digits-bad a.base a.f.now l.b-index c.loop-b-test.true (sym c.digit_below.ensures ∙ c.if-not-digit_below.true) in
    rw (sym l.invariant.1 ∙ bad)

pub overflow_mul-sum : goal.overflow_mul-sum
overflow_mul-sum c =
    let a = c.args in
    let l = c.loop-b in
    let good : digit_below a.base (get_or a.f.now l.b-index 0) ≡ true = sym c.digit_below.ensures ∙ c.if-not-digit_below.false in
    rw c.from.ensures (omega (arith, sum_fits_lem a.base l.sum l.b-index (length a.f.now) _ c.requires.0 l.invariant.0 good c.loop-b-test.true c.requires.2))

pub digit-requires : goal.digit-requires
digit-requires c = digit_low _ _ (sym c.digit_below.ensures ∙ c.if-not-digit_below.false)

pub overflow_add-sum : goal.overflow_add-sum
overflow_add-sum c =
    let a = c.args in
    let l = c.loop-b in
    let good : digit_below a.base (get_or a.f.now l.b-index 0) ≡ true = sym c.digit_below.ensures ∙ c.if-not-digit_below.false in
    rw (c.from.ensures, c.digit.ensures)
    (record { fits = sum_fits_lem a.base l.sum l.b-index (length a.f.now) _ c.requires.0 l.invariant.0 good c.loop-b-test.true c.requires.2 })

pub loop-b-preserved : goal.loop-b-preserved
loop-b-preserved c =
    let a = c.args in
    let l = c.loop-b in
    let here = get_or a.f.now l.b-index 0 in
    let good : digit_below a.base here ≡ true = sym c.digit_below.ensures ∙ c.if-not-digit_below.false in (
      rw (c.from.ensures, c.digit.ensures, add-one) (digit-step a.base l.sum l.b-index here l.invariant.0 good),
      sym (all_digits-good a.base a.f.now l.b-index c.loop-b-test.true good) ∙ l.invariant.1,
      rw (c.from.ensures, c.digit.ensures) (sym (value-step a.base a.f.now l.b-index l.sum c.loop-b-test.true) ∙ l.invariant.2),
    )

pub returns : goal.returns
unfolding numeral_read pick
returns c =
    let a = c.args in
    let l = c.loop-b in
    rw (sym l.invariant.1 ∙ all_digits-end a.base a.f.now l.b-index c.loop-b-test.false, sym l.invariant.2 ∙ value-end a.base a.f.now l.b-index l.sum c.loop-b-test.false)
