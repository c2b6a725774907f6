-- Each return is a case of `well_formed`, and a well formed field has so few digits that its value fits.
use Rattle.common_laws.proofs.Base.{true, ◌≡◌, sym, ◌∙◌, pow-le-pow_right, arith, length, get_or, eqb-true, ltb-true}
use Rattle.text.specs.Numeral.{no_leading_zero, numeral, numeral_read}
use Rattle.text.proofs.FieldLaws.{numeral-bad}
use Rattle.text.proofs.FieldSteps.{no_leading_zero-short, no_leading_zero-long, well_formed-empty, well_formed-long, well_formed-zero, well_formed-bytes}
use Rattle.text.proofs.fields.read.Goals as goal
use Rattle.text.proofs.fields.read.Goals.{then-n-lt1-via-then-n-lt1, then-n-lt1-via-else-n-lt1+then-most-n, then-n-lt1-via-else-n-lt1+else-most-n+then-f-eq-ZERO, then-n-gt1, else-n-gt1}

pub returns-then-n-lt1 : goal.returns-then-n-lt1
unfolding numeral_read
returns-then-n-lt1 c =
    let a = c.args in
    let f = a.f.now in
    elim c.then-n-lt1.branch [
      | then-n-lt1-via-then-n-lt1 w ↦ sym (numeral-bad _ _ _ (well_formed-empty _ _ _ w.if-n-lt1.true))
      | then-n-lt1-via-else-n-lt1+then-most-n w ↦ sym (numeral-bad _ _ _ (well_formed-long _ _ _ w.if-most-n.true))
      | then-n-lt1-via-else-n-lt1+else-most-n+then-f-eq-ZERO w ↦ elim w.if-n-gt1.branch [
        | then-n-gt1 v ↦ sym (numeral-bad _ _ _ (well_formed-zero a.base _ f v.if-n-gt1.true w.if-most-n.false (eqb-true (get_or f 0 0) 48 (sym v.value-is ∙ w.if-f-eq-ZERO.true))))
        | else-n-gt1 v ↦ absurd (omega (arith, ltb-true 1 (length f) (sym v.value-is ∙ w.if-f-eq-ZERO.true)))
      ]
    ]

pub digits-requires : goal.digits-requires
digits-requires c = (c.requires.0, c.requires.1, omega (arith, pow-le-pow_right c.requires.0 c.if-most-n.false))

pub returns : goal.returns
unfolding numeral
returns c =
    let a = c.args in
    let f = a.f.now in
    let good : no_leading_zero f ≡ true = elim c.if-n-gt1.branch [
      | then-n-gt1 v ↦ no_leading_zero-long f v.if-n-gt1.true ∙ rw (sym v.value-is ∙ c.if-f-eq-ZERO.false)
      | else-n-gt1 v ↦ no_leading_zero-short f v.if-n-gt1.false
    ] in
    rw (well_formed-bytes a.base a.most f (omega arith) c.if-most-n.false good) c.digits.ensures
