-- `is_met` meets its contract.
use Rattle.common_laws.proofs.Base.{◌≡◌, refl, sym, ◌∙◌, ℕ, ◌-◌, ◌^◌, ◌≤◌, ◌<◌, one-le-pow, pow-le-pow_right, arith}
use Rattle.truth_cells.specs.Words.{met_by}
use Rattle.truth_cells.proofs.Steps.{met-more}
use Rattle.truth_cells.proofs.bits.is_met.Goals as goal

four : (i : ℕ) → 0 < 4 ^ i
four i = one-le-pow i 4 (omega arith)

pub pow-four-requires : goal.pow-four-requires
pow-four-requires c =
    let positive : 0 < 4 = omega arith in
    let few : c.loop-i.i - 1 ≤ 4 = omega arith in
    omega (arith, pow-le-pow_right positive few)

pub nonzero_div-rest : goal.nonzero_div-rest
nonzero_div-rest c = omega (arith, c.pow-four.ensures, four (c.loop-i.i - 1))

pub returns-then-not-admits : goal.returns-then-not-admits
returns-then-not-admits c =
    let l = c.loop-i in
    sym
    (l.invariant
    ∙ met-more l.i l.rest l.left (omega arith)
    ∙ rw (← c.pow-four.ensures, ← c.pow-two.ensures, ← c.admits.ensures, c.if-not-admits.true) refl)

pub nonzero_rem-rest : goal.nonzero_rem-rest
nonzero_rem-rest c = omega (arith, c.pow-four.ensures, four (c.loop-i.i - 1))

pub loop-i-preserved : goal.loop-i-preserved
loop-i-preserved c =
    let l = c.loop-i in
    l.invariant
    ∙ met-more l.i l.rest l.left (omega arith)
    ∙ rw (← c.pow-four.ensures, ← c.pow-two.ensures, ← c.admits.ensures, c.if-not-admits.false) refl

pub returns : goal.returns
unfolding met_by
returns c =
    let l = c.loop-i in
    let none : l.i ≡ 0 = omega arith in
    sym (l.invariant ∙ rw none refl)
