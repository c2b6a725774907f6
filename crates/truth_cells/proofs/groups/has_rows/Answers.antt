-- `has_rows` meets its contract.
use Rattle.common_laws.proofs.Base.{◌≡◌, refl, sym, ◌∙◌, ◌<◌, pow-le-pow_right, arith}
use Rattle.truth_tables.specs.Tables.{keep}
use Rattle.truth_rows.specs.Asked.{asked_number}
use Rattle.truth_rows.specs.Masks.{down_from, prime_rows}
use Rattle.truth_cells.specs.Words.{rows_are}
use Rattle.truth_cells.proofs.Steps.{left_are, left-prime, left_other}
use Rattle.truth_cells.proofs.groups.has_rows.Goals as goal

three : 0 < 3
three = omega arith

pub pow-row-requires : goal.pow-row-requires
pow-row-requires c = omega (arith, pow-le-pow_right three c.requires.1.pins)

pub loop-row-init : goal.loop-row-init
unfolding left_are prime_rows
loop-row-init c =
    (omega (arith, c.pow-row.ensures, pow-le-pow_right three c.requires.1.pins), rw c.pow-row.ensures refl)

pub returns-then-not-is_row : goal.returns-then-not-is_row
unfolding asked_number
returns-then-not-is_row c =
    let l = c.loop-row in
    sym
    (l.invariant.1
    ∙ left-prime _ _ _ _ l.found l.row (omega arith) (sym c.is_prime.ensures ∙ c.if-is_prime.true)
    ∙ rw (← c.number.ensures, ← c.is_row.ensures, c.if-not-is_row.true) refl)

pub loop-row-preserved-then-is_prime : goal.loop-row-preserved-then-is_prime
unfolding asked_number
loop-row-preserved-then-is_prime c =
    let l = c.loop-row in (
      omega arith,
      l.invariant.1
          ∙ left-prime _ _ _ _ l.found l.row (omega arith) (sym c.is_prime.ensures ∙ c.if-is_prime.true)
          ∙ rw (← c.number.ensures, ← c.is_row.ensures, c.if-not-is_row.false) refl,
    )

pub loop-row-preserved : goal.loop-row-preserved
loop-row-preserved c =
    let l = c.loop-row in
    (omega arith, l.invariant.1 ∙ left_other _ _ _ _ l.found l.row (omega arith) (sym c.is_prime.ensures ∙ c.if-is_prime.false))

pub returns : goal.returns
unfolding left_are keep down_from rows_are
returns c =
    let l = c.loop-row in
    let none : l.row ≡ 0 = omega arith in
    sym (l.invariant.1 ∙ rw (none, ← c.word.ensures) refl)
