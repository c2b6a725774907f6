-- One row of the new group more, found or not; all rows found, or none left to look at.
use Rattle.common_laws.proofs.Base.{◌≡◌, sym, ◌∙◌, ◌<◌, arith, eqb}
use Rattle.reading.proofs.Laws.{by_test}
use Rattle.common_laws.proofs.Base.{eqb-true, eqb-false}
use Rattle.library_growth.specs.Held.{group_at}
use Rattle.library_growth.proofs.Pairs.{kept-all, kept-found, kept-other, kept_lost, kept-none}
use Rattle.library_growth.proofs.keeps_rows.Goals as goal
use Rattle.library_growth.proofs.keeps_rows.Goals.{then-same_row, else-same_row}

pub loop-other-init : goal.loop-other-init
unfolding group_at
loop-other-init c = record { few = omega arith; left = rw (← c.word-rows.ensures, ← c.word-others.ensures) (kept-all _ _ c.word-rows.result c.word-others.result) }

pub returns-then-found-rows : goal.returns-then-found-rows
returns-then-found-rows c =
    let l = c.loop-other in
    sym (l.invariant.left ∙ kept-none _ _ l.found _ l.other _ (omega arith))

pub loop-other-preserved : goal.loop-other-preserved
loop-other-preserved c =
    let l = c.loop-other in
    let more : l.found < c.word-rows.result = omega arith in
    elim c.if-same_row.branch [
      | then-same_row w ↦ record {
        few = omega (arith, w.found-is);
        left = rw w.found-is (l.invariant.left ∙ kept-found _ _ l.found _ l.other _ more c.loop-other-test.true (sym c.same_row.ensures ∙ w.if-same_row.true));
      }
      | else-same_row w ↦ record {
        few = omega (arith, w.found-is);
        left = rw w.found-is (l.invariant.left ∙ kept-other _ _ l.found _ l.other _ more c.loop-other-test.true (sym c.same_row.ensures ∙ w.if-same_row.false));
      }
    ]

pub returns : goal.returns
returns c =
    let l = c.loop-other in
    by_test (eqb l.found c.word-rows.result)
    (λ t. t ∙ sym (l.invariant.left ∙ kept-none _ _ l.found _ l.other _ (omega (arith, eqb-true l.found c.word-rows.result t))))
    (λ t.
    let other : l.found ≡ c.word-rows.result → ⊥ = eqb-false l.found c.word-rows.result t in
    t ∙ sym (l.invariant.left ∙ kept_lost _ _ l.found _ l.other _ (omega arith) (omega arith)))
