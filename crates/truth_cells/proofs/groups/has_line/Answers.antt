-- `has_line` meets its contract.
use Rattle.common_laws.proofs.Base.{◌≡◌, refl, sym, ◌∙◌, ◌-◌, add-zero, arith}
use Rattle.truth_rows.specs.Masks.{up_from}
use Rattle.truth_cells.specs.Words.{groups_are}
use Rattle.truth_cells.proofs.Steps.{groups-next}
use Rattle.truth_cells.proofs.groups.has_line.Goals as goal

pub loop-k-init : goal.loop-k-init
loop-k-init g c = λ gs h.
    let a = c.args in
    let all : a.count - 0 ≡ a.count = omega arith in
    rw (all, add-zero a.first) refl

pub returns-then-not-has_rows : goal.returns-then-not-has_rows
returns-then-not-has_rows g c = λ gs h.
    let l = c.loop-k in
    sym
    (l.invariant gs h
    ∙ groups-next _ _ _ _ l.k gs (omega arith)
    ∙ rw (← (h l.k c.group.result c.loop-k-test.true c.group.ensures).rows, ← c.group_place.ensures.0, ← c.has_rows.ensures, c.if-not-has_rows.true) refl)

pub loop-k-preserved : goal.loop-k-preserved
loop-k-preserved g c = λ gs h.
    let l = c.loop-k in
    l.invariant gs h
    ∙ groups-next _ _ _ _ l.k gs (omega arith)
    ∙ rw (← (h l.k c.group.result c.loop-k-test.true c.group.ensures).rows, ← c.group_place.ensures.0, ← c.has_rows.ensures, c.if-not-has_rows.false) refl

pub returns : goal.returns
unfolding up_from groups_are
returns g c = λ gs h.
    let l = c.loop-k in
    let none : c.args.count - l.k ≡ 0 = omega arith in
    sym (l.invariant gs h ∙ rw none refl)
