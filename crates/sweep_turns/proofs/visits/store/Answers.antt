-- The sum's number is left at its place, and the answer compares it with the one that stood there.
use Rattle.common_laws.proofs.Base.{◌≡◌, refl, sym, ◌∙◌, ap, arith, get_or, set, set-get_or, eq-eqb, ne_eqb}
use Rattle.plans.specs.Sweep.{at}
use Rattle.plans.proofs.Laws.{at_getD}
use Rattle.sweep_turns.proofs.visits.store.Goals as goal

pub returns-then-numbers-place : goal.returns-then-numbers-place
returns-then-numbers-place c =
    let a = c.args in
    let number = c.number_of-number.result in
    let e : number ≡ at a.numbers.now a.place = sym c.if-numbers-place.true ∙ sym (at_getD a.numbers.now a.place 0 (omega arith)) in
    rw (← c.number_of-number.ensures)
    (record {
      numbers = sym (ap (set a.numbers.now a.place) (sym c.if-numbers-place.true) ∙ set-get_or a.numbers.now a.place 0);
      flag = rw (eq-eqb number (at a.numbers.now a.place) e);
    })

pub returns : goal.returns
returns c =
    let a = c.args in
    let number = c.number_of-number.result in
    rw (← c.number_of-number.ensures)
    (record {
      numbers = refl;
      flag = rw (at_getD a.numbers.now a.place 0 (omega arith), ne_eqb number (get_or a.numbers.now a.place 0) (λ e. c.if-numbers-place.false (sym e)));
    })
