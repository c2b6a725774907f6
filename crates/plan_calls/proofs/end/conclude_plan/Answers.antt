-- `conclude_plan` refuses by 18, or writes and closes, perhaps by 19.
use Rattle.common_laws.proofs.Base.{List, ◌≡◌, ◌∙◌, ℕ, ◌≤◌, ◌<◌, dec_le, refl, arith}
use Rattle.std.specs.Prelude.{Result, Ok, Err}
use Rattle.cost.specs.declared.Kind.{Kind}
use Rattle.cost.specs.declared.UnknownKind.{UnknownKind}
use Rattle.cost.specs.Kind.{kind_index, KindOf}
use Rattle.cost.specs.Cost.{most}
use Rattle.calculation.specs.Calculation.{analysed}
use Rattle.plan_calls.specs.Concluded.{asked_number}
use Rattle.plan_calls.proofs.EndLaws.{asked-known, number_is_lem, plan-put, ends-over, ends-written}
use Rattle.plan_calls.proofs.end.conclude_plan.Goals as goal

-- No number is that of an unknown kind.
no_kind : (number : ℕ) (r : Result Kind UnknownKind) → KindOf number r → ((k : Kind) → r ≡ Ok k → ⊥) → 1 < number
no_kind number (Ok k) h n = absurd (n k refl)
no_kind number (Err e) h n = h

unknown-over : (numbers : List ℕ) (l v kind : ℕ) → 1 < kind → most < asked_number numbers l v kind
unknown-over numbers l v kind h = go (dec_le (asked_number numbers l v kind) most)
  where
    go : Dec (asked_number numbers l v kind ≤ most) → most < asked_number numbers l v kind
    go (yes q) = absurd (omega (arith, (asked-known numbers l v kind q).0.kinds))
    go (no q) = omega (arith, q)

pub returns-in_default : goal.returns-in_default
returns-in_default c cells ss h =
    let a = c.args in
    let few : 1 < a.kind = no_kind _ _ c.try_from.ensures c.in_default.not-Ok in
    ends-over cells ss a.line a.value a.kind a.text.now _ _ h.holds.sound (unknown-over (analysed cells ss).numbers a.line a.value a.kind few) (rw c.at.ensures at c.refuse.ensures)

pub returns-then-number-gt-MOST : goal.returns-then-number-gt-MOST
returns-then-number-gt-MOST c cells ss h =
    let a = c.args in
    let same = (rw c.in-Ok.ensures at c.asked_number-number.ensures) ∙ number_is_lem a.library.now a.netlist.now a.numbers.now cells ss h a.line a.value a.kind in
    ends-over cells ss a.line a.value a.kind a.text.now _ _ h.holds.sound (omega (arith, same, c.if-number-gt-MOST.true)) (rw c.at-then-number-gt-MOST.ensures at c.refuse-then-number-gt-MOST.ensures)

pub put_cheapest-end-requires : goal.put_cheapest-end-requires
put_cheapest-end-requires c =
    let a = c.args in
    let i = (asked-known a.numbers.now a.line a.value (kind_index c.in-Ok.kind) (omega (arith, c.asked_number-number.ensures, c.if-number-gt-MOST.false))).0 in
    record {
      cells = c.requires.cells;
      statements = c.requires.statements;
      holds = c.requires.are.holds;
      kind_fits = i.kinds;
      least = i.least;
      most = i.most;
      value_fits = i.value;
    }

pub returns : goal.returns
returns c cells ss h =
    let a = c.args in
    let same = (rw c.in-Ok.ensures at c.asked_number-number.ensures) ∙ number_is_lem a.library.now a.netlist.now a.numbers.now cells ss h a.line a.value a.kind in
    let small : asked_number (analysed cells ss).numbers a.line a.value a.kind ≤ most = omega (arith, same, c.if-number-gt-MOST.false) in
    ends-written cells ss a.line a.value a.kind a.text.now _ _ h.holds.sound small _ c.put_cheapest-end.result
    (plan-put cells ss a.line a.value a.kind a.library.now a.netlist.now a.text.now _ _ (rw c.in-Ok.ensures at c.put_cheapest-end.ensures) h.holds small)
    (rw c.number.ensures at c.close.ensures)
