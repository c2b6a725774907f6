-- `hand_value` goes by whether the number is below never.
use Rattle.common_laws.proofs.Base.{◌∙◌}
use Rattle.budget_call.proofs.Words.{value-fixed, value_open}
use Rattle.budget_call.proofs.hand_value.Goals as goal

pub returns-then-number-lt-NEVER : goal.returns-then-number-lt-NEVER
returns-then-number-lt-NEVER c =
    let a = c.args in
    c.put_value.ensures
    ∙ value-fixed a.numbers.now a.queue.now a.best.now a.leaf c.leaf_place-place.result c.leaf_place-place.ensures.0 c.if-number-lt-NEVER.true

pub returns-else-number-lt-NEVER : goal.returns-else-number-lt-NEVER
returns-else-number-lt-NEVER c =
    let a = c.args in
    c.put_value-else-number-lt-NEVER.ensures
    ∙ value_open a.numbers.now a.queue.now a.best.now a.leaf c.leaf_place-place.result c.leaf_place-place.ensures.0 c.if-number-lt-NEVER.false
    c.cost_at-offer.result c.cost_at-offer.ensures
