-- `asked_number` reads the number where there is one.
use Rattle.common_laws.proofs.Base.{refl, sym, ◌∙◌, arith}
use Rattle.cost.specs.Kind.{kind_index}
use Rattle.reading.specs.Choice.{pick}
use Rattle.plan_calls.specs.Concluded.{asked_number}
use Rattle.plan_calls.proofs.EndLaws.{in-range}
use Rattle.plan_calls.proofs.end.asked_number.Goals as goal

pub overflow_sub-line : goal.overflow_sub-line
overflow_sub-line c = (in-range c.args.line c.args.value (kind_index c.args.kind) (sym c.is_known.ensures ∙ c.if-is_known.true)).least

pub overflow_mul-line : goal.overflow_mul-line
overflow_mul-line c =
    let i = in-range c.args.line c.args.value (kind_index c.args.kind) (sym c.is_known.ensures ∙ c.if-is_known.true) in
    omega (arith, i.most)

pub overflow_add-line : goal.overflow_add-line
overflow_add-line c =
    let i = in-range c.args.line c.args.value (kind_index c.args.kind) (sym c.is_known.ensures ∙ c.if-is_known.true) in
    omega (arith, i.most, i.kinds, c.index.ensures)

pub overflow_add-line-then-is_known : goal.overflow_add-line-then-is_known
overflow_add-line-then-is_known c =
    let i = in-range c.args.line c.args.value (kind_index c.args.kind) (sym c.is_known.ensures ∙ c.if-is_known.true) in
    omega (arith, i.most, i.kinds, i.value, c.index.ensures)

pub returns-then-is_known : goal.returns-then-is_known
unfolding asked_number pick
returns-then-is_known c = rw (sym c.is_known.ensures ∙ c.if-is_known.true, ← c.index.ensures) c.word.ensures

pub returns-else-is_known : goal.returns-else-is_known
unfolding asked_number pick
returns-else-is_known c = rw (sym c.is_known.ensures ∙ c.if-is_known.false) refl
