-- `admit_range` checks a range and admits it.
use Rattle.common_laws.proofs.Base.{sym, ◌∙◌, arith}
use Rattle.reading.specs.Cause.{refusal_number}
use Rattle.netlist_table.proofs.Causes.{bounds-fit}
use Rattle.netlist_admission.proofs.Outcomes.{range-line, range-unmarked, range-unfit, range-second, range-admitted}
use Rattle.netlist_admission.proofs.kinds.admit_range.Goals as goal
use Rattle.netlist_admission.proofs.kinds.admit_range.Goals.{then-bounds_bad-via-then-bounds_bad, then-bounds_bad-via-else-bounds_bad+then-again}

pub returns-then-line_bad : goal.returns-then-line_bad
unfolding refusal_number
returns-then-line_bad c cells ss so h = range-line cells h so _ (sym c.line_bad.ensures ∙ c.if-line_bad.true)

pub returns-then-not-is_input : goal.returns-then-not-is_input
unfolding refusal_number
returns-then-not-is_input c cells ss so h =
    range-unmarked cells h so _ (sym c.line_bad.ensures ∙ c.if-line_bad.false) (sym c.is_input.ensures ∙ c.if-not-is_input.true)

pub returns-then-bounds_bad : goal.returns-then-bounds_bad
unfolding refusal_number
returns-then-bounds_bad c cells ss so h =
    let good = sym c.line_bad.ensures ∙ c.if-line_bad.false in
    let marked = sym c.is_input.ensures ∙ c.if-not-is_input.false in
    elim c.then-bounds_bad.branch [
      | then-bounds_bad-via-then-bounds_bad w ↦ range-unfit cells h so _ good marked (sym c.bounds_bad.ensures ∙ w.if-bounds_bad.true)
      | then-bounds_bad-via-else-bounds_bad+then-again w ↦
          range-second cells h so _ good marked (sym c.bounds_bad.ensures ∙ w.if-bounds_bad.false)
          (λ e. w.if-again.true (c.word-again.ensures ∙ e))
    ]

pub store_range-requires : goal.store_range-requires
store_range-requires c =
    let f = bounds-fit _ _ (sym c.bounds_bad.ensures ∙ c.if-bounds_bad.false) in (omega (arith, f.1, f.2), f.2)

pub returns : goal.returns
unfolding refusal_number
returns c cells ss so h =
    let done =
    range-admitted cells h so _ (sym c.line_bad.ensures ∙ c.if-line_bad.false) (sym c.is_input.ensures ∙ c.if-not-is_input.false)
    (sym c.bounds_bad.ensures ∙ c.if-bounds_bad.false) (sym c.word-again.ensures ∙ c.if-again.false)
    in
    record { answers = done.answers; leaves = c.store_range.ensures ∙ done.leaves }
