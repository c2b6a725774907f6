-- `admit_mark` checks a mark and admits it.
use Rattle.common_laws.proofs.Base.{List, sym, ap, ◌∙◌, ℕ, set}
use Rattle.sizes.specs.Places.{mention_place}
use Rattle.reading.specs.Cause.{refusal_number}
use Rattle.netlist_table.specs.Admission.{mark_place}
use Rattle.netlist_admission.proofs.Outcomes.{mark-bad, mark-second, mark-admitted}
use Rattle.netlist_admission.proofs.kinds.admit_mark.Goals as goal

pub returns-then-line_bad : goal.returns-then-line_bad
unfolding refusal_number
returns-then-line_bad c cells m place value second ss so h = mark-bad cells h m _ (sym c.line_bad.ensures ∙ c.if-line_bad.true)

pub returns-then-word-ne0 : goal.returns-then-word-ne0
unfolding refusal_number
returns-then-word-ne0 c cells m place value second ss so h =
    rw second
    (mark-second cells h m _ (sym c.line_bad.ensures ∙ c.if-line_bad.false) (λ e. c.if-word-ne0.true (c.word.ensures ∙ rw place e)))

pub returns : goal.returns
unfolding refusal_number
returns c cells m place value second ss so h =
    let a = c.args in
    let done =
    mark-admitted cells h m a.l (sym c.line_bad.ensures ∙ c.if-line_bad.false) (rw (← place) (sym c.word.ensures ∙ c.if-word-ne0.false))
    in
    record {
      answers = done.answers;
      leaves =
          c.mention.ensures
          ∙ ap (λ (t : List ℕ). set t (mention_place a.l) 1)
          (c.put.ensures ∙ ap (λ (i : ℕ). set a.table.now i a.value) place ∙ ap (set a.table.now (mark_place m a.l)) value)
          ∙ done.leaves;
    }
