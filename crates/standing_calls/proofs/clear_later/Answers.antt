-- `clear_later` goes by the number.
use Rattle.common_laws.proofs.Base.{sym, ◌∙◌, ne_eqb}
use Rattle.reading.specs.Choice.{pick}
use Rattle.reading.specs.Numbers as No
use Rattle.table.proofs.Places.{cleared-all}
use Rattle.standing_calls.proofs.clear_later.Goals as goal
use Rattle.standing_calls.proofs.clear_later.Goals.{then-number-via-then-number, then-number-via-else-number+then-number-2}

pub returns-then-number : goal.returns-then-number
unfolding pick
returns-then-number c =
    elim c.then-number.branch [
      | then-number-via-then-number w ↦ rw (w.if-number.true ∙ c.number.ensures)
      | then-number-via-else-number+then-number-2 w ↦ rw (w.if-number-2.true ∙ w.number-else-number.ensures)
    ]

pub returns : goal.returns
unfolding pick
returns c =
    let number = c.args.refusal.number in
    rw (
      ne_eqb number No.table_short (λ e. c.if-number.false (e ∙ sym c.number.ensures)),
      ne_eqb number No.text_long (λ e. c.if-number-2.false (e ∙ sym c.number-else-number.ensures)),
    )
    (c.clear.ensures ∙ cleared-all c.args.standing.now)
