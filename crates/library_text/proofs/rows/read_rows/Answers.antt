-- The word, then the walk.
use Rattle.common_laws.proofs.Base.{sym, ◌∙◌, arith}
use Rattle.reading.specs.Cause.{refusal_number}
use Rattle.reading.specs.Choice.{pick}
use Rattle.text.specs.Lines.{fields}
use Rattle.text.proofs.Laws.{fields_from-start}
use Rattle.text.proofs.Cursors.{field_nth, field_next, fields-some}
use Rattle.library_text.proofs.Passes.{asked-place, row_number-walk, walk-read}
use Rattle.library_text.proofs.rows.read_rows.Goals as goal

pub returns-then-not-is_word : goal.returns-then-not-is_word
unfolding refusal_number pick
returns-then-not-is_word c =
    let a = c.args in
    let line = a.line.now in
    let told = rw (field_nth line _ 0 0 0 (fields_from-start line) c.field-first.ensures) at c.is_word.ensures in
    record {
      number = rw (row_number-walk a.cell a.head.heading a.word a.head.pins c.requires.1 (fields line) (fields-some line), sym told ∙ c.if-not-is_word.true);
      table = λ z. absurd (omega arith);
    }

pub pass_fields-p-requires : goal.pass_fields-p-requires
pass_fields-p-requires c =
    let a = c.args in
    (rw c.asked_for-a.ensures (asked-place a.cell a.head.heading a.word a.head.pins c.requires.0), c.requires.2)

pub returns : goal.returns
returns c =
    let a = c.args in
    let line = a.line.now in
    let told = rw (field_nth line _ 0 0 0 (fields_from-start line) c.field-first.ensures) at c.is_word.ensures in
    let from = field_next line _ 0 _ 0 (fields_from-start line) c.field-first.ensures c.after-from.ensures in
    walk-read a.cell a.head.heading a.word a.head.pins c.requires.1 (fields line) (fields-some line) (sym told ∙ c.if-not-is_word.false)
    _ _ _ _ _ _ c.asked_for-a.ensures from c.pass_fields-p.ensures.judged c.pass_fields-p.ensures.stores c.judged.ensures
