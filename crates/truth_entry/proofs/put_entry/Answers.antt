-- `put_entry` cuts the line into its fields, each once.
use Rattle.common_laws.proofs.Base.{Bool, ◌&&◌, ◌≡◌, refl, ap, ◌∙◌, ◌+◌, ◌<◌, arith, eqb, length, drop, lt-ltb}
use Rattle.std.specs.Prelude.{Err}
use Rattle.sizes.specs.Sizes as Size
use Rattle.reading.specs.Choice.{pick}
use Rattle.reading.specs.Refusal.{◌>>=◌, ◌>>◌, weigh}
use Rattle.reading.specs.Answer.{answer_read}
use Rattle.text.specs.Lines.{fields, fields_from}
use Rattle.text.proofs.Laws.{fields_from-start}
use Rattle.text.proofs.Cursors.{field_nth, field_next, field_last}
use Rattle.writer.specs.Buffer.{left_by, length_read, Writes}
use Rattle.truth_entry.specs.Generated.{generated, generated_into}
use Rattle.truth_entry.proofs.Bounded.{writes-long}
use Rattle.truth_entry.proofs.Tables.{table_from, text-short}
use Rattle.truth_entry.proofs.put_entry.Goals as goal

pub returns-then-text-gt-TEXT_BYTES : goal.returns-then-text-gt-TEXT_BYTES
unfolding generated_into generated weigh pick ◌>>◌ ◌>>=◌ left_by answer_read length_read
returns-then-text-gt-TEXT_BYTES c =
    let text = c.args.text.now in
    let long : Size.text_bytes < length text = omega arith in
    let w : Writes (generated_into text (length c.args.entry.now)) c.args.entry.now c.args.entry.now (Err c.at.result) =
    rw (c.at.ensures, lt-ltb Size.text_bytes (length text) long) (record { answers = refl; leaves = refl }) in
    record { writes = w; long = writes-long text _ _ _ w }

pub returns : goal.returns
returns c =
    let a = c.args in
    let line = c.line-first.result.now in
    let behind_first : fields_from line c.after-second.result ≡ drop 1 (fields line) =
    field_next _ _ 0 _ 0 (fields_from-start _) c.field-name.ensures c.after-second.ensures in
    let behind-second : fields_from line c.after-third.result ≡ drop 2 (fields line) =
    field_next _ _ _ _ 1 behind_first c.field-digits.ensures c.after-third.ensures in
    let last = c.is_last.ensures ∙ field_last _ _ _ _ 2 behind-second c.field-bits.ensures c.after.ensures in
    let w : Writes (generated_into a.text.now (length a.entry.now)) a.entry.now c.generate.new.entry c.generate.result =
    rw (text-short a.text.now (length a.entry.now) (omega arith))
    (rw (table_from a.text.now line c.field-name.result.now c.field-digits.result.now c.field-bits.result.now (eqb (length line + 1) (length a.text.now) && c.is_last.result) c.line-first.ensures (ap (λ (t : Bool). eqb (length line + 1) (length a.text.now) && t) last) (field_nth _ _ 0 0 0 (fields_from-start _) c.field-name.ensures) (field_nth _ _ _ 0 1 behind_first c.field-digits.ensures) (field_nth _ _ _ 0 2 behind-second c.field-bits.ensures))
    c.generate.ensures) in
    record { writes = w; long = writes-long a.text.now _ _ _ w }
