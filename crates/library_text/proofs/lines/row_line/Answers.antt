-- The line that was read, or the cause that refuses it.
use Rattle.common_laws.proofs.Base.{refl}
use Rattle.std.proofs.lemmas.Result.{err_from_is_err_and}
use Rattle.reading.specs.Cause.{refusal_number}
use Rattle.reading.proofs.Causes.{number-some}
use Rattle.text.specs.Lines.{fields}
use Rattle.text.proofs.Cursors.{fields-some}
use Rattle.library_text.specs.Walk.{Leaves}
use Rattle.library_text.proofs.Entries.{at-line, row_refused, row_read}
use Rattle.library_text.proofs.lines.row_line.Goals as goal

pub returns-in_err-read_rows : goal.returns-in_err-read_rows
unfolding refusal_number Leaves
returns-in_err-read_rows c r past n shows =
    let a = c.args in
    let line = a.line.now in
    let p = err_from_is_err_and c.from_residual.result c.from_residual.ensures.1 in
    rw (p.1, p.2)
    (row_refused (fields line) (fields-some line) r past n a.cells a.word a.head a.table.now shows (at-line _ _ _ shows.entry) _ _ c.in_err-read_rows.ensures (number-some _))

pub returns : goal.returns
unfolding refusal_number Leaves
returns c r past n shows =
    let a = c.args in
    let line = a.line.now in
    rw c.line_after-wanted.ensures
    (row_read (fields line) (fields-some line) r past n a.cells a.word a.head a.table.now shows (at-line _ _ _ shows.entry) _ _ c.in_ok-read_rows.ensures refl)
