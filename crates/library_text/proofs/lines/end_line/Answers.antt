-- Whether the line is the word End alone.
use Rattle.common_laws.proofs.Base.{Bool, false, ◌&&◌, and-false, ◌≡◌, refl, sym, ◌∙◌}
use Rattle.text.specs.Bytes.{bytes}
use Rattle.text.specs.Lines.{fields, same_bytes}
use Rattle.library_text.specs.Headers.{end_formed}
use Rattle.library_text.specs.Walk.{Leaves}
use Rattle.library_text.proofs.Headers.{end-told}
use Rattle.library_text.proofs.Entries.{at-line, end_refused, end_read}
use Rattle.library_text.proofs.lines.end_line.Goals as goal
use Rattle.library_text.proofs.lines.end_line.Goals.{then-not-is_last-via-then-not-is_last, then-not-is_last-via-else-not-is_last+then-not-same}

pub returns-then-not-is_last : goal.returns-then-not-is_last
unfolding bytes Leaves
returns-then-not-is_last c r past n shows =
    let a = c.args in
    let end : Bool = same_bytes c.field-f.result.now (bytes "End") in
    let told : (c.is_last.result && end) ≡ end_formed (fields a.line.now) = end-told _ _ _ _ end c.field-f.ensures c.after.ensures c.is_last.ensures refl in
    let other : (c.is_last.result && end) ≡ false = elim c.then-not-is_last.branch [
      | then-not-is_last-via-then-not-is_last w ↦ rw w.if-not-is_last.true
      | then-not-is_last-via-else-not-is_last+then-not-same w ↦ rw (sym w.same.ensures ∙ w.if-not-same.true) (and-false c.is_last.result)
    ] in
    end_refused (fields a.line.now) r past n a.cells a.head a.table.now shows (at-line _ _ _ shows.entry) (sym told ∙ other)

pub returns : goal.returns
unfolding bytes Leaves
returns c r past n shows =
    let a = c.args in
    let told : (c.is_last.result && c.same.result) ≡ end_formed (fields a.line.now) = end-told _ _ _ _ _ c.field-f.ensures c.after.ensures c.is_last.ensures c.same.ensures in
    end_read (fields a.line.now) r past n a.cells a.head a.table.now shows (at-line _ _ _ shows.entry) _ (sym told ∙ rw (c.if-not-is_last.false, c.if-not-same.false)) c.put.ensures
