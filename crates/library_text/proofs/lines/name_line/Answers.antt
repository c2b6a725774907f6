-- The header, or the cause that refuses it.
use Rattle.common_laws.proofs.Base.{◌≡◌, sym, ap, ◌∙◌}
use Rattle.std.specs.Prelude.{Option, ok_or}
use Rattle.std.proofs.lemmas.Result.{err_from_is_err_and}
use Rattle.reading.specs.Cause.{refusal_number}
use Rattle.reading.specs.declared.Cause.TheVariants.{LibraryForm}
use Rattle.reading.proofs.Causes.{number-some}
use Rattle.text.specs.Lines.{fields}
use Rattle.text.proofs.FieldLaws.{name_form-length}
use Rattle.library_text.specs.Headers.{told}
use Rattle.library_text.specs.declared.Head.{Head}
use Rattle.library_text.specs.Walk.{Leaves}
use Rattle.library_text.proofs.Entries.{name-bad, name-refused, name-read}
use Rattle.library_text.proofs.Headers.{cut-name, head-form}
use Rattle.library_text.proofs.lines.name_line.Goals as goal

pub returns-in_err-head : goal.returns-in_err-head
unfolding told Leaves
returns-in_err-head c r past n shows =
    let p = err_from_is_err_and c.from_residual.result c.from_residual.ensures.1 in
    let cut = cut-name _ _ _ _ _ _ _ _ _ c.field-word.ensures c.after-second.ensures c.field-name.ensures c.after-third.ensures c.field-digits.ensures c.after.ensures c.is_last-three.ensures c.head_in.ensures in
    let form : c.in_err-head.field-0.0 ≡ LibraryForm = cc (c.in_err-head.ensures.value ∙ ap (λ (o : Option Head). ok_or o LibraryForm) c.in_err-head.ensures.ok_part) in
    rw (p.1, p.2, form)
    (name-bad (fields c.args.line.now) r past n c.args.cells c.args.table.now shows (sym cut.head ∙ ap told c.in_err-head.ensures.ok_part))

pub returns-in_err-header_fits : goal.returns-in_err-header_fits
unfolding told refusal_number Leaves
returns-in_err-header_fits c r past n shows =
    let e = c.from_residual-in_err-header_fits in
    let p = err_from_is_err_and e.result e.ensures.1 in
    let cut = cut-name _ _ _ _ _ _ _ _ _ c.field-word.ensures c.after-second.ensures c.field-name.ensures c.after-third.ensures c.field-digits.ensures c.after.ensures c.is_last-three.ensures c.head_in.ensures in
    rw (p.1, p.2)
    (name-refused (fields c.args.line.now) r past n c.args.cells c.args.table.now shows _ (sym cut.head ∙ ap told c.in_ok-head.ensures.ok_part) _ (rw cut.name at c.in_err-header_fits.ensures) (number-some _))

pub put_header-requires : goal.put_header-requires
unfolding told
put_header-requires c = (c.requires, (name_form-length _ (head-form _ _ _ _ _ (sym c.head_in.ensures ∙ ap told c.in_ok-head.ensures.ok_part))).1)

pub returns : goal.returns
unfolding told refusal_number Leaves
returns c r past n shows =
    let cut = cut-name _ _ _ _ _ _ _ _ _ c.field-word.ensures c.after-second.ensures c.field-name.ensures c.after-third.ensures c.field-digits.ensures c.after.ensures c.is_last-three.ensures c.head_in.ensures in
    name-read (fields c.args.line.now) r past n c.args.cells c.args.table.now shows _ (sym cut.head ∙ ap told c.in_ok-head.ensures.ok_part) _
    (sym (rw cut.name at c.in_ok-header_fits.ensures)) (rw cut.name at c.put_header.ensures)
