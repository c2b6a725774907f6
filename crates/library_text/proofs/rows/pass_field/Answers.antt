-- A row goes into the group that is open, or into a new one; a field that is neither an M nor a Z is a row where it is read.
use Rattle.common_laws.proofs.Base.{sym, ◌∙◌}
use Rattle.reading.specs.Choice.{pick}
use Rattle.text.specs.Bytes.{bytes}
use Rattle.library_table.specs.Library.{is_join, is_z}
use Rattle.library_text.specs.Groups.{row_put}
use Rattle.library_text.specs.Passes.{field_passed, field_stored}
use Rattle.library_text.proofs.Passes.{value_row, no_row, group_near}
use Rattle.library_text.proofs.rows.pass_field.Goals as goal

pub put_row-requires : goal.put_row-requires
put_row-requires c = group_near _ _ _ c.requires c.group_for-g.ensures

pub row_added-requires : goal.row_added-requires
row_added-requires c = (group_near _ _ _ c.requires c.group_for-g.ensures).1

pub returns-in-Some-clause-judged : goal.returns-in-Some-clause-judged
unfolding field_passed is_join is_z bytes pick
returns-in-Some-clause-judged c =
    let row = value_row _ _ c.octal.result _ c.row_digits.ensures c.octal.ensures _ c.in-Some.is in
    rw (sym c.same.ensures ∙ c.if-same.false, sym c.same-2.ensures ∙ c.if-same-2.false, row.0, row.1, ← c.group_for-g.ensures, ← c.columns_of-columns.ensures) c.row_added.ensures

pub returns-in-Some-clause-stores : goal.returns-in-Some-clause-stores
unfolding field_stored is_join is_z bytes row_put pick
returns-in-Some-clause-stores c =
    let row = value_row _ _ c.octal.result _ c.row_digits.ensures c.octal.ensures _ c.in-Some.is in
    rw (sym c.same.ensures ∙ c.if-same.false, sym c.same-2.ensures ∙ c.if-same-2.false, row.0, row.1, ← c.group_for-g.ensures, ← c.columns_of-columns.ensures, ← c.depth_of.ensures) c.put_row.ensures

pub returns-in-None-clause-judged : goal.returns-in-None-clause-judged
unfolding field_passed is_join is_z bytes pick
returns-in-None-clause-judged c =
    rw (sym c.same.ensures ∙ c.if-same.false, sym c.same-2.ensures ∙ c.if-same-2.false, no_row _ _ c.octal.result _ c.row_digits.ensures c.octal.ensures c.in-None.is) c.marked-in-None.ensures

pub returns-in-None-clause-stores : goal.returns-in-None-clause-stores
unfolding field_stored is_join is_z bytes pick
returns-in-None-clause-stores c =
    rw (sym c.same.ensures ∙ c.if-same.false, sym c.same-2.ensures ∙ c.if-same-2.false, no_row _ _ c.octal.result _ c.row_digits.ensures c.octal.ensures c.in-None.is)
