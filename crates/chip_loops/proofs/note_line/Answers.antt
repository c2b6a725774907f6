-- `note_line` marks the line where it has no mark.
use Rattle.common_laws.proofs.Base.{refl, sym, ◌∙◌}
use Rattle.chip_loops.proofs.Steps.{note_none, note_again, note_new}
use Rattle.chip_loops.proofs.note_line.Goals as goal

pub returns-then-line-eq0 : goal.returns-then-line-eq0
returns-then-line-eq0 c = note_none c.args.line c.if-line-eq0.true refl

pub returns-then-is_marked : goal.returns-then-is_marked
returns-then-is_marked c = note_again c.args.line c.if-line-eq0.false (sym c.is_marked.ensures ∙ c.if-is_marked.true) refl

pub returns : goal.returns
returns c = note_new c.args.line c.if-line-eq0.false (sym c.is_marked.ensures ∙ c.if-is_marked.false) c.mark.ensures
