-- One byte more is looked at with each turn.
use Rattle.std.proofs.lemmas.List.Edits.{get_or-between}
use Rattle.text.specs.declared.Piece.TheVariants.{Line}
use Rattle.common_laws.proofs.Base.{refl, ◌∙◌, ◌+◌, ◌<◌, arith}
use Rattle.text.specs.Class.{end_of}
use Rattle.text.specs.Lines.{some_ends}
use Rattle.text.proofs.Laws.{class_ends}
use Rattle.text.proofs.Steps.{ends_more}
use Rattle.text.proofs.line_ends.Goals as goal

pub loop-b-init : goal.loop-b-init
unfolding some_ends
loop-b-init c = refl

pub loop-b-preserved : goal.loop-b-preserved
unfolding end_of
loop-b-preserved c =
    let l = c.loop-b in
    let a = c.args in
    let within : a.at + l.b-index < a.at + 8 = omega arith in
    let byte = get_or-between a.text.now a.at (a.at + 8) l.b-index 0 within in
    ends_more a.text.now a.at l.b-index l.found c.ends-found.result l.invariant (rw byte at (c.ends-found.ensures ∙ class_ends Line _))
