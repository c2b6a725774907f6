-- `read_lines` walks the lines of the text: the table holds the statements passed.
use Rattle.common_laws.proofs.Base.{List, ◌≡◌, refl, sym, ◌∙◌, ◌+◌, ◌<◌, arith, length, drop, rules}
use Rattle.sizes.specs.Sizes as Size
use Rattle.text.specs.Lines.{part, fields, next_after}
use Rattle.reading.specs.Cause.{refusal_number}
use Rattle.reading.specs.Answer.{answer_read}
use Rattle.reading.proofs.Causes.{mapped, line_answers, line_accepts}
use Rattle.library_table.specs.Cells.{Cell}
use Rattle.library_table.specs.Layout.{CellsTold}
use Rattle.netlist_table.specs.Netlist.{statement_of}
use Rattle.netlist_table.specs.Admission.{Decided}
use Rattle.std.proofs.lemmas.Result.{err_from_is_err_and}
use Rattle.netlist_text.proofs.Forms.{cursor-behind}
use Rattle.netlist_text.proofs.Walk.{holding, line-ended, line-unended, line-less, line-number, part-decided}
use Rattle.netlist_text.proofs.Walk.{reading-start, reading-more, reading-refused, reading-unended, reading-end, fills-refused, fills-read}
use Rattle.netlist_text.proofs.read_lines.Goals as goal
use Rattle.netlist_text.proofs.read_lines.Goals.{After-after-end, After-read_line}

pub loop-at-init : goal.loop-at-init
loop-at-init c =
    record {
      within = omega arith;
      few = omega arith;
      reading = λ cells lib. reading-start c.args.rules cells c.args.text.now c.args.table.now c.requires.1;
    }

-- The cursor behind the line.
behind : (c : After-after-end)
    → let s = c.args.text.now in c.after-end.result ≡ next_after s c.loop-at.at (part 10 s c.loop-at.at)
behind c = cursor-behind c.args.text.now c.loop-at.at c.after-end.ensures c.line-l.ensures

pub returns-then-n-end : goal.returns-then-n-end
unfolding answer_read
returns-then-n-end c cells lib =
    let s = c.args.text.now in
    let l = c.loop-at in
    fills-refused _ _ _ _
    (reading-unended (l.invariant.reading cells lib) c.loop-at-test.true
    (line-unended s l.at c.after-end.result l.invariant.within (behind ((goal.at.returns-then-n-end c).After-after-end)) c.if-n-end.true))
    (rw c.at.ensures)

-- The line is whole, and what `read_line` answered and left is decided of it.
module _ (c : After-read_line) (moved : let s = c.args.text.now in c.after-end.result ≡ next_after s c.loop-at.at (part 10 s c.loop-at.at)) where
  whole : let s = c.args.text.now in c.loop-at.at + length (part 10 s c.loop-at.at) < length s
  whole = line-ended c.args.text.now c.loop-at.at c.after-end.result c.loop-at.invariant.within moved c.if-n-end.false

  decided : (cells : List Cell) (lib : CellsTold c.args.library.now cells)
      → Decided cells (c.loop-at.invariant.reading cells lib).statements
      (statement_of c.args.rules cells (fields (part 10 c.args.text.now c.loop-at.at)))
      (drop Size.netlist c.args.table.now) (refusal_number c.read_line.result) c.read_line.new.table
  decided cells lib =
      let so_far = c.loop-at.invariant.reading cells lib in
      part-decided c.args.rules c.line-l.ensures (c.read_line.ensures cells lib so_far.statements so_far.sound (holding so_far))

pub returns-in_err-map_err : goal.returns-in_err-map_err
unfolding answer_read
returns-in_err-map_err c cells lib =
    let a = goal.at.returns-in_err-map_err c in
    let p = err_from_is_err_and c.from_residual.result c.from_residual.ensures.1 in
    let said = line_answers c.read_line.result c.loop-at.number (sym c.in_err-map_err.was ∙ mapped _ _ _ c.map_err.ensures.cases (λ cause refusal says. search rules)) in
    rw (p.1, p.2)
    (fills-refused _ _ _ _
    (reading-refused (c.loop-at.invariant.reading cells lib) (whole a.After-read_line (behind a.After-after-end)) (decided a.After-read_line (behind a.After-after-end) cells lib) said.0)
    (rw (said.1, said.2)))

pub loop-at-smaller : goal.loop-at-smaller
loop-at-smaller c =
    line-less c.args.text.now c.loop-at.at c.after-end.result c.loop-at.invariant.within (behind ((goal.at.loop-at-smaller c).After-after-end)) c.loop-at-test.true

pub loop-at-preserved : goal.loop-at-preserved
loop-at-preserved c =
    let a = goal.at.loop-at-preserved c in
    let moved = behind a.After-after-end in
    let r = a.After-read_line in
    let l = c.loop-at in
    record {
      within = c.if-n-end.false;
      few = line-number c.args.text.now l.at c.after-end.result l.invariant.within moved l.number l.invariant.few;
      reading = λ cells lib.
          reading-more (l.invariant.reading cells lib) (whole r moved) (decided r moved cells lib) moved
          (line_accepts c.read_line.result l.number (sym c.in_ok-map_err.was ∙ mapped _ _ _ c.map_err.ensures.cases (λ cause refusal says. search rules)));
    }

pub returns : goal.returns
unfolding answer_read
returns c cells lib =
    let so_far = c.loop-at.invariant.reading cells lib in
    fills-read _ _ _ c.loop-at.table (reading-end so_far c.loop-at-test.false) refl so_far.held
