-- `pins_from` gathers the pins of the fields: those passed are.
use Rattle.common_laws.proofs.Base.{Bool, ◌||◌, refl, ap, arith}
use Rattle.table.specs.Blocks.{fitted}
use Rattle.text.specs.Lines.{part}
use Rattle.text.proofs.Laws.{next_after-within}
use Rattle.netlist_table.specs.Netlist.{any_line_bad}
use Rattle.netlist_text.proofs.Forms.{cursor-behind, number-good, number-bad, pins-more, passed_start, passed-more, passed-bad, passed-end}
use Rattle.netlist_text.proofs.statements.pins_from.Goals as goal

pub loop-at-init : goal.loop-at-init
unfolding fitted any_line_bad
loop-at-init c =
    record {
      few = omega arith;
      passed = passed_start c.args.line.now c.args.from _ (record { pins = refl; count = refl; bad = refl });
    }

pub returns-in_err-l : goal.returns-in_err-l
returns-in_err-l c =
    rw c.from_residual.ensures
    (passed-bad c.loop-at.invariant.passed c.loop-at-test.true (number-bad c.decimal.ensures c.field-f.ensures c.in_err-l.was))

pub loop-at-smaller : goal.loop-at-smaller
loop-at-smaller c =
    let s = c.args.line.now in
    let l = c.loop-at in
    let moved = cursor-behind s l.at c.after-at.ensures c.field-f.ensures in
    omega (arith, next_after-within s l.at (part 44 s l.at) c.loop-at-test.true, moved)

pub loop-at-preserved : goal.loop-at-preserved
loop-at-preserved c =
    let s = c.args.line.now in
    let l = c.loop-at in
    let moved = cursor-behind s l.at c.after-at.ensures c.field-f.ensures in
    record {
      few = omega (arith, next_after-within s l.at (part 44 s l.at) c.loop-at-test.true, moved, l.invariant.few);
      passed =
          rw moved
          (passed-more l.invariant.passed c.in_ok-l.l _ c.loop-at-test.true
          (number-good c.decimal.ensures c.field-f.ensures c.in_ok-l.was)
          (λ ls h. pins-more ls c.in_ok-l.l _ _ h c.put.ensures refl (ap (λ (b : Bool). l.bad || b) c.line_bad-bad.ensures)));
    }

pub returns : goal.returns
returns c = passed-end c.loop-at.invariant.passed c.loop-at-test.false
