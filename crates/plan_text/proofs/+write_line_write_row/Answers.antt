-- What the two writers put, by the equations of what they are to put.
use Rattle.common_laws.proofs.Base.{ap, ◌∙◌, arith}
use Rattle.writer.proofs.Steps.{puts-none}
use Rattle.plan_text.specs.Writers.{goal_at}
use Rattle.plan_text.proofs.Writers.{puts-past, line-none, line-put, rest-more, rest-all}
use Rattle.plan_text.proofs.+write_line_write_row.Goals as goal

pub write_line-returns-then-before-visit : goal.write_line-returns-then-before-visit
write_line-returns-then-before-visit t c =
    let a = c.args in
    rw (line-none a.marks.now a.netlist.now a.before a.depth a.goal (omega (arith, c.word-visit.ensures, c.if-before-visit.true))) (puts-none a.out.now)

pub write_line-returns-then-out : goal.write_line-returns-then-out
write_line-returns-then-out t c = puts-past c.args.out.now _ (omega arith)

pub write_line-returns : goal.write_line-returns
write_line-returns t c =
    let a = c.args in
    line-put a.marks.now a.netlist.now a.before a.depth a.goal _ _ _ _
    c.word-visit.ensures c.word-row.ensures c.word-columns.ensures c.word-last.ensures
    (omega (arith, c.if-before-visit.false)) c.put_node.ensures c.write_row.ensures

pub write_row-loop-rest-init : goal.write_row-loop-rest-init
write_row-loop-rest-init t c = (omega arith, λ after p. p)

pub write_row-loop-rest-preserved : goal.write_row-loop-rest-preserved
write_row-loop-rest-preserved t c =
    let l = c.loop-rest in
    let a = c.args in (
      omega (arith, c.others-rest.ensures.most, l.invariant.0),
      rw c.others-rest.ensures.value (rest-more a.marks.now a.netlist.now a.before a.depth a.last a.columns a.out.now l.rest c.loop-rest-test.true (omega (arith, l.invariant.0)) _
          (c.goal_at-goal.ensures.0 ∙ ap (goal_at a.netlist.now a.last) c.lowest.ensures)
          c.write_line.ensures l.invariant.1),
    )

pub write_row-returns : goal.write_row-returns
write_row-returns t c =
    let a = c.args in
    rest-all a.marks.now a.netlist.now a.before a.depth a.last a.columns a.out.now c.loop-rest.rest (omega arith) c.loop-rest.invariant.1
