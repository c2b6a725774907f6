-- One field more, and the end of the line.
use Rattle.common_laws.proofs.Base.{sym, ◌∙◌, arith}
use Rattle.text.proofs.Cursors.{cursor-on}
use Rattle.library_text.proofs.Passes.{passed-turn, passed-ended, stored-turn, stored-ended, field_small}
use Rattle.library_text.proofs.rows.pass_fields.Goals as goal

pub loop-at-smaller : goal.loop-at-smaller
loop-at-smaller c =
    rw (c.after-at.ensures, c.field-f.ensures) (omega (arith, cursor-on c.args.line.now c.loop-at.at c.loop-at-test.true))

pub loop-at-preserved : goal.loop-at-preserved
loop-at-preserved c =
    let l = c.loop-at in
    let s = c.args.line.now in
    let on = cursor-on s l.at c.loop-at-test.true in
    let judged = rw c.field-f.ensures at c.pass_field-p.ensures.judged in
    let stored = rw c.field-f.ensures at c.pass_field-p.ensures.stores in
    rw (c.after-at.ensures, c.field-f.ensures) (record {
      small = rw judged (field_small c.args.a l.p _ l.at _ l.invariant.small on);
      judges = rw judged (sym (passed-turn c.args.a l.p s l.at c.loop-at-test.true) ∙ l.invariant.judges);
      stores = rw (judged, stored) (sym (stored-turn c.args.a l.p s l.at l.table c.loop-at-test.true) ∙ l.invariant.stores);
    })

pub returns-clause-judged : goal.returns-clause-judged
returns-clause-judged c =
    let l = c.loop-at in
    sym (passed-ended c.args.a l.p c.args.line.now l.at c.loop-at-test.false) ∙ l.invariant.judges

pub returns-clause-stores : goal.returns-clause-stores
returns-clause-stores c =
    let l = c.loop-at in
    sym (stored-ended c.args.a l.p c.args.line.now l.at l.table c.loop-at-test.false) ∙ l.invariant.stores
