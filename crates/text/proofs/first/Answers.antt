-- The byte at the cursor ends the part or does not.
use Rattle.common_laws.proofs.Base.{◌≡◌, sym, ◌∙◌, suc, ◌+◌, arith, eqb-true, eqb-false, length, get_or, drop, take-length}
use Rattle.text.specs.Class.{end_of}
use Rattle.text.specs.Lines.{span}
use Rattle.text.proofs.Laws.{class_ends}
use Rattle.text.proofs.Steps.{span-at, span-on, span-end, part-found}
use Rattle.text.proofs.first.Goals as goal

pub returns-then-ends : goal.returns-then-ends
returns-then-ends c =
    let s = c.args.text.now in
    let i = c.loop-i.i in
    let mark = end_of c.args.piece in
    let here : get_or s i 0 ≡ mark = eqb-true (get_or s i 0) mark (sym (c.ends.ensures ∙ class_ends c.args.piece (get_or s i 0)) ∙ c.if-ends.true) in
    let ends : span mark (drop i s) ≡ 0 = span-at mark s i c.loop-i-test.true here in
    part-found mark s i (omega arith)

pub loop-i-preserved : goal.loop-i-preserved
loop-i-preserved c =
    let s = c.args.text.now in
    let i = c.loop-i.i in
    let mark = end_of c.args.piece in
    let other = eqb-false (get_or s i 0) mark (sym (c.ends.ensures ∙ class_ends c.args.piece (get_or s i 0)) ∙ c.if-ends.false) in
    let goes : span mark (drop i s) ≡ suc (span mark (drop (i + 1) s)) = span-on mark s i c.loop-i-test.true other in
    omega arith

pub returns : goal.returns
returns c =
    let s = c.args.text.now in
    let i = c.loop-i.i in
    let mark = end_of c.args.piece in
    let ends : span mark (drop i s) ≡ 0 = span-end mark s i c.loop-i-test.false in
    sym (take-length s) ∙ part-found mark s (length s) (omega arith)
