-- What stands past the table is 0, and so is each number that a turn leaves.
use Rattle.common_laws.proofs.Base.{◌≡◌, sym, ap, ◌∙◌, arith}
use Rattle.table.specs.Blocks.{used}
use Rattle.table.proofs.UsedPart.{used-none, last-zero, last-used, used-within}
use Rattle.table.proofs.used.Goals as goal

pub loop-last-init : goal.loop-last-init
loop-last-init c =
    let a = c.args in
    used-within a.table.now a.from a.n ∙ ap (used a.table.now a.from) (sym c.within.ensures) ∙ c.used_by_eights-end.ensures.1

pub returns-then-table-from-ne0 : goal.returns-then-table-from-ne0
returns-then-table-from-ne0 c =
    omega (arith, c.loop-last.invariant, last-used c.args.table.now c.args.from c.loop-last.last (omega arith) c.if-table-from-ne0.true)

pub loop-last-preserved : goal.loop-last-preserved
loop-last-preserved c =
    c.loop-last.invariant ∙ last-zero c.args.table.now c.args.from c.loop-last.last (omega arith) c.if-table-from-ne0.false

pub returns : goal.returns
returns c =
    let a = c.args in
    let none : c.loop-last.last ≡ 0 = omega arith in
    sym (c.loop-last.invariant ∙ ap (used a.table.now a.from) none ∙ used-none a.table.now a.from)
