-- One byte more.
use Rattle.common_laws.proofs.Base.{◌≤◌, length, sym, ◌∙◌, arith}
use Rattle.library_text.proofs.LineStores.{sets-start, sets-turn, sets-ended}
use Rattle.library_text.proofs.lines.store.put_bytes.Goals as goal

pub loop-i-init : goal.loop-i-init
loop-i-init c = sets-start c.args.table.now c.args.name.now c.args.at

pub loop-i-preserved : goal.loop-i-preserved
loop-i-preserved c =
    rw (c.put.ensures, c.from.ensures) (sym (sets-turn c.loop-i.table c.args.name.now c.args.at c.loop-i.i c.loop-i-test.true) ∙ c.loop-i.invariant)

pub returns : goal.returns
returns c =
    let ended : length c.args.name.now ≤ c.loop-i.i = omega arith in
    sym (sets-ended c.loop-i.table c.args.name.now c.args.at c.loop-i.i ended) ∙ c.loop-i.invariant
