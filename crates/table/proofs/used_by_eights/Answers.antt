-- The eight numbers that a turn leaves are 0.
use Rattle.common_laws.proofs.Base.{◌≡◌, sym, ap, ◌∙◌, ◌+◌, ◌-◌, ◌*◌, ◌%◌, arith}
use Rattle.table.specs.Blocks.{used}
use Rattle.table.proofs.UsedPart.{used-eight}
use Rattle.table.proofs.used_by_eights.Goals as goal

pub loop-k-preserved : goal.loop-k-preserved
loop-k-preserved c =
    let a = c.args in
    let k = c.loop-k.k in
    let eight : a.n % 8 + 8 * k ≡ a.n % 8 + 8 * (k - 1) + 8 = omega arith in
    c.loop-k.invariant
    ∙ ap (used a.table.now a.from) eight
    ∙ used-eight a.table.now a.from (a.n % 8 + 8 * (k - 1)) (sym c.zeros.ensures ∙ c.if-not-zeros.false)
