-- Eight bytes in which no line ends are passed over.
use Rattle.common_laws.proofs.Base.{◌≡◌, sym, ◌∙◌, ◌+◌, ◌*◌, arith}
use Rattle.text.proofs.Steps.{span-past, none-ends}
use Rattle.text.proofs.eights.Goals as goal

pub loop-k-preserved : goal.loop-k-preserved
loop-k-preserved c =
    let s = c.args.text.now in
    let k = c.loop-k.k in
    let past = span-past 10 s (8 * k) 8 (omega arith) (none-ends s (8 * k) 8 (sym c.line_ends.ensures ∙ c.if-line_ends.false)) in
    let next : 8 * (k + 1) ≡ 8 * k + 8 = omega arith in
    rw next (omega (arith, past, c.loop-k.invariant))
