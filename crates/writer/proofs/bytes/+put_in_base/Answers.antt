-- The digits above the last, by the call of itself, and the last.
use Rattle.common_laws.proofs.Base.{◌<◌, arith}
use native.Mathlib.Nat.{div-le_self}
use Rattle.writer.proofs.Digits.{digits-one, digits-then}
use Rattle.writer.proofs.Steps.{put_then}
use Rattle.writer.proofs.bytes.+put_in_base.Goals as goal

pub returns-then-n : goal.returns-then-n
returns-then-n g t c =
    let positive : 0 < g.row.BASE = omega arith in
    λ more h. rw (digits-one g.row.BASE positive more c.args.n c.if-n.true) c.put_one.ensures

pub returns-else-n : goal.returns-else-n
returns-else-n g t c =
    let base = g.row.BASE in
    let positive : 0 < base = omega arith in
    λ more h.
    rw (digits-then base positive more c.args.n c.if-n.false h)
    (put_then (c.put_in_base-next.ensures more (omega (arith, div-le_self c.args.n base))) c.put_one-else-n.ensures)
