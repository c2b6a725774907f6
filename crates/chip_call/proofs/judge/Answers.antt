-- `judge` keeps what is known.
use Rattle.common_laws.proofs.Base.{false, ◌≡◌, refl, ap, get_or, not, rules}
use Rattle.chip_call.proofs.Judged.{judged-known, judged-other, judged-new}
use Rattle.chip_call.proofs.judge.Goals as goal

pub returns-then-at_or : goal.returns-then-at_or
returns-then-at_or c =
    let a = c.args in
    judged-known a.library.now a.cell a.known.now c.requires c.at_or.ensures c.if-at_or.true

pub returns-then-not-is_generated : goal.returns-then-not-is_generated
returns-then-not-is_generated c =
    let a = c.args in
    judged-other a.library.now a.cell a.known.now c.requires c.is_generated.ensures (ap not c.if-not-is_generated.true)

pub returns : goal.returns
returns c =
    let a = c.args in
    judged-new a.library.now a.cell a.known.now c.requires c.is_generated.ensures (ap not c.if-not-is_generated.false) c.put_at.ensures
