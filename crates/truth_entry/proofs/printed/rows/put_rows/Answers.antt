-- `put_rows` meets its contract.
use Rattle.common_laws.proofs.Base.{◌≡◌, ◌<◌, pow-le-pow_right, arith}
use Rattle.text.specs.Bytes.{bytes}
use Rattle.truth_entry.proofs.GroupRows.{progress-none, progress-more, progress-all, progress-empty}
use Rattle.truth_entry.proofs.printed.rows.put_rows.Goals as goal

pub pow-row-requires : goal.pow-row-requires
pow-row-requires c = let three : 0 < 3 = omega arith in omega (arith, pow-le-pow_right three c.requires.pins)

pub loop-row-init : goal.loop-row-init
loop-row-init c = progress-none _ _ _ c.pow-row.ensures

pub loop-row-preserved : goal.loop-row-preserved
loop-row-preserved c =
    let l = c.loop-row in
    progress-more _ _ l.row l.any _ _ _ (omega arith) l.invariant c.pass_row-any.ensures

pub returns-then-not-any : goal.returns-then-not-any
unfolding bytes
returns-then-not-any c =
    let l = c.loop-row in
    let none : l.row ≡ 0 = omega arith in
    progress-empty _ _ _ _ (rw (none, c.if-not-any.true) at l.invariant) c.put_byte.ensures

pub returns-else-not-any : goal.returns-else-not-any
returns-else-not-any c =
    let l = c.loop-row in
    let none : l.row ≡ 0 = omega arith in
    progress-all _ _ _ (rw (none, c.if-not-any.false) at l.invariant)
