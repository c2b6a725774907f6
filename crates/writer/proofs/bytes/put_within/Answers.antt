-- The digits of what is left end where those stored begin.
use Rattle.common_laws.proofs.Base.{◌≤◌, refl, ap, mod-eq_of_lt, arith, length}
use Rattle.writer.proofs.Decimal.{decimal-one, decimal-single, decimal-two}
use Rattle.writer.proofs.Passed.{two-more, passed-more, passed-all}
use Rattle.writer.proofs.bytes.put_within.Goals as goal

pub overflow_sub-behind : goal.overflow_sub-behind
overflow_sub-behind c =
    let l = c.loop-rest in
    omega (arith, two-more l.rest (omega arith) (omega arith), l.invariant.2.ends)

pub put_two-requires : goal.put_two-requires
put_two-requires c =
    let l = c.loop-rest in
    let two : 2 ≤ l.behind = omega (arith, two-more l.rest (omega arith) (omega arith), l.invariant.2.ends) in
    (omega arith, omega arith)

pub loop-rest-preserved : goal.loop-rest-preserved
loop-rest-preserved c =
    let l = c.loop-rest in
    (omega arith, omega arith, passed-more _ _ _ l.rest l.behind _ _ l.invariant.2 (omega arith) (omega arith) c.put_two.ensures)

pub bounds-buffer-at : goal.bounds-buffer-at
bounds-buffer-at c =
    let l = c.loop-rest in
    omega (arith, decimal-single l.rest (omega arith), l.invariant.2.ends)

pub put_two-requires-else-rest-lt10 : goal.put_two-requires-else-rest-lt10
put_two-requires-else-rest-lt10 c =
    let l = c.loop-rest in
    (omega arith, omega (arith, ap length (decimal-two l.rest (omega arith) (omega arith)), l.invariant.2.ends))

pub returns-then-rest-lt10 : goal.returns-then-rest-lt10
returns-then-rest-lt10 c =
    let l = c.loop-rest in
    passed-all _ _ _ l.rest l.behind _ _ l.invariant.2 (rw (decimal-one l.rest (omega arith), mod-eq_of_lt c.if-rest-lt10.true) refl)

pub returns-else-rest-lt10 : goal.returns-else-rest-lt10
returns-else-rest-lt10 c =
    let l = c.loop-rest in
    passed-all _ _ _ l.rest l.behind _ _ l.invariant.2 (rw (decimal-two l.rest (omega arith) (omega arith)) c.put_two-else-rest-lt10.ensures)
