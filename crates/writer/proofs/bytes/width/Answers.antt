-- One digit more than the power of ten that the number reaches.
use Rattle.common_laws.proofs.Base.{add-one, arith, pow-suc}
use Rattle.writer.proofs.Decimal.{decimal-width, decimal-single}
use Rattle.writer.proofs.bytes.width.Goals as goal

pub returns-then-n-lt10 : goal.returns-then-n-lt10
returns-then-n-lt10 c = decimal-single _ c.if-n-lt10.true

pub returns-else-n-lt10 : goal.returns-else-n-lt10
returns-else-n-lt10 c =
    let k = c.ilog10.result in
    let e = c.ilog10.ensures in
    rw (add-one k) (decimal-width k c.args.n (omega arith) e.power_le (omega (arith, pow-suc 10 k, e.next_power_gt)))
