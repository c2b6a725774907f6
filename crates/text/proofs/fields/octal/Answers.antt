-- The power of 8 for at most ten digits fits.
use Rattle.common_laws.proofs.Base.{◌≤◌, pow-le-pow_right, arith}
use Rattle.text.proofs.fields.octal.Goals as goal

pub read-requires : goal.read-requires
read-requires c =
    let few : c.min.result ≤ 10 = omega arith in
    (omega arith, omega arith, omega (arith, pow-le-pow_right {n = 8} (omega arith) few))
