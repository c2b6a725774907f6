-- `number` meets its contract: what the columns come to is small.
use Rattle.common_laws.proofs.Base.{refl, ◌+◌, ◌*◌, ◌/◌, ◌%◌, ◌≤◌, ◌<◌, pow-le-pow_right, mod-le, arith}
use Rattle.truth_rows.specs.Masks.{spread, number_of}
use Rattle.truth_rows.proofs.Pins.{scaled-most, columns-below}
use Rattle.truth_rows.proofs.masks.number.Goals as goal

small : (c : goal.After-columns-plain) → let w = c.args.weight in
    let x = c.columns-plain.result in
    x / w * (4 * w) + x % w ≤ 2048
small c =
    let a = c.args in
    let four : 0 < 4 = omega arith in
    let few : a.pins ≤ 4 = omega arith in
    let most : c.columns-plain.result < 256 =
    rw c.columns-plain.ensures (omega (arith, columns-below a.pins a.row, pow-le-pow_right four few)) in
    omega (arith, scaled-most c.columns-plain.result a.weight 4, mod-le c.columns-plain.result a.weight)

pub overflow_mul-result-2 : goal.overflow_mul-result-2
overflow_mul-result-2 c = omega (arith, small c)

pub overflow_add-result : goal.overflow_add-result
overflow_add-result c = omega (arith, small c)

pub overflow_mul-result-3 : goal.overflow_mul-result-3
overflow_mul-result-3 c = omega (arith, small c)

pub overflow_add-result-2 : goal.overflow_add-result-2
overflow_add-result-2 c = omega (arith, small c)

pub returns : goal.returns
unfolding number_of spread
returns c = rw c.columns-plain.ensures refl
