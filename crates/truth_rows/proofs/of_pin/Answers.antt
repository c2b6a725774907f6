-- `of_pin` meets its contract.
use Rattle.common_laws.proofs.Base.{◌≡◌, refl, ◌+◌, ◌*◌, ◌-◌, ◌%◌, ◌^◌, ◌≤◌, ◌<◌, pow-le-pow_right, one-le-pow, arith, rules}
use Rattle.truth_rows.specs.Asked.{asked_number}
use Rattle.truth_rows.specs.Masks.{changes_at}
use Rattle.truth_rows.proofs.Conditions.{observing_group_lem}
use Rattle.truth_rows.proofs.of_pin.Goals as goal

two : 0 < 2
two = omega arith

four : 0 < 4
four = omega arith

pub passing-requires-clause-few : goal.passing-requires-clause-few
passing-requires-clause-few c = let b = c.requires.0 in omega (arith, b.long, pow-le-pow_right two b.few)

pub passing-requires-clause-may_call : goal.passing-requires-clause-may_call
passing-requires-clause-may_call c = λ j h.
    let b = c.requires.0 in
    let w = 1 * 2 ^ (c.args.pins - 1 - c.args.k) % 2 ^ 64 in
    let least : c.args.pins - 1 - c.args.k ≤ 3 = omega (arith, b.few) in
    let bit : w ≡ 2 ^ (c.args.pins - 1 - c.args.k) = omega (arith, pow-le-pow_right two least) in
    let some : 1 ≤ w = rw bit (one-le-pow (c.args.pins - 1 - c.args.k) 2 two) in
    let most : w ≤ 8 = omega (arith, pow-le-pow_right two least) in
    let place : j ≤ 16 = omega (arith, b.long, pow-le-pow_right two b.few) in
    search rules

pub pow-requires : goal.pow-requires
pow-requires c = omega (arith, pow-le-pow_right four c.requires.0.few)

pub overflow_mul-result : goal.overflow_mul-result
overflow_mul-result c = omega (arith, c.pow.ensures, pow-le-pow_right four c.requires.0.few)

pub overflow_add-result : goal.overflow_add-result
overflow_add-result c = omega (arith, c.pow.ensures, pow-le-pow_right four c.requires.0.few)

pub pow-requires-2 : goal.pow-requires-2
pow-requires-2 c =
    let least : c.args.pins - 1 - c.args.k ≤ 4 = omega (arith, c.requires.0.few) in
    omega (arith, pow-le-pow_right four least)

pub returns : goal.returns
unfolding asked_number
returns c =
    let a = c.args in
    let b = c.requires.0 in
    let behind = a.pins - 1 - a.k in
    let least : behind ≤ 4 = omega (arith, b.few) in
    let bit : 1 * 2 ^ behind % 2 ^ 64 ≡ 2 ^ behind = omega (arith, pow-le-pow_right two least) in
    record {
      small =
          record {
            pins = omega (arith, b.few);
            base = omega (arith, c.pow.ensures, pow-le-pow_right four b.few);
            some = omega (arith, c.pow-2.ensures, one-le-pow behind 4 four);
            weight = omega (arith, c.pow-2.ensures, pow-le-pow_right four least);
          };
      rows =
          observing_group_lem a.depth a.pins c.passing.result c.pow-2.result a.bits.now b a.k (a.depth + 8 * c.pow.result)
          (1 * 2 ^ behind % 2 ^ 64) c.requires.2 bit (c.passing.ensures (changes_at a.bits.now (1 * 2 ^ behind % 2 ^ 64)) (λ j b h k. search rules))
          (rw c.pow.ensures refl) c.pow-2.ensures;
    }
