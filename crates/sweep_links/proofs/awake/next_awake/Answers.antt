-- No turn passed is awake.
use Rattle.common_laws.proofs.Base.{refl, ◌/◌, ◌%◌, ◌^◌, ◌<◌, arith, rules, get_or}
use Rattle.sizes.specs.Sizes as Size
use Rattle.sweep_links.specs.Turns.{bit_at}
use Rattle.sweep_links.proofs.Turns.{rest-asleep, lowest-awake, below-asleep, joined-asleep}
use Rattle.sweep_links.proofs.awake.next_awake.Goals as goal

-- The turn itself is awake.
pub returns-then-rest-eq1 : goal.returns-then-rest-eq1
unfolding bit_at
returns-then-rest-eq1 c = search rules

pub returns-then-rest-ne0 : goal.returns-then-rest-ne0
returns-then-rest-ne0 c =
    let a = c.args in
    let l = c.loop-at in
    let w = get_or a.awake.now (l.at / Size.word_bits) 0 in
    let fits : w < 2 ^ Size.word_bits = omega arith in
    let some : 0 < w / 2 ^ (l.at % Size.word_bits) = omega arith in
    record {
      least = omega arith;
      asleep = joined-asleep a.awake.now l.at l.invariant.asleep (below-asleep a.awake.now l.at w refl _ refl fits some);
      found = λ h. lowest-awake a.awake.now l.at w refl _ refl fits some;
    }

pub loop-at-preserved : goal.loop-at-preserved
loop-at-preserved c =
    let l = c.loop-at in
    record {
      least = omega arith;
      asleep = joined-asleep c.args.awake.now l.at l.invariant.asleep (rest-asleep c.args.awake.now l.at _ refl (omega arith));
    }
