-- `of_value` meets its contract.
use Rattle.common_laws.proofs.Base.{true, ◌≡◌, refl, ◌<◌, pow-le-pow_right, one-le-pow, arith, rules}
use Rattle.truth_rows.specs.Asked.{asked_number}
use Rattle.truth_rows.specs.Masks.{is_bit, is_one, gives_at}
use Rattle.truth_rows.proofs.Conditions.{setting_group_lem}
use Rattle.truth_rows.proofs.of_value.Goals as goal
use Rattle.truth_rows.proofs.of_value.Goals.{then-value, else-value}

four : 0 < 4
four = omega arith

pub passing-requires-clause-few : goal.passing-requires-clause-few
passing-requires-clause-few c =
    let b = c.requires.0 in
    let two : 0 < 2 = omega arith in
    omega (arith, b.long, pow-le-pow_right two b.few)

pub pow-requires : goal.pow-requires
pow-requires c = omega (arith, pow-le-pow_right four c.requires.0.few)

pub returns : goal.returns
unfolding asked_number is_bit is_one gives_at
returns c =
    let a = c.args in
    let b = c.requires.0 in
    let byte = c.if-value.byte in
    let digit : (is_bit byte ≡ true) × (is_one byte ≡ a.value) =
    elim c.if-value.branch [
      | then-value w ↦ rw (w.byte-is, w.if-value.true) (refl, refl)
      | else-value w ↦ rw (w.byte-is, w.if-value.false) (refl, refl)
    ] in
    record {
      small =
          record {
            pins = b.few;
            base = omega arith;
            some = omega (arith, c.pow.ensures, one-le-pow a.pins 4 four);
            weight = omega (arith, c.pow.ensures, pow-le-pow_right four b.few);
          };
      rows =
          rw (← digit.1)
          (setting_group_lem a.depth a.pins c.passing.result c.pow.result a.bits.now b byte digit.0
          (c.passing.ensures (gives_at a.bits.now byte) (λ j b h k. search rules)) c.pow.ensures);
    }
