-- The bytes passed are digits, so that the rest decides; going on from the sum gives the value; and the sum is below the
-- base's power for the digits passed.
use Rattle.common_laws.proofs.Base.{◌≡◌, ◌^◌, ◌<◌, drop}
use Rattle.text.specs.Numeral.{all_digits, value}
use Rattle.text.proofs.fields.digits.Given as goal

abbrev pub invariant-loop-b : goal.invariant-loop-b
invariant-loop-b l =
    (l.sum < l.base ^ l.b-index) × (all_digits l.base (drop l.b-index l.f) ≡ all_digits l.base l.f) × (value l.base l.sum (drop l.b-index l.f) ≡ value l.base 0 l.f)
