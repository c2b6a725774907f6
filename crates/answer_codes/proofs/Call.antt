-- The number of a call, from what the call keeps.
use Rattle.common_laws.proofs.Base.{◌≡◌, ℕ}
use Rattle.reading.specs.Refusal.{Read, refused}
use Rattle.demands.specs.Call.{Call, Kept}
use Rattle.answer_codes.specs.Number.{Tells}
use Rattle.answer_codes.specs.Call.{CallCoded}
use Rattle.answer_codes.proofs.Number.{told-refused, told-entry}

-- `told` hands a refusal on.
pub call-coded : {A B M : Type 0} (c : Call A B M) (told : Read B → Read ℕ)
    → ((o : Read B) (number line : ℕ) → told o ≡ refused number line → o ≡ refused number line)
    → (after : M) (o : Read B) → Kept c after o → (said : ℕ) → Tells (told o) said → CallCoded c told after said
call-coded c told back after o k said t =
    record {
      answers = rw (← k.answers) t;
      leaves = k.leaves;
      untouched = λ h. k.untouched _ _ (back o _ _ (told-entry t h)) h;
      cleared = λ s h. k.cleared _ _ (back o _ _ (told-refused t s)) h;
    }
