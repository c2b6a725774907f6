-- What every call for C over texts keeps, by its one number. Document 01, "Callers".
use Rattle.std.specs.Prelude.{true, false, ◌≡◌, ℕ, ◌/◌, ◌≤◌}
use Rattle.reading.specs.Numbers as No
use Rattle.reading.specs.Refusal.{Read}
use Rattle.writer.specs.Buffer.{code_lines}
use Rattle.demands.specs.Call.{Call, answered, left}
use Rattle.answer_codes.specs.Number.{Tells}

-- By equation the number and all that was lent afterwards; and by the number alone, what a refusal leaves: "Entry refusals
-- leave lent memory untouched; later ones leave every table and the report buffer zero". `told` is the count that the number
-- tells of an answer.
pub record CallCoded {A B M : Type 0} (c : Call A B M) (told : Read B → Read ℕ) (after : M) (said : ℕ) : Type 0 where
  pub answers : Tells (told (answered c)) said
  pub leaves : after ≡ left c
  pub untouched : No.of_entry (said / code_lines) ≡ true → after ≡ c.lent
  pub cleared : code_lines ≤ said → No.of_entry (said / code_lines) ≡ false → after ≡ c.later
