-- What the call for C that changes the library of a standing analysis answers and leaves. Document 02, K14.
use Rattle.std.specs.Prelude.{Bool, List, ◌≡◌, ℕ, ◌≤◌, ◌<◌}
use Rattle.reading.specs.Choice.{pick}
use Rattle.reading.specs.Refusal.{Read}
use Rattle.writer.specs.Buffer.{code_lines}
use Rattle.demands.specs.Outcome.{given_texts}
use Rattle.standing_change.specs.declared.Course.{Course}
use Rattle.standing_change.specs.declared.Course.TheVariants.{WentOn, BegunAgain}
use Rattle.standing_change.specs.Calls.{comes, answer_of, table_after}
use Rattle.standing_change.specs.Promise.{ChangePromised}
use Rattle.answer_codes.specs.Number.{told_by, Tells}

-- Of the course that a change took.
abbrev pub course_number : Course → ℕ
course_number WentOn = 1
course_number BegunAgain = 0

-- 1 where the sweeps went on, 0 where the netlist was analysed from the beginning, or the refusal.
abbrev pub told_number : Read Bool → Read ℕ
told_number o = told_by (λ on. pick on 1 0) o

-- By equation the number and every entry of the table; that it is the call in Rattle, with its whole promise; and which numbers
-- there are besides refusals.
pub record ChangeCoded (lib new net before after : List ℕ) (said : ℕ) : Type 0 where
  pub answers : Tells (told_number (answer_of (comes (given_texts lib net) (given_texts new net) before))) said
  pub leaves : after ≡ table_after (comes (given_texts lib net) (given_texts new net) before) before
  pub promised : ChangePromised (given_texts lib net) (given_texts new net) before after
      (answer_of (comes (given_texts lib net) (given_texts new net) before))
  pub accepted : said < code_lines → said ≤ 1
