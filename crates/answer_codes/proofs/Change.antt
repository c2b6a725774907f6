-- The number of the call for C that changes a library, from the answer of the call in Rattle.
use Rattle.common_laws.proofs.Base.{Bool, true, false, List, ◌≡◌, refl, ℕ, ◌≤◌, arith}
use Rattle.reading.specs.Choice.{pick}
use Rattle.reading.specs.Refusal.{◌>>=◌}
use Rattle.reading.specs.Answer.{answer_read}
use Rattle.reading.proofs.Bounds.{Within, any_number}
use Rattle.reading.proofs.Laws.{one-most}
use Rattle.writer.specs.Buffer.{code_of, LineBelow}
use Rattle.demands.specs.Outcome.{given_texts}
use Rattle.std.specs.Prelude.{Result, Ok, Err}
use Rattle.reading.specs.declared.Refusal.{Refusal}
use Rattle.standing_change.specs.declared.Course.{Course}
use Rattle.standing_change.specs.declared.Course.TheVariants.{WentOn, BegunAgain}
use Rattle.standing_change.specs.Calls.{changed_read}
use Rattle.standing_change.specs.Promise.{ChangePromised}
use Rattle.standing_change.proofs.Bounds.{change-within}
use Rattle.answer_codes.specs.Number.{last_line, told_by}
use Rattle.answer_codes.specs.Change.{course_number, told_number, ChangeCoded}
use Rattle.answer_codes.proofs.Number.{told-within, told-read, by_accepted, tells_by, line-below}

-- ---- by the answer in the code

pub course-told : (x : Result Course Refusal) → told_by course_number (answer_read x) ≡ told_number (changed_read x)
unfolding answer_read changed_read told_by ◌>>=◌ pick
course-told (Ok WentOn) = refl
course-told (Ok BegunAgain) = refl
course-told (Err r) = refl

-- ---- the call

module _ (lib new net before after : List ℕ) (r : Result Course Refusal) (p : ChangePromised (given_texts lib net) (given_texts new net) before after (changed_read r)) where
  within : Within any_number last_line (changed_read r)
  within = rw p.answers (change-within lib new net before)

  pub change-line : LineBelow (told_number (changed_read r))
  change-line = line-below _ (told-within (λ on. pick on 1 0) (changed_read r) within)

  pub change-coded : (said : ℕ) → said ≡ code_of (told_number (changed_read r)) → ChangeCoded lib new net before after said
  change-coded said is =
      let t = tells_by (λ on. pick on 1 0) (changed_read r) within (λ on e. omega (arith, one-most on)) said is in
      record {
        answers = rw (← p.answers) t;
        leaves = p.leaves;
        promised = rw (← p.answers) p;
        accepted = λ h. let a = by_accepted (λ on. pick on 1 0) (changed_read r) said (told-read t h) in rw a.2 (one-most a.0);
      }
