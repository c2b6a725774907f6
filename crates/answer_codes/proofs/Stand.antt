-- The numbers of the calls for C of a standing analysis, from the answers of the calls in Rattle.
use Rattle.common_laws.proofs.Base.{◌||◌, List, ◌≡◌, sym, ◌∙◌, ℕ, arith}
use Rattle.reading.proofs.Bounds.{Within, any_number}
use Rattle.calculation.specs.Pads.{ask, commit}
use Rattle.writer.specs.Buffer.{code_of, LineBelow}
use Rattle.std.specs.Prelude.{Result, Ok, Err}
use Rattle.reading.specs.declared.Refusal.{Refusal}
use Rattle.demands.specs.declared.Summary.{Summary}
use Rattle.reading.specs.Answer.{answer_read}
use Rattle.demands.specs.Outcome.{given_texts}
use Rattle.standing_calls.specs.Calls.{table_short, answer_short}
use Rattle.standing_calls.specs.Promise.{StandPromised, AskPromised, CommitPromised}
use Rattle.standing_calls.proofs.Bounds.{comes-within, ticket_within, placed-within, stand-told}
use Rattle.standing_calls.proofs.Analysis.{stand-length}
use Rattle.answer_codes.specs.Number.{last_line}
use Rattle.answer_codes.specs.Coded.{report_length}
use Rattle.answer_codes.specs.Stand.{StandCoded, AskCoded, CommitCoded}
use Rattle.answer_codes.proofs.Number.{within-told, told-within, tells, tells_by, line-below}

-- ---- the analysis that is to stand

module _ (lib net before report after report' : List ℕ) (r : Result Summary Refusal)
    (p : StandPromised (given_texts lib net) before report after report' (answer_read r)) where
  stand-within : Within any_number last_line (answer_read r)
  stand-within = within-told (answer_read r) (λ number line e. stand-told lib net before report number line (sym e ∙ p.answers))

  pub stand-line : LineBelow (report_length (answer_read r))
  stand-line = line-below _ (told-within (λ (s : Summary). s.length) (answer_read r) stand-within)

  pub stand-coded : (said : ℕ) → said ≡ code_of (report_length (answer_read r)) → StandCoded lib net before report after report' said
  stand-coded said is =
      record {
        answers = rw (← p.answers)
            (tells_by (λ (s : Summary). s.length) (answer_read r) stand-within
            (stand-length lib net before report after report' (answer_read r) p) said is);
        leaves = p.leaves;
        reports = p.reports;
        promised = rw (← p.answers) p;
      }

-- ---- asking

module _ (lib net table : List ℕ) (l : ℕ) (before after : List ℕ) (r : Result ℕ Refusal)
    (p : AskPromised (given_texts lib net) table l before after (answer_read r)) where
  ask-within : Within any_number last_line (answer_read r)
  ask-within = rw p.answers (ticket_within _ (comes-within lib net (table_short table || answer_short before) table (ask l)))

  pub ask-line : LineBelow (answer_read r)
  ask-line = line-below (answer_read r) ask-within

  pub ask-coded : (said : ℕ) → said ≡ code_of (answer_read r) → AskCoded lib net table l before after said
  ask-coded said is =
      record {
        answers = rw (← p.answers) (tells (answer_read r) ask-within (λ n e. omega (arith, p.few n e)) said is);
        leaves = p.leaves;
        promised = rw (← p.answers) p;
      }

-- ---- committing

module _ (lib net before : List ℕ) (l n : ℕ) (after : List ℕ) (r : Result ℕ Refusal)
    (p : CommitPromised (given_texts lib net) before l n after (answer_read r)) where
  commit-within : Within any_number last_line (answer_read r)
  commit-within = rw p.answers (placed-within _ l (comes-within lib net (table_short before) before (commit l n)))

  pub commit-line : LineBelow (answer_read r)
  commit-line = line-below (answer_read r) commit-within

  pub commit-coded : (said : ℕ) → said ≡ code_of (answer_read r) → CommitCoded lib net before l n after said
  commit-coded said is =
      record {
        answers = rw (← p.answers) (tells (answer_read r) commit-within (λ k e. omega (arith, p.few k e)) said is);
        leaves = p.leaves;
        promised = rw (← p.answers) p;
      }
