-- What the calls for C of a standing analysis answer and leave. Document 02, K11.
use Rattle.std.specs.Prelude.{◌||◌, List, ◌≡◌, ℕ}
use Rattle.calculation.specs.Pads.{ask, commit}
use Rattle.demands.specs.Outcome.{given_texts}
use Rattle.demands.specs.Outcome as O
use Rattle.standing_calls.specs.Calls.{comes, table_short, answer_short, ticket_of, answer_after, placed_of, table_after, standing, stood, reported}
use Rattle.standing_calls.specs.Promise.{StandPromised, AskPromised, CommitPromised}
use Rattle.answer_codes.specs.Number.{Tells}
use Rattle.answer_codes.specs.Coded.{report_length}

-- By equation the number and every entry of what is lent; and that it is the call in Rattle, with its whole promise.
pub record StandCoded (lib net before report after report' : List ℕ) (said : ℕ) : Type 0 where
  pub answers : Tells (report_length (O.answer (standing (given_texts lib net) before report))) said
  pub leaves : after ≡ stood (given_texts lib net) before report
  pub reports : report' ≡ reported (given_texts lib net) before report
  pub promised : StandPromised (given_texts lib net) before report after report' (O.answer (standing (given_texts lib net) before report))

pub record AskCoded (lib net table : List ℕ) (l : ℕ) (before after : List ℕ) (said : ℕ) : Type 0 where
  pub answers : Tells (ticket_of (comes (given_texts lib net) (table_short table || answer_short before) table (ask l))) said
  pub leaves : after ≡ answer_after (comes (given_texts lib net) (table_short table || answer_short before) table (ask l)) l before
  pub promised : AskPromised (given_texts lib net) table l before after
      (ticket_of (comes (given_texts lib net) (table_short table || answer_short before) table (ask l)))

pub record CommitCoded (lib net before : List ℕ) (l n : ℕ) (after : List ℕ) (said : ℕ) : Type 0 where
  pub answers : Tells (placed_of (comes (given_texts lib net) (table_short before) before (commit l n)) l) said
  pub leaves : after ≡ table_after (comes (given_texts lib net) (table_short before) before (commit l n)) l before
  pub promised : CommitPromised (given_texts lib net) before l n after
      (placed_of (comes (given_texts lib net) (table_short before) before (commit l n)) l)
