-- What an analysis on tables of the caller's own answers, and leaves in the report buffer. Of the tables it says nothing.
use Rattle.std.specs.Prelude.{List, ◌≡◌, ℕ}
use Rattle.reading.specs.Refusal.{Read}
use Rattle.demands.specs.declared.Summary.{Summary}
use Rattle.demands.specs.Outcome.{Given, Lent, outcome, answer, left}

pub record ReportPromised (g : Given) (before : Lent) (report : List ℕ) (said : Read Summary) : Type 0 where
  pub answers : said ≡ answer (outcome g before)
  pub leaves : report ≡ (left g before).report
