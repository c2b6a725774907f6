-- What a caller that lends records gives to be read, and what comes before the walk over them.
use Rattle.std.specs.Prelude.{List, ℕ, ◌≤◌, length}
use Rattle.reading.specs.Refusal.{Read}
use Rattle.report_text.specs.Report.{longest_report}
use Rattle.demands.specs.declared.Summary.{Summary}
use Rattle.demands.specs.Outcome.{Given, Lent, text_long, reports}
use Rattle.demands.specs.Demands.{PairRead, Promised}
use Rattle.analysis_records.specs.declared.record.Record.{Record}
use Rattle.analysis_records.specs.Records.{from_records}

-- A library text and a list of records. "2 a text above 65,535 bytes" judges the library text alone: the list may have any
-- length.
unfoldable pub given_records : List ℕ → List Record → Given
given_records lib rs = record { library = lib; statements = λ cells. from_records rs cells; long = text_long lib }

-- What a call that is lent records promises: what every call does that analyses, and, since "Record lists have no ranges." (02,
-- K10), that there is one report.
pub record RecordsPromised (lib : List ℕ) (rs : List Record) (before after : Lent) (said : Read Summary) : Type 0 where
  pub promised : Promised (given_records lib rs) before after said
  pub one_report : (pair : PairRead (given_records lib rs)) → length (reports pair.cells pair.statements) ≤ longest_report
