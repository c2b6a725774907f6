-- One record of a list, checked after the statements that the netlist table holds.
use Rattle.std.specs.Prelude.{List, ◌++◌, ◌≡◌, ℕ, eqb, Result, Ok, Err}
use Rattle.reading.specs.Choice.{pick}
use Rattle.library_table.specs.Cells.{Cell}
use Rattle.library_table.specs.Layout.{LibraryHolds}
use Rattle.netlist_table.specs.Netlist.{Statement}
use Rattle.netlist_table.specs.Layout.{NetlistHolds}
use Rattle.netlist_table.specs.Admission.{refusal_of, words_after}
use Rattle.netlist_table.specs.Sound.{Sound}
use Rattle.reading.specs.declared.Refusal.{Refusal}
use Rattle.analysis_texts.specs.declared.Stop.{Stop}
use Rattle.analysis_texts.specs.declared.Stop.TheVariants.{Later}
use Rattle.analysis_texts.specs.Progress.{Progress}
use Rattle.analysis_records.specs.declared.record.Record.{Record}
use Rattle.analysis_records.specs.Records.{record_form}

-- What a step answers of a record that is refused by a number, or admitted, which is 0: "A refusal's line is then the record's
-- place, from 1."
unfoldable pub answer_after : ℕ → ℕ → Result (Unit {0}) Refusal
answer_after number place = pick (eqb number 0) (Ok tt) (Err (record { number = number; line = place }))

-- What checking a record after the statements that the table holds comes to.
unfoldable pub RecordChecked : List Cell → List Statement → List ℕ → ℕ → Record → Result (Unit {0}) Refusal → List ℕ → Type 0
RecordChecked cells ss tail place rec r us =
    (r ≡ answer_after (refusal_of cells ss (record_form rec)) place)
    × (us ≡ words_after (refusal_of cells ss (record_form rec)) ss (record_form rec) ++ tail)

-- A record that is checked, whatever library and statements the tables hold.
pub record Checked (lib : List ℕ) (place : ℕ) (rec : Record) (ts : List ℕ) (r : Result (Unit {0}) Refusal) (us : List ℕ) : Type 0 where
  pub checks : (cells : List Cell) → LibraryHolds lib cells → (ss : List Statement) → Sound cells ss → (h : NetlistHolds ts ss)
      → RecordChecked cells ss h.past place rec r us

-- A refusal of a record is a later one.
abbrev pub later : Result (Unit {0}) Refusal → Progress
later (Ok u) = Ok tt
later (Err r) = Err (Later r)

-- One step: once a call is stopped it stays so, and so does the table; else the record is checked.
pub record Stepped (lib : List ℕ) (place : ℕ) (so_far : Progress) (rec : Record) (ts : List ℕ) (r : Progress) (us : List ℕ) : Type 0 where
  pub stays : (x : Stop) → so_far ≡ Err x → (r ≡ Err x) × (us ≡ ts)
  pub checks : (u : Unit {0}) → so_far ≡ Ok u → (said : Result (Unit {0}) Refusal) × (r ≡ later said) × Checked lib place rec ts said us
