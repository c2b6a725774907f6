-- The walk over a list of records: what holds once some of them are done.
use Rattle.std.specs.Prelude.{List, [], ◌++◌, ◌≡◌, ℕ, ◌+◌, length, Result, Ok, Err}
use Rattle.reading.specs.Choice.{pick}
use Rattle.reading.specs.Numbers as No
use Rattle.reading.specs.Refusal.{refused}
use Rattle.library_table.specs.Cells.{Cell}
use Rattle.library_table.specs.Layout.{LibraryHolds}
use Rattle.netlist_table.specs.Netlist.{Statement, admitted}
use Rattle.netlist_table.specs.Layout.{netlist_words, NetlistHolds}
use Rattle.netlist_table.specs.Admission.{some_undeclared}
use Rattle.netlist_table.specs.Sound.{Sound}
use Rattle.reading.specs.declared.Refusal.{Refusal}
use Rattle.analysis_records.specs.declared.record.Record.{Record}
use Rattle.analysis_records.specs.Records.{record_forms, record_statements}

-- ---- behind the last record

-- 20 where the table has a line that nothing declares.
unfoldable pub declared_by : List ℕ → Result (Unit {0}) Refusal
declared_by table = pick (some_undeclared table) (Err (record { number = No.undeclared; line = 0 })) (Ok tt)

-- ---- the list

-- All records done are admitted: the table holds their statements, and the records still to come are read after them.
pub record Admitted (cells : List Cell) (tail : List ℕ) (done : List Record) (ts : List ℕ) : Type 0 where
  pub statements : List Statement
  pub rest : (more : List Record) → record_statements (done ++ more) cells ≡ admitted (length done + 1) cells statements (record_forms more)
  pub sound : Sound cells statements
  pub held : ts ≡ netlist_words statements ++ tail

-- What a walk has come to: all are admitted, or one is refused, whatever is still to come.
unfoldable pub WalkReached : List Cell → List ℕ → List Record → Result (Unit {0}) Refusal → List ℕ → Type 0
WalkReached cells tail done (Ok u) ts = Admitted cells tail done ts
WalkReached cells tail done (Err r) ts = (more : List Record) → record_statements (done ++ more) cells ≡ refused r.number r.line

-- The records done have led from the table of the start, an empty netlist, to the one reached.
pub record Walked (lib ts₀ : List ℕ) (done : List Record) (s : Result (Unit {0}) Refusal) (ts : List ℕ) : Type 0 where
  pub reaches : (cells : List Cell) → LibraryHolds lib cells → (h : NetlistHolds ts₀ []) → WalkReached cells h.past done s ts
