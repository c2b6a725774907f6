-- The report of a call's arguments, as the definitions of `Report` have it.
use Rattle.std.specs.Prelude.{Bool, List, ℕ}
use Rattle.netlist_table.specs.Lines.{mention_at}
use Rattle.calculation.specs.declared.Counts.{Counts}
use Rattle.report_text.specs.Report.{report_bytes}

-- "Lines mentioned in the netlist": those that the netlist table marks; 0 is no mark.
unfoldable pub marked : List ℕ → ℕ → Bool
marked netlist l = mention_at netlist l

abbrev pub report_of : List ℕ → List ℕ → Counts → List ℕ
report_of netlist numbers sweeps = report_bytes (marked netlist) numbers sweeps
