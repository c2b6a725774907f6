-- The laws that carry a sentence of the papers and are no clause of a promise, each under the statement of its home. `laws_hold`
-- of proofs/Laws.antt is their proof.
use Rattle.std.specs.Prelude.{List, ℕ}
use Rattle.netlist_table.specs.Ceiling.{GateCeiling}
use Rattle.calculation.specs.Pads.{AllStand, PadsValues}
use Rattle.calculation.specs.StandingAnalysis.{NoneRaised, GrownReads, AllStanding}
use Rattle.truth_tables.specs.Statements.{CellTells, GeneratedTells, SettingDescends, ObservingDescends, EntryAccepted}
use Rattle.demands.specs.Outcome.{given_texts}
use Rattle.sweep_groups.specs.Gone.{GoneNamed}
use Rattle.chip_values.specs.Never.{NeverOf, NeverAtPrices}
use Rattle.netlist_open.specs.Padded.{PadsAccepted}
use Rattle.analysis_records.specs.declared.record.Record.{Record}
use Rattle.analysis_records.specs.Outcome.{given_records}
use Rattle.analysis_records.specs.Same.{SameCalls}
use Rattle.standing_change.specs.CallList.{under, CallsStand, PadsStand}
use Rattle.paper_laws.specs.PlanCost.{PlanStands}
use Rattle.paper_laws.specs.PlanRead.{PlanReadBack}
use Rattle.paper_laws.specs.Topmost.{NetlistTopmost, LibraryTopmost}

pub record LawsHold : Type 0 where
  -- Document 01. "the topmost bad line counts, and within it the lowest number."
  pub library_topmost : LibraryTopmost
  pub netlist_topmost : NetlistTopmost
  -- "Records follow the same checks".
  pub same_calls : SameCalls
  -- Document 02, K3. "One text line per node, parents before children, as `depth in tree,line,value,row`."
  pub plan_read_back : PlanReadBack
  -- K4. "For every row the columns gone to are exactly the named ones, each once, lowest first."
  pub gone_named : GoneNamed
  -- K6. "One fact covers all truth tables: a setting of the pins gives e exactly when it meets a row of group e."
  pub cell_tells : CellTells
  pub generated_tells : GeneratedTells
  -- "Every group's rows stand by descending octal value".
  pub setting_descends : SettingDescends
  pub observing_descends : ObservingDescends
  -- "prints a whole entry": one that is accepted, and read as the cell.
  pub entry_accepted : EntryAccepted
  -- K8. "No setting of the inputs then gives a line a value whose CC number is never. If besides each line is read by at most one
  -- pin, never stands exactly when no setting does.": behind every analysis, of texts and of records, and at all prices.
  pub never_means : (lib net : List ℕ) → NeverOf (given_texts lib net)
  pub never_of_records : (lib : List ℕ) (rs : List Record) → NeverOf (given_records lib rs)
  pub never_at_prices : (lib net : List ℕ) → NeverAtPrices (given_texts lib net)
  -- K9. "Show that no netlist meets it".
  pub gate_ceiling : GateCeiling
  -- K11. "For every list of asks and commits from a freshly analysed netlist, the numbers equal those of a new analysis with the
  -- committed pads as outputs.", of states and of calls; "No pad raises any CO or SO."
  pub all_stand : AllStand
  pub calls_stand : CallsStand
  pub pads_stand : PadsStand
  pub none_raised : (net : List ℕ) → NoneRaised (under net)
  pub pads_accepted : PadsAccepted
  -- K14. "A standing analysis is one that an analysis, commits and earlier changes of library left".
  pub all_standing : (net : List ℕ) → AllStanding (under net)
  pub grown_reads : (net : List ℕ) → GrownReads (under net)
  -- "a plan written out has the reported cost".
  pub pads_values : PadsValues
  pub plan_stands : PlanStands
