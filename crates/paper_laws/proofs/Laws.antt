-- The laws that carry a sentence of the papers, as one theorem.
use Rattle.netlist_table.specs.declared.Rules.TheVariants.{New}
use Rattle.netlist_table.proofs.Reread.{text_rereadable}
use Rattle.netlist_table.proofs.Soundness.{gate_ceiling_lem}
use Rattle.calculation.proofs.Pads.{all-stand, pads-values}
use Rattle.calculation.proofs.StandingAnalysis.{none_raised_lem}
use Rattle.calculation.proofs.NewLibrary.{grown-reads, all-standing}
use Rattle.truth_tables.proofs.Accepted.{entry-accepted}
use Rattle.truth_tables.proofs.Order.{setting-descends, observing-descends}
use Rattle.truth_tables.proofs.Rows.{cell-tells, rows_tell}
use Rattle.demands.specs.Outcome.{given_texts}
use Rattle.demands.proofs.Given.{texts-checked}
use Rattle.sweep_groups.proofs.Gone.{gone_named_lem}
use Rattle.chip_values.proofs.Laws.{never-means-of, never-means, never-at-prices}
use Rattle.netlist_open.proofs.Pads.{pads-accepted}
use Rattle.analysis_records.specs.Outcome.{given_records}
use Rattle.analysis_records.proofs.Call.{checked}
use Rattle.analysis_records.proofs.Same.{same-calls}
use Rattle.standing_change.specs.CallList.{under}
use Rattle.standing_change.proofs.CallList.{calls-stand, pads-stand}
use Rattle.paper_laws.specs.Laws.{LawsHold}
use Rattle.paper_laws.proofs.PlanCost.{plan-stands}
use Rattle.paper_laws.proofs.PlanRead.{plan-read}
use Rattle.paper_laws.proofs.Topmost.{netlist_topmost_lem, library_topmost_lem}

pub laws_hold : LawsHold
laws_hold =
    record {
      library_topmost = library_topmost_lem;
      netlist_topmost = netlist_topmost_lem;
      same_calls = same-calls;
      plan_read_back = plan-read;
      gone_named = gone_named_lem;
      cell_tells = cell-tells;
      generated_tells = rows_tell;
      setting_descends = setting-descends;
      observing_descends = observing-descends;
      entry_accepted = entry-accepted;
      never_means = never-means;
      never_of_records = λ lib rs. never-means-of (given_records lib rs) (checked lib rs);
      never_at_prices = λ lib net. never-at-prices (given_texts lib net) (texts-checked lib net);
      gate_ceiling = gate_ceiling_lem;
      all_stand = all-stand;
      calls_stand = calls-stand;
      pads_stand = pads-stand;
      none_raised = λ net. none_raised_lem (under net);
      pads_accepted = pads-accepted;
      all_standing = λ net. all-standing (under net) (text_rereadable New net);
      grown_reads = λ net. grown-reads (under net) (text_rereadable New net);
      pads_values = pads-values;
      plan_stands = plan-stands;
    }
