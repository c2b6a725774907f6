-- `pins_bad` asks each pin.
use Rattle.std.proofs.Common.{rules, tests}
use Rattle.std.proofs.lemmas.Iterator.{YieldsList-from_slice}
use Rattle.std.proofs.lemmas.Iterator.Search.{any_from_yields_List}
use Rattle.common_laws.proofs.Base.{◌∙◌}
use Rattle.netlist_table.specs.Netlist.{line_bad}
use Rattle.analysis_records.proofs.RecordLaws.{bad_any}
use Rattle.analysis_records.proofs.record.pins_bad.Goals as goal

pub returns : goal.returns
returns c =
    let ps = c.args.pins.now in
    any_from_yields_List line_bad _ _ _ c.any.ensures.ran (YieldsList-from_slice ps cc) (λ x b q k. search (rules, tests)) ∙ bad_any ps
