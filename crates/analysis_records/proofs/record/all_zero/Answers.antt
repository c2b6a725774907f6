-- `all_zero` asks each pin.
use Rattle.std.proofs.Common.{rules, tests}
use Rattle.std.proofs.lemmas.Iterator.{YieldsList-from_slice}
use Rattle.std.proofs.lemmas.Iterator.Search.{all_from_yields_List}
use Rattle.common_laws.proofs.Base.{◌∙◌, eqb}
use Rattle.analysis_records.proofs.RecordLaws.{zeros_all}
use Rattle.analysis_records.proofs.record.all_zero.Goals as goal

pub returns : goal.returns
returns c =
    let ps = c.args.pins.now in
    all_from_yields_List (λ p. eqb p 0) _ _ _ c.all.ensures.ran (YieldsList-from_slice ps cc) (λ x b q k. search (rules, tests)) ∙ zeros_all ps
