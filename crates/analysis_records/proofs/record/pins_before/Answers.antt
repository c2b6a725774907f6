-- `pins_before` looks for the first 0.
use Rattle.std.proofs.Common.{rules, tests}
use Rattle.std.proofs.lemmas.Iterator.{YieldsList-from_slice}
use Rattle.std.proofs.lemmas.Iterator.Search.{position_from_yields_List}
use Rattle.common_laws.proofs.Base.{◌≡◌, ◌∙◌, arith, eqb, length}
use Rattle.sizes.specs.Sizes as Size
use Rattle.analysis_records.specs.Records.{pins_before}
use Rattle.analysis_records.proofs.RecordLaws.{before_found, before_most}
use Rattle.analysis_records.proofs.record.pins_before.Goals as goal

pub returns : goal.returns
returns c =
    let ps = c.args.pins in
    let eight : length ps ≡ Size.pins = search rules in
    let found : c.unwrap_or.result ≡ length (pins_before ps) =
    c.unwrap_or.ensures
    ∙ rw (← eight)
    (before_found ps c.position.result
    (position_from_yields_List (λ p. eqb p 0) _ _ _ c.position.ensures.ran (YieldsList-from_slice ps cc) (λ x b q k. search (rules, tests))))
    in
    (found, omega (arith, found, before_most ps, eight), eight)
