-- The pins, one after the other.
use Rattle.common_laws.proofs.Base.{refl, arith, ◌∙◌, rules}
use Rattle.std.proofs.Common.{tests}
use Rattle.std.proofs.lemmas.Iterator.{YieldsList-from_range}
use Rattle.std.proofs.lemmas.Iterator.Search.{any_from_yields_List}
use Rattle.calculation.specs.Ways.{both_values}
use Rattle.sweep_wires.proofs.Any.{any_range, pin_both, pins-both}
use Rattle.sweep_wires.proofs.both_values.Goals as goal

pub returns : goal.returns
unfolding both_values
returns c =
    any_from_yields_List (pin_both c.args.pins c.args.columns) _ _ c.any.result c.any.ensures.ran (YieldsList-from_range 0 c.args.pins c.args.pins refl (omega arith)) (λ x b q k. search (rules, tests))
    ∙ any_range (pin_both c.args.pins c.args.columns) c.args.pins
    ∙ pins-both c.args.pins c.args.columns c.args.pins
