-- The pins, one after the other.
use Rattle.common_laws.proofs.Base.{refl, arith, ◌∙◌, rules}
use Rattle.std.proofs.Common.{tests}
use Rattle.std.proofs.lemmas.Iterator.{YieldsList-from_range}
use Rattle.std.proofs.lemmas.Iterator.Search.{any_from_yields_List}
use Rattle.sweep_wires.specs.Wires.{read_before, shares_line}
use Rattle.sweep_wires.proofs.Any.{any_range}
use Rattle.sweep_wires.proofs.shares_line.Goals as goal

pub returns : goal.returns
unfolding shares_line
returns c =
    any_from_yields_List (read_before c.args.lines.now) _ _ c.any.result c.any.ensures.ran (YieldsList-from_range 0 c.args.pins c.args.pins refl (omega arith)) (λ x b q k. search (rules, tests))
    ∙ any_range (read_before c.args.lines.now) c.args.pins
