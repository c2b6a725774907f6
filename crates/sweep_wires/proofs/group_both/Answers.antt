-- The rows, one after the other.
use Rattle.common_laws.proofs.Base.{refl, arith, ◌∙◌, ◌+◌, ◌*◌, get_or, rules}
use Rattle.std.proofs.Common.{tests}
use Rattle.std.proofs.lemmas.Iterator.{YieldsList-from_range}
use Rattle.std.proofs.lemmas.Iterator.Search.{any_from_yields_List}
use Rattle.sizes.specs.Sizes as Size
use Rattle.calculation.specs.Ways.{both_values}
use Rattle.sweep_wires.specs.Wires.{group_both}
use Rattle.sweep_wires.proofs.Any.{any_range}
use Rattle.sweep_wires.proofs.group_both.Goals as goal

pub returns : goal.returns
unfolding group_both
returns c =
    any_from_yields_List (λ r. both_values c.args.pins c.args.pins (get_or c.args.library.now (c.args.group + 1 + Size.row_words * r + 1) 0)) _ _ c.any.result c.any.ensures.ran (YieldsList-from_range 0 c.word-rows.result (get_or c.args.library.now c.args.group 0) refl (omega (arith, c.word-rows.ensures))) (λ x b q k. search (rules, tests))
    ∙ any_range (λ r. both_values c.args.pins c.args.pins (get_or c.args.library.now (c.args.group + 1 + Size.row_words * r + 1) 0)) (get_or c.args.library.now c.args.group 0)
