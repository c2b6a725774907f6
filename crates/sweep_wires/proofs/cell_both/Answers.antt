-- The groups, one after the other.
use Rattle.common_laws.proofs.Base.{refl, ◌∙◌, ◌+◌, ◌*◌, rules}
use Rattle.std.proofs.Common.{tests}
use Rattle.std.proofs.lemmas.Iterator.{YieldsList-from_range}
use Rattle.std.proofs.lemmas.Iterator.Search.{any_from_yields_List}
use Rattle.sizes.specs.Sizes as Size
use Rattle.sweep_wires.specs.Wires.{group_both, cell_both}
use Rattle.sweep_wires.proofs.Any.{any_range}
use Rattle.sweep_wires.proofs.cell_both.Goals as goal

pub returns : goal.returns
unfolding cell_both
returns c =
    any_from_yields_List (λ g. group_both c.args.library.now c.args.pins (c.args.cell + Size.groups_at + g * Size.group_words)) _ _ c.any.result c.any.ensures.ran (YieldsList-from_range 0 Size.groups Size.groups refl refl) (λ x b q k. search (rules, tests))
    ∙ any_range (λ g. group_both c.args.library.now c.args.pins (c.args.cell + Size.groups_at + g * Size.group_words)) Size.groups
