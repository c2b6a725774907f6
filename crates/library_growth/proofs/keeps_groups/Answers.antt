-- The groups of a cell, compared place by place.
use Rattle.common_laws.proofs.Base.{refl, ◌∙◌, ◌+◌, ◌*◌, rules}
use Rattle.std.proofs.Common.{tests}
use Rattle.std.proofs.lemmas.Iterator.{YieldsList-from_range}
use Rattle.std.proofs.lemmas.Iterator.Search.{all_from_yields_List}
use Rattle.sizes.specs.Sizes as Size
use Rattle.calculation.specs.Growth.{keeps}
use Rattle.library_growth.specs.Held.{group_at, groups_at}
use Rattle.library_growth.proofs.Pairs.{listed-all}
use Rattle.library_growth.proofs.keeps_groups.Goals as goal

pub returns : goal.returns
unfolding groups_at
returns c =
    let at = c.cell_place.result + Size.groups_at in
    let old = c.args.old.now in
    let new = c.args.new.now in
    rw (← c.cell_place.ensures)
    (all_from_yields_List (λ g. keeps (group_at old (at + g * Size.group_words)) (group_at new (at + g * Size.group_words))) _ _ _ c.all.ensures.ran (YieldsList-from_range 0 Size.groups Size.groups refl refl) (λ x b q k. search (rules, tests))
    ∙ listed-all keeps (λ g. group_at old (at + g * Size.group_words)) (λ g. group_at new (at + g * Size.group_words)) 0 Size.groups)
