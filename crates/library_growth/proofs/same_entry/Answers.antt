-- The numbers before the groups, compared place by place.
use Rattle.common_laws.proofs.Base.{refl, ◌∙◌, ◌+◌, get_or, eqb, rules}
use Rattle.std.proofs.Common.{tests}
use Rattle.std.proofs.lemmas.Iterator.{YieldsList-from_range}
use Rattle.std.proofs.lemmas.Iterator.Search.{all_from_yields_List}
use Rattle.sizes.specs.Sizes as Size
use Rattle.library_growth.specs.Held.{entry_at}
use Rattle.library_growth.proofs.Pairs.{listed-all}
use Rattle.library_growth.proofs.same_entry.Goals as goal

pub returns : goal.returns
unfolding entry_at
returns c =
    let at = c.cell_place-at.result in
    let old = c.args.old.now in
    let new = c.args.new.now in
    rw (← c.cell_place-at.ensures)
    (all_from_yields_List (λ i. eqb (get_or old (at + i) 0) (get_or new (at + i) 0)) _ _ _ c.all.ensures.ran (YieldsList-from_range 0 Size.groups_at Size.groups_at refl refl) (λ x b q k. search (rules, tests))
    ∙ listed-all eqb (λ i. get_or old (at + i) 0) (λ i. get_or new (at + i) 0) 0 Size.groups_at)
