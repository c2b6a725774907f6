-- Each line that is mentioned is asked for its mark.
use Rattle.common_laws.proofs.Base.{ℕ, not, ◌||◌, refl, ◌∙◌, arith, rules}
use Rattle.std.proofs.Common.{tests}
use Rattle.std.proofs.lemmas.Iterator.{YieldsList-from_range}
use Rattle.std.proofs.lemmas.Iterator.Search.{all_from_yields_List}
use Rattle.sizes.specs.Sizes as Size
use Rattle.netlist_table.specs.Lines.{mention_at, mentions_held}
use Rattle.chip_loops.specs.Marks.{marked}
use Rattle.chip_loops.proofs.Steps.{mentions-all}
use Rattle.chip_loops.proofs.mentions_marked.Goals as goal

pub returns : goal.returns
unfolding mentions_held
returns c =
    let a = c.args in
    all_from_yields_List (λ (l : ℕ). not (mention_at a.netlist.now l) || marked a.marks.now l) _ _ c.all.result c.all.ensures.ran (YieldsList-from_range 1 Size.line_places Size.lines refl (omega arith)) (λ x b q k. search (rules, tests))
    ∙ mentions-all a.marks.now (mention_at a.netlist.now) 1 Size.lines
