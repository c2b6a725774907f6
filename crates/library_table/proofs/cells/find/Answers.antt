-- The first cell with the name is found among those that the table counts.
use Rattle.common_laws.proofs.Base.{refl, ◌∙◌, arith, rules}
use Rattle.std.proofs.Common.{tests}
use Rattle.std.proofs.lemmas.Iterator.{YieldsList-from_range}
use Rattle.std.proofs.lemmas.Iterator.Search.{find_from_yields_List}
use Rattle.library_table.specs.Layout.{name_at}
use Rattle.library_table.proofs.Names.{first-found}
use Rattle.library_table.proofs.cells.find.Goals as goal

pub returns : goal.returns
returns c =
    let table = c.args.table.now in
    let name = c.args.name.now in
    let n = c.count-n.result in
    c.unwrap_or.ensures
    ∙ first-found name table n c.count-n.ensures c.find.result
    (find_from_yields_List (name_at name table) _ _ c.find.result c.find.ensures.ran (YieldsList-from_range 0 n n refl (omega arith)) (λ x b q k. search (rules, tests)))
