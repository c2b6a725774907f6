-- The pins of each cell are asked for, where the cells are few enough.
use Rattle.common_laws.proofs.Base.{refl, ◌∙◌, arith, leb, get_or, rules}
use Rattle.std.proofs.Common.{tests}
use Rattle.std.proofs.lemmas.Iterator.{YieldsList-from_range}
use Rattle.std.proofs.lemmas.Iterator.Search.{all_from_yields_List}
use Rattle.sizes.specs.Places.{pins_place}
use Rattle.sizes.specs.Sizes as Size
use Rattle.library_table.proofs.Names.{narrow-all, fit-few, fit-many}
use Rattle.library_table.proofs.cells.fit.Goals as goal

pub returns-then-n-le-CELLS : goal.returns-then-n-le-CELLS
returns-then-n-le-CELLS c =
    let table = c.args.table.now in
    let n = c.count-n.result in
    all_from_yields_List (λ k. leb (get_or table (pins_place k) 0) Size.pins) _ _ c.all.result c.all.ensures.ran (YieldsList-from_range 0 n n refl (omega arith)) (λ x b q k. search (rules, tests))
    ∙ narrow-all table 0 n
    ∙ fit-few table n c.count-n.ensures (omega arith)

pub returns-else-n-le-CELLS : goal.returns-else-n-le-CELLS
returns-else-n-le-CELLS c = fit-many _ _ c.count-n.ensures (omega arith)
