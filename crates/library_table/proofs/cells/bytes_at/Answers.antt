-- The bytes of the name are compared with those that stand from the place on.
use Rattle.common_laws.proofs.Base.{ℕ, ◌∙◌, ◌+◌, arith, eqb, length, get_or, rules}
use Rattle.std.proofs.Common.{tests}
use Rattle.std.proofs.lemmas.Iterator.{YieldsList-from_slice, YieldsList-from_range, YieldsList-from_zip}
use Rattle.std.proofs.lemmas.Iterator.Search.{all_from_yields_List}
use Rattle.library_table.proofs.Names.{bytes-all}
use Rattle.library_table.proofs.cells.bytes_at.Goals as goal

pub returns : goal.returns
returns c =
    let table = c.args.table.now in
    let name = c.args.name.now in
    let at = c.cell_place-at.result + 1 in
    rw (← c.cell_place-at.ensures)
    (all_from_yields_List (λ (p : ℕ × ℕ). eqb p.0 (get_or table p.1 0)) c.all.new.self _ c.all.result c.all.ensures.ran (YieldsList-from_zip {s = c.zip.result} (YieldsList-from_slice {s = c.zip.result.a} name (cc)) (YieldsList-from_range {s = c.zip.result.b} at (at + length name) (length name) (cc) (omega arith))) (λ x b q k. search (rules, tests))
    ∙ bytes-all table name at)
