-- The lines of the pins are looked for one that is not marked.
use Rattle.common_laws.proofs.Base.{ℕ, not, ◌&&◌, refl, sym, ◌∙◌, arith, eqb, rules}
use Rattle.std.proofs.Common.{tests}
use Rattle.std.proofs.lemmas.Iterator.{YieldsList-from_range, YieldsList-from_map}
use Rattle.std.proofs.lemmas.Iterator.Search.{find_from_yields_List}
use Rattle.sizes.specs.Sizes as Size
use Rattle.netlist_table.specs.Gates.{gate_line}
use Rattle.chip_loops.specs.Marks.{marked}
use Rattle.chip_loops.proofs.Steps.{pins-found}
use Rattle.chip_loops.proofs.unlevelled_pin.Goals as goal

pub returns : goal.returns
returns c =
    let a = c.args in
    let lines = gate_line a.netlist.now a.gate in
    pins-found a.marks.now lines 1 Size.pins c.find.result
    (find_from_yields_List (λ (line : ℕ). not (eqb line 0) && not (marked a.marks.now line)) _ _ c.find.result c.find.ensures.ran
    (YieldsList-from_map _ lines (YieldsList-from_range 1 Size.gate_lines Size.pins c.map.ensures.source (omega arith)) c.map.ensures.closure (λ x r q k. search rules))
    (λ x b q k. search (rules, tests)))
