-- `level_gate` marks the line of a gate that is ready.
use Rattle.common_laws.proofs.Base.{refl, sym, ◌∙◌}
use Rattle.chip_loops.proofs.Steps.{levelled-before, not-ready, levels}
use Rattle.chip_loops.proofs.level_gate.Goals as goal

pub returns-then-is_marked : goal.returns-then-is_marked
returns-then-is_marked c =
    let a = c.args in
    levelled-before a.marks.now a.netlist.now a.gate c.line_of-line.ensures c.is_marked.ensures c.if-is_marked.true

pub returns-then-is_some : goal.returns-then-is_some
returns-then-is_some c =
    let a = c.args in
    not-ready a.marks.now a.netlist.now a.gate c.line_of-line.ensures c.is_marked.ensures c.unlevelled_pin.ensures c.if-is_marked.false
    (rw (sym c.is_some.ensures ∙ c.if-is_some.true) refl)

pub returns : goal.returns
returns c =
    let a = c.args in
    levels a.marks.now a.netlist.now a.gate c.line_of-line.ensures c.is_marked.ensures c.unlevelled_pin.ensures c.if-is_marked.false
    (rw (sym c.is_some.ensures ∙ c.if-is_some.false) refl) c.mark.ensures
