-- `offer_of` gathers the costs of the gate's columns, and takes the least row sum over them.
use Rattle.common_laws.proofs.Base.{true, false, refl, sym, ◌∙◌, arith}
use Rattle.reading.specs.Choice.{pick}
use Rattle.sweep_groups.specs.Tables.{read_row, by_role}
use Rattle.budget_run.proofs.Offers.{least_fits_lem, offer_is}
use Rattle.budget_run.proofs.offer_of.Goals as goal

pub overflow_mul-group : goal.overflow_mul-group
unfolding by_role pick
overflow_mul-group c = omega (arith, c.visit_group.ensures, c.requires.1)

pub overflow_add-group-2 : goal.overflow_add-group-2
unfolding by_role pick
overflow_add-group-2 c =
    let f = c.requires.0.tables_fit.gates c.args.gate c.requires.0.inside in
    omega (arith, c.visit_group.ensures, c.requires.1)

pub least_wired-requires : goal.least_wired-requires
least_wired-requires c =
    let a = c.args in
    rw (c.cell_place-cell.ensures, c.visit_group.ensures)
    (least_fits_lem a.circuit.now.library.now a.circuit.now.netlist.now a.numbers.now a.gate a.value c.requires.0 c.requires.1 c.lines_of-lines.result _ _
    c.lines_of-lines.ensures refl refl true c.column_costs.new.costs c.column_costs.ensures.size)

pub least_sum-requires : goal.least_sum-requires
least_sum-requires c =
    let a = c.args in
    rw (c.cell_place-cell.ensures, c.visit_group.ensures)
    (least_fits_lem a.circuit.now.library.now a.circuit.now.netlist.now a.numbers.now a.gate a.value c.requires.0 c.requires.1 c.lines_of-lines.result _ _
    c.lines_of-lines.ensures refl refl false c.column_costs.new.costs c.column_costs.ensures.size).sum_fits

pub returns-then-wired : goal.returns-then-wired
returns-then-wired c =
    let a = c.args in
    c.spatial_of.ensures
    ∙ (rw (c.cell_place-cell.ensures, c.visit_group.ensures) at c.least_wired.ensures.comes_to)
    ∙ offer_is a.circuit.now.library.now a.circuit.now.netlist.now a.numbers.now a.gate a.value c.requires.0 c.requires.1 c.lines_of-lines.result _ _
    c.lines_of-lines.ensures refl refl true
    (sym c.if-wired.true ∙ c.is_tied-wired.ensures _ _ _ c.args.circuit.now.linked.tied c.requires.0.inside) c.column_costs.new.costs
    (rw c.cell_place-cell.ensures at c.column_costs.ensures)

pub returns : goal.returns
unfolding read_row
returns c =
    let a = c.args in
    c.spatial_of-2.ensures
    ∙ (rw (c.cell_place-cell.ensures, c.visit_group.ensures) at c.least_sum.ensures.comes_to)
    ∙ offer_is a.circuit.now.library.now a.circuit.now.netlist.now a.numbers.now a.gate a.value c.requires.0 c.requires.1 c.lines_of-lines.result _ _
    c.lines_of-lines.ensures refl refl false
    (sym c.if-wired.false ∙ c.is_tied-wired.ensures _ _ _ c.args.circuit.now.linked.tied c.requires.0.inside) c.column_costs.new.costs
    (rw c.cell_place-cell.ensures at c.column_costs.ensures)
