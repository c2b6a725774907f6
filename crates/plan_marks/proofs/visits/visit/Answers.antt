-- `visit` gathers the costs of the gate's columns, and lowers the number where the least row sum is below it.
use Rattle.common_laws.proofs.Base.{Bool, List, ◌≡◌, refl, sym, ap, ap₂, ◌∙◌, ℕ, ◌+◌, ◌*◌, arith, get_or}
use Rattle.sizes.specs.Sizes as Size
use Rattle.sizes.specs.Places.{cell_place, pins_place, group_place}
use Rattle.reading.specs.Choice.{pick}
use Rattle.cost.specs.Kind.{kind_index}
use Rattle.netlist_table.specs.Gates.{gate_cell}
use Rattle.sweep_groups.specs.Tables.{by_role, visit_group}
use Rattle.plan_marks.specs.Rows.{as_written, asking_columns}
use Rattle.plan_marks.proofs.VisitsLaws.{lines_fit_lem, rows-room, least_fits_lem, gather-fits, place_inside, place-kind, row_fits_lem, traced_still, traced_lowered}
use Rattle.plan_marks.proofs.visits.visit.Goals as goal

-- ---- places of a cell, from where it starts

pins-are : (library : List ℕ) (place : ℕ) {cell : ℕ} → cell ≡ cell_place place → get_or library (cell + Size.pins_at) 0 ≡ get_or library (pins_place place) 0
pins-are library place e = ap (λ (n : ℕ). get_or library (n + Size.pins_at) 0) e

group_is : (place : ℕ) {cell group number : ℕ} → cell ≡ cell_place place → group ≡ number → cell + Size.groups_at + group * Size.group_words ≡ group_place place number
group_is place e n = ap₂ (λ (x y : ℕ). x + Size.groups_at + y * Size.group_words) e n

written_same : {h h' d d' c c' : ℕ} → h ≡ h' → d ≡ d' → c ≡ c' → as_written h d c ≡ as_written h' d' c'
written_same p q r = rw (p, q, r) refl

asking-same : {w w' : Bool} {ls ls' : List ℕ} {n n' c c' : ℕ} → w ≡ w' → ls ≡ ls' → n ≡ n' → c ≡ c' → asking_columns w ls n c ≡ asking_columns w' ls' n' c'
asking-same p q r s = rw (p, q, r, s) refl

-- ----

pub column_costs-requires : goal.column_costs-requires
column_costs-requires c =
    let a = c.args in
    gather-fits (kind_index a.kind) a.circuit.now.library.now a.circuit.now.netlist.now a.numbers.now a.marks.now c.requires.0 a.gate a.value c.requires.1 c.requires.2 c.lines_of-lines.result _ _
    c.lines_of-lines.ensures (pins-are a.circuit.now.library.now _ c.cell_place-cell.ensures) refl _ refl

pub overflow_mul-group : goal.overflow_mul-group
unfolding by_role pick
overflow_mul-group c = omega (arith, c.visit_group.ensures, c.requires.0.links_fit.kind_fits, c.requires.2)

pub overflow_add-group-2 : goal.overflow_add-group-2
unfolding by_role pick
overflow_add-group-2 c =
    let f = c.requires.0.links_fit.tables_fit.gates c.args.gate c.requires.1 in
    omega (arith, c.visit_group.ensures, c.requires.0.links_fit.kind_fits, c.requires.2, f.cell, c.cell_place-cell.ensures)

pub visit_place-place-requires : goal.visit_place-place-requires
unfolding by_role pick
visit_place-place-requires c =
    let a = c.args in (
      lines_fit_lem (kind_index a.kind) a.circuit.now.library.now a.circuit.now.netlist.now a.numbers.now a.marks.now c.requires.0 a.gate a.value c.requires.1 c.requires.2 c.lines_of-lines.result _ _
          c.lines_of-lines.ensures (pins-are a.circuit.now.library.now _ c.cell_place-cell.ensures) (group_is _ c.cell_place-cell.ensures c.visit_group.ensures),
      omega (arith, c.requires.2),
    )

pub least_in-lowest-requires : goal.least_in-lowest-requires
least_in-lowest-requires c =
    let a = c.args in
    least_fits_lem (kind_index a.kind) a.circuit.now.library.now a.circuit.now.netlist.now a.numbers.now a.marks.now c.requires.0 a.gate a.value c.requires.1 c.requires.2 c.lines_of-lines.result _ _
    c.lines_of-lines.ensures (pins-are a.circuit.now.library.now _ c.cell_place-cell.ensures) (group_is _ c.cell_place-cell.ensures c.visit_group.ensures) _ _ c.column_costs.ensures.size

pub offset_bounds-numbers-place : goal.offset_bounds-numbers-place
offset_bounds-numbers-place c =
    let a = c.args in
    omega (
      arith,
      place_inside (kind_index a.kind) a.circuit.now.library.now a.circuit.now.netlist.now a.numbers.now a.marks.now c.requires.0 a.gate a.value c.requires.1 c.requires.2 c.lines_of-lines.result _ _
          c.lines_of-lines.ensures (pins-are a.circuit.now.library.now _ c.cell_place-cell.ensures) (group_is _ c.cell_place-cell.ensures c.visit_group.ensures) c.visit_place-place.result c.visit_place-place.ensures,
    )

pub bounds-numbers-place : goal.bounds-numbers-place
bounds-numbers-place c =
    let a = c.args in
    place_inside (kind_index a.kind) a.circuit.now.library.now a.circuit.now.netlist.now a.numbers.now a.marks.now c.requires.0 a.gate a.value c.requires.1 c.requires.2 c.lines_of-lines.result _ _
    c.lines_of-lines.ensures (pins-are a.circuit.now.library.now _ c.cell_place-cell.ensures) (group_is _ c.cell_place-cell.ensures c.visit_group.ensures) c.visit_place-place.result c.visit_place-place.ensures

-- The sum is of the kind of its place.
pub store-requires : goal.store-requires
store-requires c =
    let a = c.args in
    record {
      inside = place_inside (kind_index a.kind) a.circuit.now.library.now a.circuit.now.netlist.now a.numbers.now a.marks.now c.requires.0 a.gate a.value c.requires.1 c.requires.2 c.lines_of-lines.result _ _
          c.lines_of-lines.ensures (pins-are a.circuit.now.library.now _ c.cell_place-cell.ensures) (group_is _ c.cell_place-cell.ensures c.visit_group.ensures) c.visit_place-place.result c.visit_place-place.ensures;
      size = c.requires.0.size;
      of_kind =
          c.lesser_of-sum.ensures.of_kind ∙ c.least_in-lowest.ensures.of_kind
          ∙ sym (place-kind (kind_index a.kind) a.circuit.now.library.now a.circuit.now.netlist.now a.numbers.now a.marks.now c.requires.0 a.gate a.value c.requires.1 c.requires.2 c.lines_of-lines.result _ _
          c.lines_of-lines.ensures (pins-are a.circuit.now.library.now _ c.cell_place-cell.ensures) (group_is _ c.cell_place-cell.ensures c.visit_group.ensures) c.visit_place-place.result c.visit_place-place.ensures);
    }

pub returns-then-not-store : goal.returns-then-not-store
returns-then-not-store c =
    let a = c.args in
    traced_still (kind_index a.kind) a.circuit.now.library.now a.circuit.now.netlist.now a.numbers.now a.marks.now c.requires.0 a.gate a.value c.requires.1 c.requires.2 c.lines_of-lines.result _ _
    c.lines_of-lines.ensures (pins-are a.circuit.now.library.now _ c.cell_place-cell.ensures) (group_is _ c.cell_place-cell.ensures c.visit_group.ensures)
    c.visit_place-place.result c.visit_place-place.ensures _ (c.is_tied-wired.ensures _ _ _ c.args.circuit.now.linked.tied c.requires.1) _ c.column_costs.ensures c.least_in-lowest.result c.least_in-lowest.ensures
    c.lesser_of-sum.ensures.comes_to c.store.ensures a.clock c.if-not-store.true

pub first_row-first-requires : goal.first_row-first-requires
first_row-first-requires c =
    let a = c.args in (
      least_fits_lem (kind_index a.kind) a.circuit.now.library.now a.circuit.now.netlist.now a.numbers.now a.marks.now c.requires.0 a.gate a.value c.requires.1 c.requires.2 c.lines_of-lines.result _ _
          c.lines_of-lines.ensures (pins-are a.circuit.now.library.now _ c.cell_place-cell.ensures) (group_is _ c.cell_place-cell.ensures c.visit_group.ensures) _ _ c.column_costs.ensures.size,
      c.least_in-lowest.ensures,
    )

pub overflow_mul-row : goal.overflow_mul-row
overflow_mul-row c =
    let a = c.args in
    omega (
      arith,
      c.first_row-first.ensures.few,
      rows-room (kind_index a.kind) a.circuit.now.library.now a.circuit.now.netlist.now a.numbers.now a.marks.now c.requires.0 a.gate a.value c.requires.1 c.requires.2 c.lines_of-lines.result _ _
          c.lines_of-lines.ensures (pins-are a.circuit.now.library.now _ c.cell_place-cell.ensures) (group_is _ c.cell_place-cell.ensures c.visit_group.ensures),
    )

pub overflow_add-row : goal.overflow_add-row
overflow_add-row c =
    let a = c.args in
    omega (
      arith,
      c.first_row-first.ensures.few,
      rows-room (kind_index a.kind) a.circuit.now.library.now a.circuit.now.netlist.now a.numbers.now a.marks.now c.requires.0 a.gate a.value c.requires.1 c.requires.2 c.lines_of-lines.result _ _
          c.lines_of-lines.ensures (pins-are a.circuit.now.library.now _ c.cell_place-cell.ensures) (group_is _ c.cell_place-cell.ensures c.visit_group.ensures),
    )

pub overflow_add-row-2 : goal.overflow_add-row-2
overflow_add-row-2 c =
    let a = c.args in
    omega (
      arith,
      c.first_row-first.ensures.few,
      rows-room (kind_index a.kind) a.circuit.now.library.now a.circuit.now.netlist.now a.numbers.now a.marks.now c.requires.0 a.gate a.value c.requires.1 c.requires.2 c.lines_of-lines.result _ _
          c.lines_of-lines.ensures (pins-are a.circuit.now.library.now _ c.cell_place-cell.ensures) (group_is _ c.cell_place-cell.ensures c.visit_group.ensures),
    )

pub overflow_add-row-3 : goal.overflow_add-row-3
overflow_add-row-3 c =
    let a = c.args in
    omega (
      arith,
      c.first_row-first.ensures.few,
      rows-room (kind_index a.kind) a.circuit.now.library.now a.circuit.now.netlist.now a.numbers.now a.marks.now c.requires.0 a.gate a.value c.requires.1 c.requires.2 c.lines_of-lines.result _ _
          c.lines_of-lines.ensures (pins-are a.circuit.now.library.now _ c.cell_place-cell.ensures) (group_is _ c.cell_place-cell.ensures c.visit_group.ensures),
    )

pub asking_columns-asking-requires : goal.asking_columns-asking-requires
asking_columns-asking-requires c =
    let a = c.args in
    rw c.word-columns.ensures
    (row_fits_lem (kind_index a.kind) a.circuit.now.library.now a.circuit.now.netlist.now a.numbers.now a.marks.now c.requires.0 a.gate a.value c.requires.1 c.requires.2 c.lines_of-lines.result _ _
    c.lines_of-lines.ensures (pins-are a.circuit.now.library.now _ c.cell_place-cell.ensures) (group_is _ c.cell_place-cell.ensures c.visit_group.ensures)
    c.visit_place-place.result c.visit_place-place.ensures _ (c.is_tied-wired.ensures _ _ _ c.args.circuit.now.linked.tied c.requires.1) _ c.column_costs.ensures c.least_in-lowest.result c.least_in-lowest.ensures
    c.first_row-first.result c.first_row-first.ensures
    c.lesser_of-sum.ensures.comes_to c.store.ensures c.if-not-store.false)

pub returns : goal.returns
unfolding by_role pick
returns c =
    let a = c.args in
    let place = group_is _ c.cell_place-cell.ensures c.visit_group.ensures in
    let cols : c.word-columns.result ≡ get_or a.circuit.now.library.now (group_place (gate_cell a.circuit.now.netlist.now a.gate) (visit_group 0 (kind_index a.kind) a.value) + 1 + 2 * c.first_row-first.result + 1) 0 =
    c.word-columns.ensures ∙ ap (λ (n : ℕ). get_or a.circuit.now.library.now (n + 1 + 2 * c.first_row-first.result + 1) 0) place in
    traced_lowered (kind_index a.kind) a.circuit.now.library.now a.circuit.now.netlist.now a.numbers.now a.marks.now c.requires.0 a.gate a.value c.requires.1 c.requires.2 c.lines_of-lines.result _ _
    c.lines_of-lines.ensures (pins-are a.circuit.now.library.now _ c.cell_place-cell.ensures) (group_is _ c.cell_place-cell.ensures c.visit_group.ensures)
    c.visit_place-place.result c.visit_place-place.ensures _ (c.is_tied-wired.ensures _ _ _ c.args.circuit.now.linked.tied c.requires.1) _ c.column_costs.ensures c.least_in-lowest.result c.least_in-lowest.ensures
    c.first_row-first.result c.first_row-first.ensures
    c.lesser_of-sum.ensures.comes_to c.store.ensures c.if-not-store.false
    _ a.clock _ _ _ refl
    (c.as_written-written.ensures
    ∙ written_same (c.word.ensures ∙ ap (λ (n : ℕ). get_or a.circuit.now.library.now (n + Size.heading_at) 0) c.cell_place-cell.ensures)
    (c.word-2.ensures ∙ ap (λ (n : ℕ). get_or a.circuit.now.library.now (n + 1 + 2 * c.first_row-first.result) 0) place) cols)
    (c.asking_columns-asking.ensures
    ∙ asking-same (c.is_tied-wired.ensures _ _ _ c.args.circuit.now.linked.tied c.requires.1) c.lines_of-lines.ensures (pins-are a.circuit.now.library.now _ c.cell_place-cell.ensures) cols)
    (ap₂ (λ (n m : ℕ). n + 1 + m) c.place_of.ensures (pins-are a.circuit.now.library.now _ c.cell_place-cell.ensures))
    _ c.note.ensures
