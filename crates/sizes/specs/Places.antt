-- Where each thing stands in the lent tables, docs/TABLES.md. Cells, groups, rows and gates count from 0, lines from 1.
use Rattle.std.specs.Prelude.{ℕ, ◌+◌, ◌*◌, ◌-◌, ◌/◌, ◌%◌}
use Rattle.sizes.specs.Sizes as Size

-- ---- the library table

abbrev pub cell_place : ℕ → ℕ
cell_place k = Size.cells_at + k * Size.cell_words

abbrev pub pins_place : ℕ → ℕ
pins_place k = cell_place k + Size.pins_at

abbrev pub heading_place : ℕ → ℕ
heading_place k = cell_place k + Size.heading_at

-- Group g of cell k.
abbrev pub group_place : ℕ → ℕ → ℕ
group_place k g = cell_place k + Size.groups_at + g * Size.group_words

-- ---- the netlist table

abbrev pub driver_place : ℕ → ℕ
driver_place l = l

abbrev pub output_place : ℕ → ℕ
output_place l = Size.outputs_at + l

abbrev pub mention_place : ℕ → ℕ
mention_place l = Size.mentions_at + l

abbrev pub range_place : ℕ → ℕ
range_place l = Size.ranges_at + l

-- Whether there is a range.
abbrev pub ranged_place : ℕ
ranged_place = Size.ranged_at

abbrev pub gate_place : ℕ → ℕ
gate_place g = Size.gates_at + g * Size.gate_words

-- ---- the numbers table

-- The first of a line's numbers.
abbrev pub line_place : ℕ → ℕ
line_place l = (l - 1) * Size.costs

-- The number of setting a line to a value, and of observing it; the kinds count from 0, combinational before sequential.
abbrev pub setting_place : ℕ → ℕ → ℕ → ℕ
setting_place kind l v = line_place l + kind * Size.values + v

abbrev pub observing_place : ℕ → ℕ → ℕ
observing_place kind l = line_place l + Size.observed_at + kind

-- ---- the marks

-- The first number of a line at a value.
abbrev pub mark_place : ℕ → ℕ → ℕ
mark_place l v = (l * Size.values + v) * Size.mark_words

-- ---- best numbers within a budget

-- The leaf of a line at a value, and where the number of a leaf's value stands in the numbers table.
abbrev pub leaf_of : ℕ → ℕ → ℕ
leaf_of l v = (l - 1) * Size.values + v

abbrev pub leaf_place : ℕ → ℕ
leaf_place i = i / Size.values * Size.costs + i % Size.values

-- Whether the value of a leaf is fixed; its number or its offer stands behind it.
abbrev pub flag_place : ℕ → ℕ
flag_place i = Size.flags_at + i * Size.flag_words
