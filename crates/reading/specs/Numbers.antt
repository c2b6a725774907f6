-- The refusal numbers. Document 01, "Where a text stops". Pages that cite them say `as No`, so that a number and the condition
-- that it stands for may have one name.
use Rattle.std.specs.Prelude.{Bool, ◌||◌, ℕ, eqb}

-- "entry (line 0)": "1 a lent table below its published size; 2 a text above 65,535 bytes"
abbrev pub table_short : ℕ
table_short = 1

abbrev pub text_long : ℕ
text_long = 2

-- Whether a number is the entry's, for a caller who is told the number alone.
abbrev pub of_entry : ℕ → Bool
of_entry number = eqb number table_short || eqb number text_long

-- "library line": "3 form; 4 name used before; 5 pins not 1 to 8; 6 wrong count of groups or a group above 16 rows; 7 a row
-- with a bit above its columns; 8 a CC or SC row naming no pin, or a CO or SO row without "observe the output"; 9 a 33rd entry"
abbrev pub library_form : ℕ
library_form = 3

abbrev pub name_used : ℕ
name_used = 4

abbrev pub pins_bad : ℕ
pins_bad = 5

abbrev pub groups_bad : ℕ
groups_bad = 6

abbrev pub bit_above : ℕ
bit_above = 7

abbrev pub row_idle : ℕ
row_idle = 8

abbrev pub cells_many : ℕ
cells_many = 9

-- "netlist line": "10 form; 11 line number not 1 to 1,000; 12 unknown cell; 13 pin count differs; 14 line driven before (input
-- or gate); 15 line marked output before". 16 is unused (K9): each gate drives a line of its own.
abbrev pub netlist_form : ℕ
netlist_form = 10

abbrev pub line_bad : ℕ
line_bad = 11

abbrev pub cell_unknown : ℕ
cell_unknown = 12

abbrev pub pins_differ : ℕ
pins_differ = 13

abbrev pub driven_before : ℕ
driven_before = 14

abbrev pub marked_before : ℕ
marked_before = 15

-- "report (line 0)": "17 report longer than its buffer"
abbrev pub report_long : ℕ
report_long = 17

-- "18 when the number is over or never; then 19 when the text exceeds its buffer" (02, K3)
abbrev pub no_figure : ℕ
no_figure = 18

abbrev pub plan_long : ℕ
plan_long = 19

-- "20 for a line read or marked but neither driven nor open, at line 0, after all netlist lines" (document 02, K5)
abbrev pub undeclared : ℕ
undeclared = 20

-- "21 for a range on a line not marked input above; then 22 for bounds outside 1 to 999, LOW above HIGH, or a second range for
-- L." (02, K10)
abbrev pub not_input : ℕ
not_input = 21

abbrev pub range_bad : ℕ
range_bad = 22

-- "23 for a line that the netlist doesn't mention or already an output; then 24 for a ticket whose count isn't the present one"
-- (02, K11)
abbrev pub unpaddable : ℕ
unpaddable = 23

abbrev pub ticket_stale : ℕ
ticket_stale = 24
