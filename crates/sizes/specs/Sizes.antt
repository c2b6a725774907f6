-- The sizes of document 01 and those that follow from them, as src/lib.rt has them. Each is an `abbrev`, so that arithmetic
-- sees its value; the published sizes of the three lent tables are `library`, `netlist` and `numbers`.
use Rattle.std.specs.Prelude.{ℕ, ◌+◌, ◌*◌, ◌/◌}

-- "2 a text above 65,535 bytes"
abbrev pub text_bytes : ℕ
text_bytes = 65535

-- "a report buffer of 65,536 bytes"
abbrev pub report_bytes : ℕ
report_bytes = 65536

-- "else the refusal number times 1,000,000 plus the line": more than a text has lines, and than reports have bytes.
abbrev pub code_lines : ℕ
code_lines = 1000000

-- "Line numbers run from 1 to 1,000." Each gate drives a line of its own.
abbrev pub lines : ℕ
lines = 1000

abbrev pub gates : ℕ
gates = lines

-- The digits of the highest line, and the first number that has more.
abbrev pub number_digits : ℕ
number_digits = 4

abbrev pub numbers_end : ℕ
numbers_end = 10000

-- "A library has at most 32 entries"
abbrev pub cells : ℕ
cells = 32

-- "a name (1 to 8 bytes of A–Z, 0–9)"
abbrev pub name_bytes : ℕ
name_bytes = 8

-- "5 pins not 1 to 8"; "Pin counts now run from 0 to 8" (02, K1)
abbrev pub pins : ℕ
pins = 8

-- "a group of alternatives, 1 to 16 rows"
abbrev pub rows : ℕ
rows = 16

-- "A row is an octal number .., 1 to 7 digits."
abbrev pub row_digits : ℕ
row_digits = 7

-- "rows up to 8 digits", in an entry that begins with Name3 (02, K2)
abbrev pub deep_digits : ℕ
deep_digits = 8

-- "Decimal fields have 1 to 5 digits"
abbrev pub decimal_digits : ℕ
decimal_digits = 5

-- The most columns of a row: "bit 2(n−i)+2 means "pin at 0", bit 2(n−i)+1 "pin at 1"", "bits 2n+2 and 2n+1 mean "cell output at
-- 0" and "at 1", and bit 2n+3 means "observe the output""
abbrev pub columns : ℕ
columns = 2 * pins + 3

-- "six costs for each line": of each kind, combinational and sequential, those of setting it to 0 and to 1, then of each kind
-- that of observing it
abbrev pub kinds : ℕ
kinds = 2

abbrev pub values : ℕ
values = 2

abbrev pub observed_at : ℕ
observed_at = kinds * values

abbrev pub costs : ℕ
costs = observed_at + kinds

-- "a combinational price somewhere from LOW to HIGH for both values, 1 to 999" (02, K10): the highest, and how many numbers
-- there are from 0 to it.
abbrev pub most_price : ℕ
most_price = 999

abbrev pub prices : ℕ
prices = 1 + most_price

-- ---- the library table

-- A row: its depth and its columns. A group: its count of rows, and its rows.
abbrev pub row_words : ℕ
row_words = 2

abbrev pub group_words : ℕ
group_words = 1 + rows * row_words

-- The groups of a cell: CC, SC, then CO and SO; the first of each.
abbrev pub cc_group : ℕ
cc_group = 0

abbrev pub sc_group : ℕ
sc_group = cc_group + values

abbrev pub co_group : ℕ
co_group = sc_group + values

abbrev pub so_group : ℕ
so_group = co_group + pins

abbrev pub groups : ℕ
groups = so_group + pins

-- A cell: the length of its name, its name, its pins, its heading, its groups.
abbrev pub pins_at : ℕ
pins_at = 1 + name_bytes

abbrev pub heading_at : ℕ
heading_at = pins_at + 1

abbrev pub groups_at : ℕ
groups_at = heading_at + 1

abbrev pub cell_words : ℕ
cell_words = groups_at + groups * group_words

-- The count of cells, then the cells.
abbrev pub cells_at : ℕ
cells_at = 1

abbrev pub library : ℕ
library = cells_at + cells * cell_words

-- ---- the netlist table

-- The count of gates; for each line what drives it, whether it is an output, whether it is mentioned, its range; whether there
-- is a range; then the gates. What is said of line l stands at the part's number and l, what drives it at l itself.
abbrev pub outputs_at : ℕ
outputs_at = lines

abbrev pub mentions_at : ℕ
mentions_at = outputs_at + lines

abbrev pub ranges_at : ℕ
ranges_at = mentions_at + lines

abbrev pub ranged_at : ℕ
ranged_at = ranges_at + lines + 1

abbrev pub gates_at : ℕ
gates_at = ranged_at + 1

-- A gate: its cell, then its lines, which are the one that it drives and those of its pins.
abbrev pub gate_lines : ℕ
gate_lines = 1 + pins

abbrev pub gate_words : ℕ
gate_words = 1 + gate_lines

abbrev pub netlist : ℕ
netlist = gates_at + gates * gate_words

-- ---- the numbers table

abbrev pub numbers : ℕ
numbers = lines * costs

-- ---- the standing table (02, K11)

-- The count of pads, the counts of the four runs, the pads in the order of their commits, and a numbers table. A line is an
-- output at most once, so that there are no more pads than lines.
abbrev pub runs : ℕ
runs = 4

abbrev pub runs_at : ℕ
runs_at = 1

abbrev pub pads : ℕ
pads = lines

abbrev pub pads_at : ℕ
pads_at = runs_at + runs

abbrev pub standing_numbers : ℕ
standing_numbers = pads_at + pads

abbrev pub standing : ℕ
standing = standing_numbers + numbers

-- "the CO and SO of all lines": what asking answers.
abbrev pub observed : ℕ
observed = lines * kinds

-- ---- the table of ranks (beside 02, K13)

-- Of a line that may be padded: how many lines have CO never, how many over, the largest figure, the sum of the figures.
abbrev pub rank_words : ℕ
rank_words = 4

abbrev pub ranks : ℕ
ranks = lines * rank_words

-- ---- the set of module `sweep_links::awake`

-- A bit for each gate, in words.
abbrev pub word_bits : ℕ
word_bits = 64

abbrev pub awake_words : ℕ
awake_words = gates / word_bits + 1

-- ---- the links of crate `sweep_links`

-- A number for each line, and one for each pin of each gate. Both count from 1: place 0 is for none.
abbrev pub line_places : ℕ
line_places = 1 + lines

abbrev pub pin_places : ℕ
pin_places = 1 + gates * pins

-- For each line the last pin that reads it, for each pin the one before it that reads the same line, for each line the gate
-- that drives it, and for each gate, from 0, whether its pins are tied.
abbrev pub readers_at : ℕ
readers_at = 0

abbrev pub next_at : ℕ
next_at = readers_at + line_places

abbrev pub drivers_at : ℕ
drivers_at = next_at + pin_places

abbrev pub tied_at : ℕ
tied_at = drivers_at + line_places

abbrev pub links : ℕ
links = tied_at + gates

-- ---- the walk of crate `trial_back`

-- The lines that wait on its stack, and the turns that it takes at most: one that would need more ends early.
abbrev pub back_lines : ℕ
back_lines = 64

abbrev pub back_turns : ℕ
back_turns = 100

-- ---- the marks of crate `plan_marks`

-- For each line, counted from 0, and each value: the visit, the row as its entry writes it, the columns by which it asks, and
-- where the line of the gate's last pin stands in the netlist table.
abbrev pub mark_words : ℕ
mark_words = 4

abbrev pub marks : ℕ
marks = line_places * values * mark_words

-- ---- best numbers within a budget

-- The queue of crate `budget_queue`: a leaf for each line and value, and as many places before the leaves, of which the first
-- is for none.
abbrev pub leaves : ℕ
leaves = lines * values

abbrev pub queue : ℕ
queue = 2 * leaves

-- What is handed out: the cost of the last step; then for each leaf whether its value is fixed, and its number or its offer.
abbrev pub flags_at : ℕ
flags_at = 1

abbrev pub flag_words : ℕ
flag_words = 2

abbrev pub best : ℕ
best = flags_at + leaves * flag_words
