-- From gates and cells to ways and visits of crate `plans`: what a row of a cell means at a gate, and in which order a sweep
-- visits. Every request that changes which ways there are changes this page.
use Rattle.std.specs.Prelude.{Bool, false, not, ◌&&◌, ◌||◌, List, [], ◌∷◌, ◌++◌, map, ℕ, zero, suc, ◌-◌, eqb, get_or}
use Rattle.reading.specs.Choice.{pick}
use Rattle.plans.specs.System.{Way, Visit}
unfoldable pub use Rattle.library_table.specs.Cells.{no_cell}
use Rattle.library_table.specs.Cells.{Row, Group, Cell, Column, pin, output, observe, bit_of, setting_columns, observing_columns, bit, named, cells_open}
use Rattle.library_table.specs.declared.Word.{Word}
use Rattle.library_table.specs.declared.Word.TheVariants.{CC, CO, SC, SO}
use Rattle.library_table.specs.Library.{word_groups, any_of}
use Rattle.netlist_table.specs.Netlist.{Gate}
use Rattle.calculation.specs.Nodes.{Kind, combinational, sequential, Purpose, node, nodes_open}
use Rattle.calculation.specs.Nodes as N

-- A gate's cell; one without rows where the index names none, which 12 refuses.
unfoldable pub cell_of : List Cell → Gate → Cell
cell_of cells g = get_or cells g.cell no_cell

-- The line that pin i reads, pins from 1: "the lines read by the pins in order".
unfoldable pub pin_line : Gate → ℕ → ℕ
pin_line g i = get_or g.pins (i - 1) 0

-- What a column asks for at a gate: its pin's line at a value, its output at a value, its output observed.
unfoldable pub asked : Gate → Column → Purpose
asked g (pin i v) = N.set (pin_line g i) v
asked g (output v) = N.set g.line v
asked g observe = N.observe g.line

unfoldable pub needs : Kind → Gate → List Column → List ℕ
needs k g cs = map (λ (c : Column). node k (asked g c)) cs

-- ---- the roles of a gate

-- "A gate's output is set to e"; "Any line is also observed by choosing a gate and a pin that reads the line".
pub data Role : Type 0 where
  setting : (e : ℕ) → Role
  observing : (i : ℕ) → Role

-- What a gate is chosen for: its output at a value, the line of a pin observed.
unfoldable pub purpose_of : Gate → Role → Purpose
purpose_of g (setting e) = N.set g.line e
purpose_of g (observing i) = N.observe (pin_line g i)

-- "Combinational plans use CC and CO rows, sequential ones SC and SO."
unfoldable pub word_of : Kind → Role → Word
word_of combinational (setting e) = CC
word_of sequential (setting e) = SC
word_of combinational (observing i) = CO
word_of sequential (observing i) = SO

-- "a row of group e of its cell"; "a row of that pin's group": the group's index, from 0.
unfoldable pub group_index : Role → ℕ
group_index (setting e) = e
group_index (observing i) = i - 1

unfoldable pub group_of : Kind → Cell → Role → Group
group_of k c role = get_or (word_groups (word_of k role) c) (group_index role) []

-- The columns of a CC or SC row name pins, those of a CO or SO row the output too.
unfoldable pub columns_of : ℕ → Role → List Column
columns_of n (setting e) = setting_columns n
columns_of n (observing i) = observing_columns n

-- The columns that a row names, lowest first.
unfoldable pub named_by : Cell → Role → Row → List Column
named_by c role r = named c.pins (columns_of c.pins role) r.columns

-- ---- two pins on one wire. Document 02, K7

-- Whether columns of a cell of n pins name both values of one of the pins 1 to i.
unfoldable pub both_values : ℕ → ℕ → ℕ → Bool
both_values n zero columns = false
both_values n (suc i) columns =
    (bit columns (bit_of n (pin (suc i) 0)) && bit columns (bit_of n (pin (suc i) 1))) || both_values n i columns

-- "Take a cell none of whose rows names both values of one pin.": CC, SC, CO and SO rows alike. The output at 0 with the output
-- at 1 is no such row, since the output is no pin.
unfoldable pub one_wire : Cell → Bool
one_wire c =
    not
    (any_of (any_of (λ (r : Row). both_values c.pins c.pins r.columns)) (c.cc ++ (c.sc ++ (c.co ++ c.so))))

-- "Within one of its CC or SC rows"; "CO and SO rows keep document 01's reading."
unfoldable pub merges : Cell → Role → Bool
merges c (setting e) = one_wire c
merges c (observing i) = false

-- Whether two purposes are one value of one line.
unfoldable pub same_value : Purpose → Purpose → Bool
same_value (N.set l v) (N.set m w) = eqb l m && eqb v w
same_value (N.set l v) (N.observe m) = false
same_value (N.observe l) p = false

-- 1 for 0 and 0 for 1.
unfoldable pub other_value : Purpose → Purpose
other_value (N.set l v) = N.set l (1 - v)
other_value (N.observe l) = N.observe l

-- Whether one of these columns asks for this value of this line.
unfoldable pub any_asks : Gate → List Column → Purpose → Bool
any_asks g cs p = any_of (λ (c : Column). same_value (asked g c) p) cs

-- "the same value of the same line through several pins is paid and written out once, at its lowest column": a column is left
-- out where a lower one asks for the same. `lower` are the columns of the row before these.
unfoldable pub once : Gate → List Column → List Column → List Column
once g lower [] = []
once g lower (c ∷ cs) = pick (any_asks g lower (asked g c)) (once g (c ∷ lower) cs) (c ∷ once g (c ∷ lower) cs)

-- "needs 0 and 1 of one line": a lower column asks for the other value.
unfoldable pub needs_both : Gate → List Column → List Column → Bool
needs_both g lower [] = false
needs_both g lower (c ∷ cs) = any_asks g lower (other_value (asked g c)) || needs_both g (c ∷ lower) cs

-- "giving one plan for each column that the row names"; "a plan for each value named and an observing plan for the gate's
-- output": what a row asks for, lowest column first, and on one wire "once, at its lowest column".
unfoldable pub asks : Gate → Cell → Role → Row → List Column
asks g c role r = pick (merges c role) (once g [] (named_by c role r)) (named_by c role r)

-- "Such a row that needs 0 and 1 of one line is no way at all."
unfoldable pub is_way : Gate → Cell → Role → Row → Bool
is_way g c role r = not (merges c role && needs_both g [] (named_by c role r))

-- The rows of a group that are ways at a gate.
unfoldable pub usable : Gate → Cell → Role → Group → Group
usable g c role [] = []
usable g c role (r ∷ rs) = pick (is_way g c role r) (r ∷ usable g c role rs) (usable g c role rs)

-- ---- ways and visits

-- A row at a gate: its depth, and what its columns ask for.
unfoldable pub way_of : Kind → Gate → Cell → Role → Row → Way
way_of k g c role r = record { depth = r.depth; needs = needs k g (asks g c role r) }

unfoldable pub ways_of : Kind → Gate → Cell → Role → Group → List Way
ways_of k g c role rs = map (way_of k g c role) (usable g c role rs)

-- "choosing a row of group e of its cell"; "choosing a gate and a pin that reads the line, a row of that pin's group"
unfoldable pub visit : Kind → List Cell → Gate → Role → Visit
visit k cells g role =
    let c = cell_of cells g in
    record { node = node k (purpose_of g role); ways = ways_of k g c role (group_of k c role) }

-- "for each the output's 0 before its 1"
unfoldable pub value_roles : List Role
value_roles = setting 0 ∷ setting 1 ∷ []

-- "pins in order": `count` of them from pin i on.
unfoldable pub pin_roles : ℕ → ℕ → List Role
pin_roles zero i = []
pin_roles (suc count) i = observing i ∷ pin_roles count (suc i)

unfoldable pub gate_visits : Kind → List Cell → Gate → List Role → List Visit
gate_visits k cells g roles = map (visit k cells g) roles

-- "A sweep visits the gates in netlist order"
unfoldable pub setting_visits : Kind → List Cell → List Gate → List Visit
setting_visits k cells [] = []
setting_visits k cells (g ∷ gs) = gate_visits k cells g value_roles ++ setting_visits k cells gs

-- "their sweeps visit gates in reverse order"
unfoldable pub observing_visits : Kind → List Cell → List Gate → List Visit
observing_visits k cells [] = []
observing_visits k cells (g ∷ gs) = observing_visits k cells gs ++ gate_visits k cells g (pin_roles (cell_of cells g).pins 1)

-- ---- whose visits they are

-- A gate in a role: what a visit of a sweep is made for.
pub record Turn : Type 0 where
  pub gate : Gate
  pub role : Role

unfoldable pub gate_turns : Gate → List Role → List Turn
gate_turns g roles = map (λ (role : Role). record { gate = g; role = role }) roles

-- The same two orders, visit by visit (`setting-turned` and `observing-turned` of proofs/Visits.antt).
unfoldable pub setting_turns : List Gate → List Turn
setting_turns [] = []
setting_turns (g ∷ gs) = gate_turns g value_roles ++ setting_turns gs

unfoldable pub observing_turns : List Cell → List Gate → List Turn
observing_turns cells [] = []
observing_turns cells (g ∷ gs) = observing_turns cells gs ++ gate_turns g (pin_roles (cell_of cells g).pins 1)

-- Opens the page's definitions, where a figure computes with them.
unfoldable pub ways_open : ℕ
unfolding nodes_open cells_open word_groups cell_of pin_line asked needs purpose_of word_of group_index group_of columns_of named_by any_of both_values one_wire merges same_value other_value any_asks once needs_both asks is_way usable way_of ways_of visit value_roles pin_roles gate_visits setting_visits observing_visits gate_turns setting_turns observing_turns
ways_open = 0
