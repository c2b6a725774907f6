-- The netlist: its statements, and where a text of them stops. Document 01, "Netlist" and "Where a text stops", netlist line;
-- document 02, K5 and K10.
use Rattle.std.specs.Prelude.{Bool, true, false, not, ◌&&◌, ◌||◌, ℕ, zero, suc, leb, ltb, eqb, length}
use mathlib.Core.List.{List, [], ◌∷◌, ◌++◌, flat_map}
use Rattle.std.proofs.Math.Option.{Option, none, some}
use Rattle.sizes.specs.Sizes as Size
use Rattle.text.specs.Bytes.{bytes, bytes_open}
use Rattle.text.specs.Lines.{lines, same_bytes, lines_open}
use Rattle.text.specs.Numeral.{decimal, name_form, numeral_open}
use Rattle.reading.specs.Choice.{pick}
use Rattle.reading.specs.Numbers as No
use Rattle.reading.specs.Refusal.{Read, read, ◌>>=◌, ◌>>◌, weigh, form, refusal_open}
use Rattle.library_table.specs.Cells.{Cell}
use Rattle.library_table.specs.Library.{Fields, cell_named, library_open}
use Rattle.netlist_table.specs.declared.Rules.{Rules}
use Rattle.netlist_table.specs.declared.Rules.TheVariants.{Old, New}

-- A gate: its cell by its place in the library, from 0, the line that it drives, and the lines that its pins read, in
-- order. A cell that the library does not have is the count of its cells, so that 12 is one test for texts and records.
pub record Gate : Type 0 where
  pub cell : ℕ
  pub line : ℕ
  pub pins : List ℕ

-- The marks of a line, `input,L`, `output,L` and, of document 02, K5, `open,L`.
pub data Mark : Type 0 where
  input : Mark
  output : Mark
  opened : Mark

-- "A line `range,L,LOW,HIGH` gives input L, marked above it, a combinational price somewhere from LOW to HIGH for both values"
-- (K10).
pub record Range : Type 0 where
  pub line : ℕ
  pub low : ℕ
  pub high : ℕ

-- "`input,L`, `output,L`, `gate,NAME,L,P1,..,Pn`. L is the line marked or driven, P1.. the lines read by the pins in order.";
-- and a range.
pub data Statement : Type 0 where
  mark : Mark → (line : ℕ) → Statement
  gate : Gate → Statement
  priced : Range → Statement

-- "kind (0 input, 1 output, 2 gate)"; "In record lists, kind 3 is open." (K5)
abbrev pub kind_of : Mark → ℕ
kind_of input = 0
kind_of output = 1
kind_of opened = 3

abbrev pub gate_kind : ℕ
gate_kind = 2

-- "Record lists have no ranges." (K10): no record has this kind.
abbrev pub range_kind : ℕ
range_kind = 4

-- The last kind that is known.
abbrev pub last_kind : ℕ
last_kind = range_kind

-- By the old rules, those in force just before K5, nothing declares a line open; by the new ones `open,L` does. The old rules
-- know no ranges either.
abbrev pub declaring : Rules → Bool
declaring Old = false
declaring New = true

-- ---- form (10)

unfoldable pub with : Option ℕ → Option (List ℕ) → Option (List ℕ)
with none ns = none
with (some n) none = none
with (some n) (some ns) = some (n ∷ ns)

-- Every field a decimal.
unfoldable pub decimals : Fields → Option (List ℕ)
decimals [] = some []
decimals (f ∷ fs) = with (decimal f) (decimals fs)

-- The number of a line that has one field left.
unfoldable pub lone : Fields → Option ℕ
lone [] = none
lone (f ∷ []) = decimal f
lone (f ∷ (x ∷ xs)) = none

unfoldable pub mark_of : Mark → Option ℕ → Option Statement
mark_of m none = none
mark_of m (some l) = some (mark m l)

unfoldable pub driven_by : ℕ → Option (List ℕ) → Option Statement
driven_by cell none = none
driven_by cell (some []) = none
driven_by cell (some (l ∷ ps)) = some (gate (record { cell = cell; line = l; pins = ps }))

-- "NAME has a cell name's form. Any count of pin fields, none included, is good form".
unfoldable pub gate_of : List Cell → Fields → Option Statement
gate_of cells [] = none
gate_of cells (name ∷ fs) = pick (name_form name) (driven_by (cell_named name cells) (decimals fs)) none

-- `L,LOW,HIGH`: three decimals.
unfoldable pub range_of : Option (List ℕ) → Option Statement
range_of none = none
range_of (some []) = none
range_of (some (l ∷ [])) = none
range_of (some (l ∷ (low ∷ []))) = none
range_of (some (l ∷ (low ∷ (high ∷ [])))) = some (priced (record { line = l; low = low; high = high }))
range_of (some (l ∷ (low ∷ (high ∷ (n ∷ ns))))) = none

unfoldable pub statement_of : Rules → List Cell → Fields → Option Statement
statement_of rules cells [] = none
statement_of rules cells (f ∷ fs) =
    pick (same_bytes f (bytes "input")) (mark_of input (lone fs))
    (pick (same_bytes f (bytes "output")) (mark_of output (lone fs))
    (pick (same_bytes f (bytes "gate")) (gate_of cells fs)
    (pick (declaring rules && same_bytes f (bytes "open")) (mark_of opened (lone fs))
    (pick (declaring rules && same_bytes f (bytes "range")) (range_of (decimals fs)) none))))

-- ---- what one statement says

-- The line numbers that it holds.
unfoldable pub lines_of : Statement → List ℕ
lines_of (mark m l) = l ∷ []
lines_of (gate g) = g.line ∷ g.pins
lines_of (priced r) = r.line ∷ []

-- The line that it marks so, if any.
unfoldable pub lines_marked : Mark → Statement → List ℕ
lines_marked m (mark k l) = pick (eqb (kind_of m) (kind_of k)) (l ∷ []) []
lines_marked m (gate g) = []
lines_marked m (priced r) = []

-- The line that it claims, if any: that it drives, "driven .. (input or gate)", or declares open.
unfoldable pub lines_claimed : Statement → List ℕ
lines_claimed (mark input l) = l ∷ []
lines_claimed (mark output l) = []
lines_claimed (mark opened l) = l ∷ []
lines_claimed (gate g) = g.line ∷ []
lines_claimed (priced r) = []

-- The lines that it asks a driver or `open,L` for: "a line that a pin reads or an output marks".
unfoldable pub lines_needed : Statement → List ℕ
lines_needed (mark input l) = []
lines_needed (mark output l) = l ∷ []
lines_needed (mark opened l) = []
lines_needed (gate g) = g.pins
lines_needed (priced r) = []

-- The line that it gives a range, if any.
unfoldable pub lines_ranged : Statement → List ℕ
lines_ranged (mark m l) = []
lines_ranged (gate g) = []
lines_ranged (priced r) = r.line ∷ []

unfoldable pub gates_in : Statement → List Gate
gates_in (mark m l) = []
gates_in (gate g) = g ∷ []
gates_in (priced r) = []

unfoldable pub ranges_in : Statement → List Range
ranges_in (mark m l) = []
ranges_in (gate g) = []
ranges_in (priced r) = r ∷ []

-- ---- what the statements so far say, in netlist order

unfoldable pub mentioned_lines : List Statement → List ℕ
mentioned_lines ss = flat_map lines_of ss

unfoldable pub marked_lines : Mark → List Statement → List ℕ
marked_lines m ss = flat_map (lines_marked m) ss

unfoldable pub claimed_lines : List Statement → List ℕ
claimed_lines ss = flat_map lines_claimed ss

unfoldable pub needed_lines : List Statement → List ℕ
needed_lines ss = flat_map lines_needed ss

unfoldable pub ranged_lines : List Statement → List ℕ
ranged_lines ss = flat_map lines_ranged ss

unfoldable pub gates_of : List Statement → List Gate
gates_of ss = flat_map gates_in ss

unfoldable pub ranges_of : List Statement → List Range
ranges_of ss = flat_map ranges_in ss

unfoldable pub member : ℕ → List ℕ → Bool
member l [] = false
member l (k ∷ ks) = eqb k l || member l ks

unfoldable pub some_line : List ℕ → Bool
some_line [] = false
some_line (l ∷ ls) = true

-- A line that stands anywhere in the netlist; a line marked so, an input, an output, an open line; a line driven by an input or
-- a gate, or declared open; a line with a range.
unfoldable pub mentioned : ℕ → List Statement → Bool
mentioned l ss = member l (mentioned_lines ss)

unfoldable pub is_marked : Mark → ℕ → List Statement → Bool
is_marked m l ss = member l (marked_lines m ss)

abbrev pub is_input : ℕ → List Statement → Bool
is_input l ss = is_marked input l ss

abbrev pub is_output : ℕ → List Statement → Bool
is_output l ss = is_marked output l ss

abbrev pub is_open : ℕ → List Statement → Bool
is_open l ss = is_marked opened l ss

unfoldable pub claimed : ℕ → List Statement → Bool
claimed l ss = member l (claimed_lines ss)

unfoldable pub has_range : ℕ → List Statement → Bool
has_range l ss = member l (ranged_lines ss)

-- "With such a line present"
unfoldable pub some_range : List Statement → Bool
some_range ss = some_line (ranged_lines ss)

-- What is asked of the range of a line, the first that it has; of a line that has none what stands for it.
unfoldable pub of_range : (Range → ℕ) → ℕ → List Range → ℕ → ℕ
of_range f otherwise [] l = otherwise
of_range f otherwise (r ∷ rs) l = pick (eqb r.line l) (f r) (of_range f otherwise rs l)

-- What inputs cost, "all inputs at LOW and all at HIGH"; "Inputs without one cost 1."
unfoldable pub low_price : List Statement → ℕ → ℕ
low_price ss l = of_range (λ r. r.low) 1 (ranges_of ss) l

unfoldable pub high_price : List Statement → ℕ → ℕ
high_price ss l = of_range (λ r. r.high) 1 (ranges_of ss) l

-- ---- refusals 11 to 15, 21 and 22, of a statement after those before it

-- "Line numbers run from 1 to 1,000."
unfoldable pub line_bad : ℕ → Bool
line_bad l = not (leb 1 l && leb l Size.lines)

-- "11 line number not 1 to 1,000"
unfoldable pub any_line_bad : List ℕ → Bool
any_line_bad [] = false
any_line_bad (l ∷ ls) = line_bad l || any_line_bad ls

-- "12 unknown cell"
unfoldable pub unknown_cell : List Cell → Statement → Bool
unknown_cell cells (mark m l) = false
unknown_cell cells (gate g) = leb (length cells) g.cell
unknown_cell cells (priced r) = false

unfoldable pub pins_at : List Cell → ℕ → ℕ
pins_at [] k = 0
pins_at (c ∷ cs) zero = c.pins
pins_at (c ∷ cs) (suc k) = pins_at cs k

-- "13 pin count differs"
unfoldable pub count_differs : List Cell → Statement → Bool
count_differs cells (mark m l) = false
count_differs cells (gate g) = not (eqb (length g.pins) (pins_at cells g.cell))
count_differs cells (priced r) = false

-- Whether one of some lines stands among others.
unfoldable pub any_member : List ℕ → List ℕ → Bool
any_member [] ls = false
any_member (k ∷ ks) ls = member k ls || any_member ks ls

-- "14 line driven before (input or gate)"; "A later input, gate or open line for a declared line is refused as 14, and so is an
-- open line for a driven one." (K5)
unfoldable pub driven_before : List Statement → Statement → Bool
driven_before ss s = any_member (lines_claimed s) (claimed_lines ss)

-- "15 line marked output before"
unfoldable pub marked_before : List Statement → Statement → Bool
marked_before ss s = any_member (lines_marked output s) (marked_lines output ss)

-- "21 for a range on a line not marked input above" (K10)
unfoldable pub not_input : List Statement → Statement → Bool
not_input ss (mark m l) = false
not_input ss (gate g) = false
not_input ss (priced r) = not (is_input r.line ss)

-- "bounds outside 1 to 999"; these, or "LOW above HIGH"
unfoldable pub price_bad : ℕ → Bool
price_bad x = ltb x 1 || ltb Size.most_price x

unfoldable pub bounds_bad : ℕ → ℕ → Bool
bounds_bad low high = price_bad low || (price_bad high || ltb high low)

-- "then 22 for bounds outside 1 to 999, LOW above HIGH, or a second range for L." (K10)
unfoldable pub range_bad : List Statement → Statement → Bool
range_bad ss (mark m l) = false
range_bad ss (gate g) = false
range_bad ss (priced r) = bounds_bad r.low r.high || has_range r.line ss

-- The causes for which a statement is refused, in the numbers' order, each with whether it holds.
unfoldable pub causes : List Cell → List Statement → Statement → List (ℕ × Bool)
causes cells ss s =
    (No.line_bad, any_line_bad (lines_of s))
    ∷ (No.cell_unknown, unknown_cell cells s)
    ∷ (No.pins_differ, count_differs cells s)
    ∷ (No.driven_before, driven_before ss s)
    ∷ (No.marked_before, marked_before ss s)
    ∷ (No.not_input, not_input ss s)
    ∷ (No.range_bad, range_bad ss s)
    ∷ []

unfoldable pub admit : ℕ → List Cell → List Statement → Statement → Read (Unit {0})
admit line cells ss s = weigh line (causes cells ss s)

-- The statements of a list, each by its form or none, admitted one after the other: of a text's lines and of records alike.
unfoldable pub admitted : ℕ → List Cell → List Statement → List (Option Statement) → Read (List Statement)
admitted line cells ss [] = read ss
admitted line cells ss (w ∷ ws) = do
  s ← form No.netlist_form line w
  admit line cells ss s
  admitted (suc line) cells (ss ++ (s ∷ [])) ws

unfoldable pub line_form : Rules → List Cell → Option Fields → Option Statement
line_form rules cells none = none
line_form rules cells (some fs) = statement_of rules cells fs

unfoldable pub line_forms : Rules → List Cell → List (Option Fields) → List (Option Statement)
line_forms rules cells [] = []
line_forms rules cells (l ∷ ls) = line_form rules cells l ∷ line_forms rules cells ls

-- "Lines count from 1 in each text."
unfoldable pub text_statements : Rules → List Cell → List ℕ → Read (List Statement)
text_statements rules cells t = admitted 1 cells [] (line_forms rules cells (lines t))

-- ---- refusal 20, of all statements

-- "a line read or marked but neither driven nor open"
unfoldable pub undeclared : List Statement → ℕ → Bool
undeclared ss l = member l (needed_lines ss) && not (claimed l ss)

-- Of so many lines from `first` on those for which a test holds, ascending.
unfoldable pub lines_where : (ℕ → Bool) → ℕ → ℕ → List ℕ
lines_where p zero first = []
lines_where p (suc n) first = pick (p first) (first ∷ lines_where p n (suc first)) (lines_where p n (suc first))

unfoldable pub undeclared_lines : List Statement → List ℕ
undeclared_lines ss = lines_where (undeclared ss) Size.lines 1

-- "Refused: 20 for a line read or marked but neither driven nor open, at line 0, after all netlist lines and before 17." By the
-- old rules there is no 20.
unfoldable pub declared : Rules → List Statement → Read (List Statement)
declared rules ss = weigh 0 ((No.undeclared, declaring rules && some_line (undeclared_lines ss)) ∷ []) >> read ss

unfoldable pub netlist : Rules → List Cell → List ℕ → Read (List Statement)
netlist rules cells t = text_statements rules cells t >>= declared rules

-- Opens the page's definitions, where a figure computes with them.
unfoldable pub netlist_open : ℕ
unfolding bytes_open lines_open numeral_open refusal_open library_open flat_map with decimals lone mark_of driven_by gate_of range_of statement_of lines_of lines_marked lines_claimed lines_needed lines_ranged gates_in ranges_in mentioned_lines marked_lines claimed_lines needed_lines ranged_lines gates_of ranges_of member some_line mentioned is_marked claimed has_range some_range of_range low_price high_price line_bad any_line_bad unknown_cell pins_at count_differs any_member driven_before marked_before not_input price_bad bounds_bad range_bad causes admit admitted line_form line_forms text_statements undeclared lines_where undeclared_lines declared netlist
netlist_open = 0
