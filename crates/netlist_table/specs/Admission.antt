-- One statement over plain numbers, as `admit` takes it from texts and from records, and what admitting it comes to.
use Rattle.std.specs.Prelude.{Bool, ◌&&◌, not, List, [], ◌∷◌, ◌++◌, ◌≡◌, ℕ, ◌+◌, ◌%◌, ◌<◌, min, eqb, length, get_or, set, take}
use Rattle.std.specs.Prelude as Code
use Rattle.std.proofs.Math.Option.{Option, none, some}
use Rattle.std.proofs.lemmas.List.Edits.{sets}
use Rattle.sizes.specs.Places.{driver_place, output_place, mention_place, range_place, ranged_place, gate_place}
use Rattle.sizes.specs.Sizes as Size
use Rattle.table.specs.Blocks.{fitted}
use Rattle.reading.specs.Choice.{pick}
use Rattle.reading.specs.Numbers as No
use Rattle.library_table.specs.Cells.{Cell}
use Rattle.netlist_table.specs.declared.RawStatement.{RawStatement}
use Rattle.netlist_table.specs.Lowest.{lowest}
use Rattle.netlist_table.specs.Netlist.{Gate, Mark, input, output, opened, Range, Statement, mark, gate, priced, kind_of, gate_kind, range_kind, last_kind}
use Rattle.netlist_table.specs.Netlist.{lines_of, any_line_bad, lines_where, some_line}
use Rattle.netlist_table.specs.Netlist.{unknown_cell, count_differs, causes}
use Rattle.netlist_table.specs.Layout.{packed, netlist_words, NetlistHolds}
use Rattle.netlist_table.specs.Lines.{mention_at}
use Rattle.netlist_table.specs.Sound.{Sound}

-- ---- a statement

pub record IsMark (m : Mark) (l : ℕ) (p : RawStatement) : Type 0 where
  pub kind : p.kind ≡ kind_of m
  pub line : p.line ≡ l

pub record IsGate (g : Gate) (p : RawStatement) : Type 0 where
  pub kind : p.kind ≡ gate_kind
  pub cell : p.cell ≡ g.cell
  pub line : p.line ≡ g.line
  pub pins : p.pins ≡ fitted 0 Size.pins g.pins
  pub count : p.count ≡ length g.pins
  pub bad : p.bad ≡ any_line_bad g.pins

-- L, LOW and HIGH are gathered as the pins of a gate are.
pub record IsRange (r : Range) (p : RawStatement) : Type 0 where
  pub kind : p.kind ≡ range_kind
  pub line : p.line ≡ r.line
  pub pins : p.pins ≡ fitted 0 Size.pins (r.line ∷ r.low ∷ r.high ∷ [])

-- The statement that the numbers stand for; none is bad form, which there are no numbers of, or a kind that is not known.
unfoldable pub StandsFor : Code.Option RawStatement → Option Statement → Type 0
StandsFor Code.None none = Unit {0}
StandsFor Code.None (some s) = ⊥
StandsFor (Code.Some p) none = last_kind < p.kind
StandsFor (Code.Some p) (some (mark m l)) = IsMark m l p
StandsFor (Code.Some p) (some (gate g)) = IsGate g p
StandsFor (Code.Some p) (some (priced r)) = IsRange r p

-- ---- what admitting a statement comes to

-- The causes 11 to 13 of a gate, which do not depend on the statements before it.
unfoldable pub gate_cause : List Cell → Gate → ℕ
gate_cause cells g =
    lowest
    ((No.line_bad, any_line_bad (lines_of (gate g)))
    ∷ (No.cell_unknown, unknown_cell cells (gate g))
    ∷ (No.pins_differ, count_differs cells (gate g))
    ∷ [])

-- The number for which a statement is refused after those before it, 0 where it is admitted.
unfoldable pub refusal_of : List Cell → List Statement → Option Statement → ℕ
refusal_of cells ss none = No.netlist_form
refusal_of cells ss (some s) = lowest (causes cells ss s)

unfoldable pub extended : List Statement → Option Statement → List Statement
extended ss none = ss
extended ss (some s) = ss ++ (s ∷ [])

-- What stands in the published size after a statement was refused by a number, or admitted, which is 0.
unfoldable pub words_after : ℕ → List Statement → Option Statement → List ℕ
words_after number ss w = pick (eqb number 0) (netlist_words (extended ss w)) (netlist_words ss)

-- The answer to a statement after others, and the table that it leaves, with what stands past the published size.
pub record Decided (cells : List Cell) (ss : List Statement) (w : Option Statement) (past : List ℕ) (number : ℕ) (after : List ℕ)
    : Type 0 where
  pub answers : number ≡ refusal_of cells ss w
  pub leaves : after ≡ words_after number ss w ++ past

-- So a statement is decided after those that the table holds, whatever they are, if they were admitted so themselves: what
-- `Sound` says of them leaves a place for each gate, since 16 is not asked for.
abbrev pub Admits : List Cell → Option Statement → List ℕ → ℕ → List ℕ → Type 0
Admits cells w before number after =
    (ss : List Statement) → Sound cells ss → (h : NetlistHolds before ss) → Decided cells ss w h.past number after

-- ---- stores

-- Where the table says that a line has a mark, and the number that refuses a second one, or another claim.
abbrev pub mark_place : Mark → ℕ → ℕ
mark_place input l = driver_place l
mark_place output l = output_place l
mark_place opened l = driver_place l

abbrev pub mark_number : Mark → ℕ
mark_number input = No.driven_before
mark_number output = No.marked_before
mark_number opened = No.driven_before

-- What stands there of a line that has it.
abbrev pub mark_value : Mark → ℕ
mark_value input = 1
mark_value output = 1
mark_value opened = 3

-- Marks lines as mentioned, one after the other.
unfoldable pub mention_all : List ℕ → List ℕ → List ℕ
mention_all [] table = table
mention_all (l ∷ ls) table = mention_all ls (set table (mention_place l) 1)

-- The numbers of a gate stored at its place.
unfoldable pub gate_stored : ℕ → ℕ → ℕ → List ℕ → List ℕ → List ℕ
gate_stored g cell line pins table = sets table (gate_place g) (cell ∷ (line ∷ take Size.pins pins))

-- What a range leaves at its line: its one number, that the line is mentioned, and that there is a range.
unfoldable pub range_stored : Range → List ℕ → List ℕ
range_stored r table = set (mention_all (r.line ∷ []) (set table (range_place r.line) (packed r))) ranged_place 1

-- The count of gates with one more, as the 32 bits of a number have it.
abbrev pub one_more : ℕ → ℕ
one_more g = (g + 1) % 4294967296

-- All that a gate leaves behind `g` others: its driver, the lines that it mentions, its numbers, the count.
unfoldable pub gate_added : ℕ → RawStatement → List ℕ → List ℕ
gate_added g s table =
    let l = s.line in
    let pins = take (min s.count Size.pins) s.pins in
    set (gate_stored g s.cell l s.pins (mention_all (l ∷ pins) (set table (driver_place l) 2))) 0 (one_more g)

-- ---- the lines that are not declared

-- Whether the table says of a line that it is mentioned, and nothing that claims it: of a table that holds statements just
-- where it is undeclared.
abbrev pub words_undeclared : List ℕ → ℕ → Bool
words_undeclared table l = mention_at table l && eqb (get_or table (driver_place l) 0) 0

-- Whether it says so of some line.
abbrev pub some_undeclared : List ℕ → Bool
some_undeclared table = some_line (lines_where (words_undeclared table) Size.lines 1)

-- ---- ranges

-- Whether the table says that some line has a range.
abbrev pub some_ranged : List ℕ → Bool
some_ranged table = not (eqb (get_or table ranged_place 0) 0)
