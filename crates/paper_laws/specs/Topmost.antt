-- Which line, and which number, a text is refused by. Document 01, "Where a text stops": "the topmost bad line counts, and within
-- it the lowest number." The readers weigh lists of conditions in their order; here is no order: a line has causes, and the
-- number is the least of them.
use Rattle.std.specs.Prelude.{true, not, ◌||◌, ◌↔◌, ◌≡◌, ℕ, suc, ◌≤◌, leb, eqb, length}
use mathlib.Core.List.{List, [], ◌∷◌, ◌++◌, Memᴰ}
use Rattle.std.proofs.Math.Option.{Option, none, some}
use Rattle.sizes.specs.Sizes as Size
use Rattle.reading.specs.Numbers as No
use Rattle.reading.specs.Refusal.{refused, read}
use Rattle.text.specs.Lines.{lines}
use Rattle.library_table.specs.declared.Word.{Word}
use Rattle.library_table.specs.Cells.{Group, Cell}
use Rattle.library_table.specs.Library.{Fields, any_of, above_rows, above, group_count, column_count, row_idle, rows_after, Header, name_after, end_after, name_used, pins_bad, Place, outside, inside, Reading, library_line, library}
use Rattle.library_table.specs.declared.Wanted.{Wanted}
use Rattle.library_table.specs.declared.Wanted.TheVariants.{Rows as word_line, End as end_line}
use Rattle.netlist_table.specs.Netlist.{Statement, causes, admitted}

-- "within it the lowest number"
pub record Least (Cause : ℕ → Type 0) (number : ℕ) : Type 0 where
  pub is : Cause number
  pub least : (other : ℕ) → Cause other → number ≤ other

-- ---- the netlist, as text or as records

-- The causes of a line behind the statements above it: bad form is 10, and the only one; else those that hold of 11 to 15, 21 and
-- 22.
abbrev pub StatementCause : List Cell → List Statement → Option Statement → ℕ → Type 0
StatementCause cells ss none number = number ≡ No.netlist_form
StatementCause cells ss (some s) number = Memᴰ (number, true) (causes cells ss s)

-- "the topmost bad line": from `line` on, behind statements that were admitted, the first line that has a cause.
pub data TopmostStatement (cells : List Cell) : (line : ℕ) → List Statement → List (Option Statement) → (number at : ℕ) → Type 0 where
  here : {line number : ℕ} {ss : List Statement} {w : Option Statement} {ws : List (Option Statement)} →
      Least (StatementCause cells ss w) number →
      TopmostStatement cells line ss (w ∷ ws) number line
  later : {line number at : ℕ} {ss : List Statement} {s : Statement} {ws : List (Option Statement)} →
      ((other : ℕ) → StatementCause cells ss (some s) other → ⊥) →
      TopmostStatement cells (suc line) (ss ++ (s ∷ [])) ws number at →
      TopmostStatement cells line ss (some s ∷ ws) number at

-- `netlist_topmost_lem`: of a text's lines and of records, each by its form.
abbrev pub NetlistTopmost : Type 0
NetlistTopmost =
    (cells : List Cell) (ws : List (Option Statement)) (number line : ℕ) →
    (admitted 1 cells [] ws ≡ refused number line) ↔ TopmostStatement cells 1 [] ws number line

-- ---- the library

-- "4 name used before; 5 pins not 1 to 8" (K1: 0 to 8); "9 a 33rd entry"
pub data NameCause (cells : List Cell) (h : Header) : ℕ → Type 0 where
  used : name_used h.name cells ≡ true → NameCause cells h No.name_used
  pins : pins_bad h.pins ≡ true → NameCause cells h No.pins_bad
  many : leb Size.cells (length cells) ≡ true → NameCause cells h No.cells_many

-- "6 wrong count of groups or a group above 16 rows; 7 a row with a bit above its columns; 8 a CC or SC row naming no pin, or a CO
-- or SO row without "observe the output""
pub data RowsCause (w : Word) (n : ℕ) (gs : List Group) : ℕ → Type 0 where
  groups : (not (eqb (length gs) (group_count w n)) || any_of above_rows gs) ≡ true → RowsCause w n gs No.groups_bad
  bits : any_of (any_of (above (column_count w n))) gs ≡ true → RowsCause w n gs No.bit_above
  idle : row_idle w n gs ≡ true → RowsCause w n gs No.row_idle

-- Bad form is 3, and then the only cause.
abbrev pub FormOr : {A : Type 0} → Option A → (A → ℕ → Type 0) → ℕ → Type 0
FormOr none Cause number = number ≡ No.library_form
FormOr (some a) Cause number = Cause a number

-- Of the fields of a line, by the line that is wanted at its place.
abbrev pub PlaceCause : List Cell → Place → Fields → ℕ → Type 0
PlaceCause cells outside fs number = FormOr (name_after fs) (NameCause cells) number
PlaceCause cells (inside (word_line w) c) fs number = FormOr (rows_after c.heading w fs) (RowsCause w c.pins) number
PlaceCause cells (inside end_line c) fs number = FormOr (end_after fs) (λ u m. ⊥) number

-- Of a line, which has fields where it has a good form at all.
abbrev pub LineCause : Reading → Option Fields → ℕ → Type 0
LineCause r l number = FormOr l (PlaceCause r.cells r.place) number

-- The first line that has a cause, the lines above it having been read. "An entry broken off by the end is 3 at the line after
-- the last."
pub data TopmostLine : (line : ℕ) → Reading → List (Option Fields) → (number at : ℕ) → Type 0 where
  here : {line number : ℕ} {r : Reading} {l : Option Fields} {ls : List (Option Fields)} →
      Least (LineCause r l) number →
      TopmostLine line r (l ∷ ls) number line
  later : {line number at : ℕ} {r next : Reading} {fs : Fields} {ls : List (Option Fields)} →
      library_line line r.cells r.place fs ≡ read next →
      TopmostLine (suc line) next ls number at →
      TopmostLine line r (some fs ∷ ls) number at
  broken_off : {line : ℕ} {r : Reading} {wanted : Wanted} {c : Cell} →
      r.place ≡ inside wanted c →
      TopmostLine line r [] No.library_form line

-- `library_topmost_lem`
abbrev pub LibraryTopmost : Type 0
LibraryTopmost =
    (text : List ℕ) (number line : ℕ) →
    (library text ≡ refused number line) ↔ TopmostLine 1 (record { cells = []; place = outside }) (lines text) number line
