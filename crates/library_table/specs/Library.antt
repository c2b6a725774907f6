-- The library text: its six lines an entry, and where it stops. Document 01, "Cells" and "Where a text stops", library line.
use Rattle.std.specs.Prelude.{Bool, true, false, not, ◌&&◌, ◌||◌, List, [], ◌∷◌, ◌++◌, ℕ, suc, ◌+◌, ◌*◌, ◌^◌, leb, ltb, eqb, length}
use Rattle.std.proofs.Math.Option.{Option, none, some}
use Rattle.sizes.specs.Sizes as Size
use Rattle.reading.specs.Numbers as No
use Rattle.text.specs.Bytes.{bytes, bytes_open}
use Rattle.reading.specs.Choice.{pick}
use Rattle.text.specs.Lines.{lines, same_bytes, lines_open}
use Rattle.text.specs.Numeral.{numeral, value, decimal, name_form, numeral_open}
use Rattle.reading.specs.Refusal.{Read, refused, read, weigh, form, refusal_open, ◌>>=◌, ◌>>◌}
use Rattle.library_table.specs.Cells.{Row, row_of, Group, Cell, bit, cells_open}
use Rattle.library_table.specs.declared.Heading.{Heading}
use Rattle.library_table.specs.declared.Heading.TheVariants.{Plain as plain, Deep as deep}
use Rattle.library_table.specs.declared.Word.{Word}
use Rattle.library_table.specs.declared.Word.TheVariants.{CC, CO, SC, SO}
use Rattle.library_table.specs.declared.Before.{Before}
use Rattle.library_table.specs.declared.Before.TheVariants.{Word as word, Row as row, Join as join}
use Rattle.library_table.specs.declared.Wanted.{Wanted}
use Rattle.library_table.specs.declared.Wanted.TheVariants.{Rows as word_line, End as end_line}

-- A line by its fields.
abbrev pub Fields : Type 0
Fields = List (List ℕ)

-- ---- the rows of a line

unfoldable pub holds : {A : Type 0} → Option A → Bool
holds none = false
holds (some a) = true

-- "A row is an octal number without leading zeros (0 itself is well formed), 1 to 7 digits"; in an entry that begins with
-- `Name3` "rows up to 8 digits" (02, K2).
unfoldable pub row_digits : Heading → ℕ
row_digits plain = Size.row_digits
row_digits deep = Size.deep_digits

unfoldable pub is_row : Heading → List ℕ → Bool
is_row h f = holds (numeral 8 (row_digits h) f)

unfoldable pub is_join : List ℕ → Bool
is_join f = same_bytes f (bytes "M")

-- "A group may be the single letter Z, meaning no row: that value or pin has no plan." (02, K1)
unfoldable pub is_z : List ℕ → Bool
is_z f = same_bytes f (bytes "Z")

-- A row or an M in its place: an M stands between two rows.
unfoldable pub may_join : Before → Bool
may_join word = false
may_join row = true
may_join join = false

unfoldable pub may_end : Before → Bool
may_end word = true
may_end row = true
may_end join = false

-- "a line or an M out of place is bad form": the fields after a line's word are rows, with an M only between two rows, and
-- Zs, each a group by itself: no M stands before it, and none behind it.
unfoldable pub rows_form : Heading → Before → Fields → Bool
rows_form h b [] = may_end b
rows_form h b (f ∷ fs) =
    pick (is_join f) (may_join b && rows_form h join fs)
    (pick (is_z f) (may_end b && rows_form h word fs) (is_row h f && rows_form h row fs))

unfoldable pub join_first : Fields → Bool
join_first [] = false
join_first (f ∷ fs) = is_join f

unfoldable pub with_row : Bool → Row → List Group → List Group
with_row false r gs = (r ∷ []) ∷ gs
with_row true r [] = (r ∷ []) ∷ []
with_row true r (g ∷ gs) = (r ∷ g) ∷ gs

-- "Rows joined by M form a group of alternatives": a row before an M stands in the group of the row behind it. A Z is a
-- group of no row.
unfoldable pub groups_of : Heading → Fields → List Group
groups_of h [] = []
groups_of h (f ∷ fs) =
    pick (is_join f) (groups_of h fs)
    (pick (is_z f) ([] ∷ groups_of h fs) (with_row (join_first fs) (row_of h (value 8 0 f)) (groups_of h fs)))

-- ---- refusals 6, 7 and 8, of the groups of a line

unfoldable pub any_of : {A : Type 0} → (A → Bool) → List A → Bool
any_of p [] = false
any_of p (x ∷ xs) = p x || any_of p xs

-- "a group above 16 rows"
unfoldable pub above_rows : Group → Bool
above_rows g = ltb Size.rows (length g)

-- "a row with a bit above its columns": a CC or SC row has 2n columns, a CO or SO row three more.
unfoldable pub above : ℕ → Row → Bool
above width r = leb (2 ^ width) r.columns

-- "a CC or SC row naming no pin" (7 comes first, so that each bit set is a pin's)
unfoldable pub names_none : Row → Bool
names_none r = eqb r.columns 0

-- "a CO or SO row without "observe the output""
unfoldable pub observes_not : ℕ → Row → Bool
observes_not n r = not (bit r.columns (2 * n + 2))

-- ---- the six lines of an entry

unfoldable pub word_bytes : Word → List ℕ
word_bytes CC = bytes "CC"
word_bytes CO = bytes "CO"
word_bytes SC = bytes "SC"
word_bytes SO = bytes "SO"

-- "CC and SC have two groups (output to 0, output to 1), CO and SO one for each pin."
unfoldable pub group_count : Word → ℕ → ℕ
group_count CC n = 2
group_count CO n = n
group_count SC n = 2
group_count SO n = n

unfoldable pub column_count : Word → ℕ → ℕ
column_count CC n = 2 * n
column_count CO n = 2 * n + 3
column_count SC n = 2 * n
column_count SO n = 2 * n + 3

unfoldable pub idle : Word → ℕ → Row → Bool
idle CC n = names_none
idle CO n = observes_not n
idle SC n = names_none
idle SO n = observes_not n

-- A group without a row.
unfoldable pub empty_group : Group → Bool
empty_group g = eqb (length g) 0

-- "A CC or SC row may name no pin when the other group of its line is Z; refusal 8 excepts it." (02, K1) A row's own group has
-- a row, so that where one of the line's two groups has none, it is the other one; 6 comes before 8, so that they are two.
unfoldable pub excepted : Word → List Group → Bool
excepted CC gs = any_of empty_group gs
excepted CO gs = false
excepted SC gs = any_of empty_group gs
excepted SO gs = false

unfoldable pub row_idle : Word → ℕ → List Group → Bool
row_idle w n gs = not (excepted w gs) && any_of (any_of (idle w n)) gs

-- The groups of a line that starts with this word; none is bad form.
unfoldable pub rows_after : Heading → Word → Fields → Option (List Group)
rows_after h w [] = none
rows_after h w (f ∷ fs) = pick (same_bytes f (word_bytes w) && rows_form h word fs) (some (groups_of h fs)) none

unfoldable pub row_line : ℕ → Heading → Word → ℕ → Fields → Read (List Group)
row_line line h w n fs = do
  gs ← form No.library_form line (rows_after h w fs)
  weigh line
      ((No.groups_bad, not (eqb (length gs) (group_count w n)) || any_of above_rows gs)
      ∷ (No.bit_above, any_of (any_of (above (column_count w n))) gs)
      ∷ (No.row_idle, row_idle w n gs)
      ∷ [])
  read gs

pub record Header : Type 0 where
  pub name : List ℕ
  pub pins : ℕ
  pub heading : Heading

unfoldable pub heading_of : List ℕ → Option Heading
heading_of f = pick (same_bytes f (bytes "Name")) (some plain) (pick (same_bytes f (bytes "Name3")) (some deep) none)

unfoldable pub header_of : Option Heading → List ℕ → Option ℕ → Option Header
header_of none name n = none
header_of (some h) name none = none
header_of (some h) name (some n) = pick (name_form name) (some (record { name = name; pins = n; heading = h })) none

-- `Name,NAME,n` and `Name3,NAME,n`
unfoldable pub name_after : Fields → Option Header
name_after [] = none
name_after (f ∷ []) = none
name_after (f ∷ (name ∷ [])) = none
name_after (f ∷ (name ∷ (n ∷ []))) = header_of (heading_of f) name (decimal n)
name_after (f ∷ (name ∷ (n ∷ (x ∷ xs)))) = none

unfoldable pub end_after : Fields → Option (Unit {0})
end_after [] = none
end_after (f ∷ []) = pick (same_bytes f (bytes "End")) (some tt) none
end_after (f ∷ (x ∷ xs)) = none

-- The place of a name among the cells, from 0; the count of cells where it is not among them.
unfoldable pub cell_named : List ℕ → List Cell → ℕ
cell_named name [] = 0
cell_named name (c ∷ cs) = pick (same_bytes name c.name) 0 (suc (cell_named name cs))

-- "4 name used before"
unfoldable pub name_used : List ℕ → List Cell → Bool
name_used name cells = ltb (cell_named name cells) (length cells)

-- "5 pins not 1 to 8", and (02, K1) "Pin counts now run from 0 to 8, and refusal 5 reads so."
unfoldable pub pins_bad : ℕ → Bool
pins_bad n = ltb Size.pins n

unfoldable pub name_line : ℕ → List Cell → Fields → Read Header
name_line line cells fs = do
  h ← form No.library_form line (name_after fs)
  weigh line
      ((No.name_used, name_used h.name cells)
      ∷ (No.pins_bad, pins_bad h.pins)
      ∷ (No.cells_many, leb Size.cells (length cells))
      ∷ [])
  read h

-- "The six lines of an entry stand in the order shown": the line that an entry wants behind its Name line, `Wanted`.
unfoldable pub line_after : Word → Wanted
line_after CC = word_line CO
line_after CO = word_line SC
line_after SC = word_line SO
line_after SO = end_line

-- Outside an entry, or in one that wants a line, with what is read of its cell.
pub data Place : Type 0 where
  outside : Place
  inside : Wanted → Cell → Place

pub record Reading : Type 0 where
  pub cells : List Cell
  pub place : Place

unfoldable pub begun : Header → Cell
begun h = record { name = h.name; pins = h.pins; heading = h.heading; cc = []; co = []; sc = []; so = [] }

-- The groups of a cell that stand behind a word, and the cell with others in their place.
unfoldable pub word_groups : Word → Cell → List Group
word_groups CC c = c.cc
word_groups CO c = c.co
word_groups SC c = c.sc
word_groups SO c = c.so

unfoldable pub with_groups : Word → List Group → Cell → Cell
with_groups CC gs c = record { name = c.name; pins = c.pins; heading = c.heading; cc = gs; co = c.co; sc = c.sc; so = c.so }
with_groups CO gs c = record { name = c.name; pins = c.pins; heading = c.heading; cc = c.cc; co = gs; sc = c.sc; so = c.so }
with_groups SC gs c = record { name = c.name; pins = c.pins; heading = c.heading; cc = c.cc; co = c.co; sc = gs; so = c.so }
with_groups SO gs c = record { name = c.name; pins = c.pins; heading = c.heading; cc = c.cc; co = c.co; sc = c.sc; so = gs }

unfoldable pub library_line : ℕ → List Cell → Place → Fields → Read Reading
library_line line cells outside fs = do
  h ← name_line line cells fs
  read (record { cells = cells; place = inside (word_line CC) (begun h) })
library_line line cells (inside (word_line w) c) fs = do
  gs ← row_line line c.heading w c.pins fs
  read (record { cells = cells; place = inside (line_after w) (with_groups w gs c) })
library_line line cells (inside end_line c) fs = do
  form No.library_form line (end_after fs)
  read (record { cells = cells ++ (c ∷ []); place = outside })

-- "An entry broken off by the end is 3 at the line after the last."
unfoldable pub library_end : ℕ → List Cell → Place → Read (List Cell)
library_end line cells outside = read cells
library_end line cells (inside wanted c) = refused No.library_form line

unfoldable pub library_from : ℕ → Reading → List (Option Fields) → Read (List Cell)
library_from line r [] = library_end line r.cells r.place
library_from line r (l ∷ ls) = do
  fs ← form No.library_form line l
  next ← library_line line r.cells r.place fs
  library_from (suc line) next ls

-- "Lines count from 1 in each text."
unfoldable pub library : List ℕ → Read (List Cell)
library t = library_from 1 (record { cells = []; place = outside }) (lines t)

-- Opens the page's definitions, where a figure computes with them.
unfoldable pub library_open : ℕ
unfolding bytes_open lines_open numeral_open refusal_open cells_open holds row_digits is_row is_join is_z may_join may_end rows_form join_first with_row groups_of any_of above_rows above names_none observes_not word_bytes group_count column_count idle empty_group excepted row_idle rows_after row_line heading_of header_of name_after end_after cell_named name_used pins_bad name_line line_after begun word_groups with_groups library_line library_end library_from library
library_open = 0
