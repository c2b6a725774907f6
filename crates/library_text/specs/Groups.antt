-- The groups of a row line behind some of its fields, as the code keeps them, and the refusal number of the line.
-- `library_text/proofs/Passes.antt` ties them to the definitions of `library_table/specs/Library.antt`, which are the ones to
-- read against document 01, and `library_text/proofs/Stores.antt` to the layout of the table.
use Rattle.std.specs.Prelude.{Bool, true, not, ◌&&◌, ◌||◌, List, ℕ, ◌+◌, ◌*◌, ◌≤◌, max, min, leb, ltb, eqb, set}
use Rattle.sizes.specs.Sizes as Size
use Rattle.reading.specs.Numbers as No
use Rattle.reading.specs.Choice.{pick}
use Rattle.library_table.specs.Cells.{Row}
use Rattle.library_table.specs.Library.{may_end}
use Rattle.library_table.specs.declared.Before.{Before}
use Rattle.library_table.specs.declared.Before.TheVariants.{Word as word, Row as row}
use Rattle.library_text.specs.declared.groups.Asked.{Asked}
use Rattle.library_text.specs.declared.groups.Passed.{Passed}

-- ---- stores

-- A row put behind so many others of the group at a place of the table.
unfoldable pub row_put : ℕ → ℕ → Row → List ℕ → List ℕ
row_put place rows r table =
    set (set (set table place (rows + 1)) (place + 1 + 2 * rows) r.depth) (place + 2 + 2 * rows) r.columns

-- A group of no row at a place of the table.
unfoldable pub rowless_put : ℕ → List ℕ → List ℕ
rowless_put place table = set table place 0

-- The farthest place that a group can have: a line has no more fields than a text has bytes, and one.
abbrev pub farthest : ℕ
farthest = Size.library + Size.cell_words + Size.group_words * Size.text_bytes

-- ---- one field more

-- A field that is no row: what stands before the next one, and whether a field so far is out of place.
unfoldable pub marked : Passed → Before → Bool → Passed
marked p before bad = record p { before = before; bad = bad }

-- One group more, of no row yet.
unfoldable pub opened : Asked → Passed → Passed
opened a p = record p { groups = p.groups + 1; rows = 0; place = a.place + p.groups * Size.group_words }

-- The group that a row goes into: the open one where an M stands before the row, else a new one.
unfoldable pub group_for : Asked → Passed → Passed
group_for a p = pick (may_end p.before) (opened a p) p

-- A row more in the open group, by its columns.
unfoldable pub row_added : Passed → ℕ → Passed
row_added p columns =
    record p {
      before = row;
      rows = p.rows + 1;
      longest = max p.longest (p.rows + 1);
      most = max p.most columns;
      least = min p.least columns;
    }

-- A new group that stays without a row; behind it as behind the line's word. Behind an M it is out of place.
unfoldable pub rowless_added : Asked → Passed → Passed
rowless_added a p = record (opened a p) { before = word; bad = p.bad || not (may_end p.before); rowless = true }

-- Counts and places that are small behind so many bytes.
pub record Small (a : Asked) (p : Passed) (m : ℕ) : Type 0 where
  pub groups : p.groups ≤ m
  pub rows : p.rows ≤ m
  pub place : p.place ≤ a.place + Size.group_words * m

-- What a line of a text can come to, behind a place at which a cell's groups may start.
abbrev pub InTable : Asked → Passed → Type 0
InTable a p = (a.place ≤ Size.library + Size.cell_words) × Small a p Size.text_bytes

-- ---- the number

-- The lowest number that holds, 0 where none does.
unfoldable pub number_of : Asked → Passed → ℕ
number_of a p =
    pick (p.bad || not (may_end p.before)) No.library_form
    (pick (not (eqb p.groups a.groups) || ltb Size.rows p.longest) No.groups_bad
    (pick (leb a.limit p.most) No.bit_above
    (pick (not (a.excepts && p.rowless) && ltb p.least a.least) No.row_idle 0)))
