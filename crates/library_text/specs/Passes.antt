-- The walk over a row line, field by field from the left, as the code makes it, and the refusal number of the line.
-- `proofs/Passes.antt` ties them to the definitions of `library_table/specs/Library.antt`, which are the ones to read against
-- document 01, and `proofs/Stores.antt` to the layout of the table.
use Rattle.std.specs.Prelude.{Bool, true, false, not, ◌||◌, List, [], ◌∷◌, ◌≡◌, ℕ, ◌+◌, ◌*◌, ◌^◌, eqb, length, drop}
use Rattle.std.proofs.Math.Option.{Option, none, some}
use Rattle.sizes.specs.Places.{group_place}
use Rattle.sizes.specs.Sizes as Size
use Rattle.table.specs.Blocks.{fitted, blocks}
use Rattle.reading.specs.Numbers as No
use Rattle.reading.specs.Choice.{pick}
use Rattle.text.specs.Numeral.{numeral}
use Rattle.library_table.specs.Cells.{Row, row_of, Cell}
use Rattle.library_table.specs.declared.Heading.{Heading}
use Rattle.library_table.specs.declared.Word.{Word}
use Rattle.library_table.specs.declared.Word.TheVariants.{CC, CO, SC, SO}
use Rattle.library_table.specs.Library.{Fields, holds, row_digits, is_row, is_join, is_z, may_join, above, group_count, column_count, row_idle, rows_after, groups_of, any_of, above_rows}
use Rattle.library_table.specs.declared.Before.TheVariants.{Word as word, Join as join}
use Rattle.library_table.specs.Layout.{first_group, cell_words}
use Rattle.library_text.specs.Groups.{row_put, rowless_put, marked, group_for, row_added, rowless_added}
use Rattle.library_text.specs.declared.groups.Asked.{Asked}
use Rattle.library_text.specs.declared.groups.Passed.{Passed}

-- ---- a field

unfoldable pub or_zero : Option ℕ → ℕ
or_zero none = 0
or_zero (some v) = v

-- The number that a row is written as, 0 where the field is no row; and the row.
unfoldable pub field_value : Heading → List ℕ → ℕ
field_value h f = or_zero (numeral 8 (row_digits h) f)

unfoldable pub field_row : Heading → List ℕ → Row
field_row h f = row_of h (field_value h f)

-- ---- what a row line is asked for

-- The lowest columns of a row that names a pin, or observes the output, where no bit is above its columns: 8 is judged after 7.
unfoldable pub least_columns : Word → ℕ → ℕ
least_columns CC n = 1
least_columns CO n = 2 ^ (2 * n + 2)
least_columns SC n = 1
least_columns SO n = 2 ^ (2 * n + 2)

-- CC and SC rows set the output, CO and SO rows observe a pin.
unfoldable pub setting : Word → Bool
setting CC = true
setting CO = false
setting SC = true
setting SO = false

-- Of a cell, a heading, a word and so many pins.
unfoldable pub asked_of : ℕ → Heading → Word → ℕ → Asked
asked_of cell h w n =
    record {
      place = group_place cell (first_group w);
      groups = group_count w n;
      excepts = setting w;
      heading = h;
      least = least_columns w n;
      limit = 2 ^ column_count w n;
    }

-- ---- stores

-- A table that counts so many cells and holds these: a cell is not counted before its End line.
unfoldable pub counted_words : ℕ → List Cell → List ℕ
counted_words n cells = n ∷ fitted 0 (Size.cells * Size.cell_words) (blocks cell_words cells)

-- ---- the walk

-- The least columns where no row is passed: above those of every row.
abbrev pub no_columns : ℕ
no_columns = 4294967295

-- Before the first field behind the line's word.
abbrev pub none_passed : Passed
none_passed =
    record { before = word; groups = 0; rows = 0; place = 0; bad = false; rowless = false; longest = 0; most = 0; least = no_columns }

-- An M is out of place unless a row stands before it, a Z where an M does; what is none of the three always is.
unfoldable pub field_passed : Asked → Passed → List ℕ → Passed
field_passed a p f =
    pick (is_join f) (marked p join (p.bad || not (may_join p.before)))
    (pick (is_z f) (rowless_added a p)
    (pick (is_row a.heading f) (row_added (group_for a p) (field_row a.heading f).columns) (marked p p.before true)))

unfoldable pub passed : Asked → Passed → Fields → Passed
passed a p [] = p
passed a p (f ∷ fs) = passed a (field_passed a p f) fs

-- The table behind it.
unfoldable pub field_stored : Asked → Passed → List ℕ → List ℕ → List ℕ
field_stored a p f table =
    pick (is_join f) table
    (pick (is_z f) (rowless_put (rowless_added a p).place table)
    (pick (is_row a.heading f) (row_put (group_for a p).place (group_for a p).rows (field_row a.heading f) table) table))

unfoldable pub stored : Asked → Passed → Fields → List ℕ → List ℕ
stored a p [] table = table
stored a p (f ∷ fs) table = stored a (field_passed a p f) fs (field_stored a p f table)

-- ---- the lines

-- The refusal number of a line, 0 where it has none.
unfoldable pub row_number : Heading → Word → ℕ → Fields → ℕ
row_number h w n fs =
    pick (holds (rows_after h w fs))
    (pick (not (eqb (length (groups_of h (drop 1 fs))) (group_count w n)) || any_of above_rows (groups_of h (drop 1 fs))) No.groups_bad
    (pick (any_of (any_of (above (column_count w n))) (groups_of h (drop 1 fs))) No.bit_above
    (pick (row_idle w n (groups_of h (drop 1 fs))) No.row_idle 0)))
    No.library_form

-- A row line that was read: its number, and where it has none, the table with its rows.
pub record RowsRead (cell : ℕ) (h : Heading) (w : Word) (n : ℕ) (fs : Fields) (before after : List ℕ) (said : ℕ) : Type 0 where
  pub number : said ≡ row_number h w n fs
  pub table : said ≡ 0 → after ≡ stored (asked_of cell h w n) none_passed (drop 1 fs) before
