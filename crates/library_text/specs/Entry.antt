-- The reader as a call of its own: the entry, what it answers, and what it leaves in the lent table. Document 01, "Where a
-- text stops", entry.
use Rattle.std.specs.Prelude.{List, [], ◌∷◌, ℕ, ltb, length}
use Rattle.sizes.specs.Sizes as Size
use Rattle.reading.specs.Numbers as No
use Rattle.reading.specs.Refusal.{Read, refused, read, ◌>>◌, weigh}
use Rattle.library_table.specs.Cells.{Cell}
use Rattle.library_table.specs.Library.{library}
use Rattle.library_table.specs.Layout.{library_after}

-- "entry (line 0)": "1 a lent table below its published size; 2 a text above 65,535 bytes", by the lengths of both.
unfoldable pub library_entry : ℕ → ℕ → Read (Unit {0})
library_entry text table =
    weigh 0 ((No.table_short, ltb table Size.library) ∷ (No.text_long, ltb Size.text_bytes text) ∷ [])

-- Entry first, then the text, into a table of so many numbers.
unfoldable pub read_library : List ℕ → ℕ → Read (List Cell)
read_library text table = library_entry (length text) table >> library text

-- The table behind an entry and a reading: "Entry refusals leave lent memory untouched".
unfoldable pub left_behind : Read (Unit {0}) → Read (List Cell) → List ℕ → List ℕ
left_behind (refused number line) o before = before
left_behind (read u) o before = library_after o before

unfoldable pub library_left : List ℕ → List ℕ → List ℕ
library_left text before = left_behind (library_entry (length text) (length before)) (library text) before
