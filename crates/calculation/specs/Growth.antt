-- A library that differs from another "only by rows added to groups". Document 02, K14.
use Rattle.std.specs.Prelude.{Bool, true, false, not, ◌&&◌, ◌||◌, List, [], ◌∷◌, eqb}
use Rattle.reading.specs.Choice.{pick}
use Rattle.text.specs.Lines.{same_bytes}
use Rattle.library_table.specs.Cells.{Row, Group, Cell}
use Rattle.library_table.specs.declared.Heading.{Heading}
use Rattle.library_table.specs.declared.Heading.TheVariants.{Plain as plain, Deep as deep}
use Rattle.calculation.specs.Ways.{one_wire}

-- Rows are the same by depth and columns.
unfoldable pub same_row : Row → Row → Bool
same_row r s = eqb r.depth s.depth && eqb r.columns s.columns

-- "rows added to groups, perhaps none, the old rows keeping their order": each old row is found behind the one before it.
unfoldable pub keeps : Group → Group → Bool
keeps [] new = true
keeps (r ∷ old) [] = false
keeps (r ∷ old) (s ∷ new) = pick (same_row r s) (keeps old new) (keeps (r ∷ old) new)

-- As many, and each so with its like.
unfoldable pub pairwise : {A : Type 0} → (A → A → Bool) → List A → List A → Bool
pairwise p [] [] = true
pairwise p [] (y ∷ ys) = false
pairwise p (x ∷ xs) [] = false
pairwise p (x ∷ xs) (y ∷ ys) = p x y && pairwise p xs ys

unfoldable pub same_heading : Heading → Heading → Bool
same_heading plain plain = true
same_heading plain deep = false
same_heading deep plain = false
same_heading deep deep = true

-- "the same entries": name, pins and heading.
unfoldable pub same_entry : Cell → Cell → Bool
same_entry c d = same_bytes c.name d.name && (eqb c.pins d.pins && same_heading c.heading d.heading)

-- "no cell may lose the one-wire reading of tied pins"
unfoldable pub grown_cell : Cell → Cell → Bool
grown_cell c d =
    same_entry c d
    && ((pairwise keeps c.cc d.cc
    && (pairwise keeps c.sc d.sc && (pairwise keeps c.co d.co && pairwise keeps c.so d.so)))
    && (not (one_wire c) || one_wire d))

-- "the same entries in the same order"
unfoldable pub grown : List Cell → List Cell → Bool
grown old new = pairwise grown_cell old new
