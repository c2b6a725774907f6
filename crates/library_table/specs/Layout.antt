-- The library table: how it holds the cells that were read. The layout is the builder's (docs/TABLES.md has it in words).
-- The laws that say what stands at a place are in `proofs/Places.antt`.
use Rattle.std.specs.Prelude.{Bool, true, ◌&&◌, List, [], ◌∷◌, ◌++◌, ◌≡◌, ℕ, zero, suc, ◌+◌, ◌*◌, ◌≤◌, ◌<◌, leb, eqb, length, get_or, replicate, drop}
use Rattle.sizes.specs.Places.{cell_place, pins_place}
use Rattle.sizes.specs.Sizes as Size
use Rattle.table.specs.Blocks.{fitted, blocks}
use Rattle.reading.specs.Choice.{pick}
use Rattle.reading.specs.Each.{Each}
use Rattle.reading.specs.Refusal.{Read, refused, read}
use Rattle.library_table.specs.Cells.{Row, Group, Cell}
use Rattle.library_table.specs.declared.Heading.{Heading}
use Rattle.library_table.specs.declared.Heading.TheVariants.{Plain as plain, Deep as deep}
use Rattle.library_table.specs.declared.Word.{Word}
use Rattle.library_table.specs.declared.Word.TheVariants.{CC, CO, SC, SO}
use Rattle.library_table.specs.Library.{cell_named}

-- Two numbers a row, the depth apart from the columns; a group has its count of rows first, then its rows.
unfoldable pub row_words : Row → List ℕ
row_words r = r.depth ∷ r.columns ∷ []

unfoldable pub group_words : Group → List ℕ
group_words g = length g ∷ fitted 0 (Size.rows * Size.row_words) (blocks row_words g)

-- The groups of a cell, filled up with groups of no row: two of CC, two of SC, one for each pin of CO and of SO.
unfoldable pub cell_groups : Cell → List Group
cell_groups c = fitted [] 2 c.cc ++ (fitted [] 2 c.sc ++ (fitted [] Size.pins c.co ++ fitted [] Size.pins c.so))

-- The place of a word's first group among them.
unfoldable pub first_group : Word → ℕ
first_group CC = Size.cc_group
first_group SC = Size.sc_group
first_group CO = Size.co_group
first_group SO = Size.so_group

-- A heading as a number.
unfoldable pub heading_number : Heading → ℕ
heading_number plain = 0
heading_number deep = 1

-- The heading that a number of a table tells: `Name` at 0, `Name3` at any other.
unfoldable pub heading_told : ℕ → Heading
heading_told number = pick (eqb number 0) plain deep

-- A cell: the length of its name, its name filled up, its pins, its heading, its groups.
unfoldable pub cell_words : Cell → List ℕ
cell_words c = length c.name ∷ (fitted 0 Size.name_bytes c.name ++ (c.pins ∷ heading_number c.heading ∷ blocks group_words (cell_groups c)))

-- The count of cells, then the cells: the published size.
unfoldable pub library_words : List Cell → List ℕ
library_words cells = length cells ∷ fitted 0 (Size.cells * Size.cell_words) (blocks cell_words cells)

-- What reading leaves in the lent table: all zero after a refusal; else the cells in the published size, and what stood
-- past it.
unfoldable pub library_after : Read (List Cell) → List ℕ → List ℕ
library_after (refused number line) before = replicate (length before) 0
library_after (read cells) before = library_words cells ++ drop Size.library before

-- ---- what a table holds

-- A name, and pins, that the layout has space for.
unfoldable pub ShortName : Cell → Type 0
ShortName c = length c.name ≤ Size.name_bytes

unfoldable pub FewPins : Cell → Type 0
FewPins c = c.pins ≤ Size.pins

-- Cells that the layout holds whole: "A library has at most 32 entries", names of at most 8 bytes, at most 8 pins. Each
-- library that was read is such.
pub record Fits (cells : List Cell) : Type 0 where
  pub few : length cells ≤ Size.cells
  pub short : Each ShortName cells
  pub narrow : Each FewPins cells

-- A table that holds the cells in its published size.
pub record LibraryHolds (table : List ℕ) (cells : List Cell) : Type 0 where
  pub past : List ℕ
  pub words : table ≡ library_words cells ++ past
  pub fits : Fits cells

-- Whether these bytes stand in a table from a place on.
unfoldable pub bytes_at : List ℕ → List ℕ → ℕ → Bool
bytes_at [] table at = true
bytes_at (b ∷ f) table at = eqb b (get_or table at 0) && bytes_at f table (suc at)

-- Whether a cell of the table has this name, byte for byte.
unfoldable pub name_at : List ℕ → List ℕ → ℕ → Bool
name_at name table k = eqb (get_or table (cell_place k) 0) (length name) && bytes_at name table (cell_place k + 1)

-- The first of `left` cells from cell k on that has this name; the cell behind them where none has it.
unfoldable pub found_from : List ℕ → List ℕ → (k left : ℕ) → ℕ
found_from name table k zero = k
found_from name table k (suc left) = pick (name_at name table k) k (found_from name table (suc k) left)

-- The place of a name among the cells that a table counts, from 0; their count where it is not among them.
unfoldable pub found_at : List ℕ → List ℕ → ℕ
found_at name table = found_from name table 0 (get_or table 0 0)

-- ---- what any table tells

-- Cells of which a table tells all that a netlist asks: how many they are, where each name stands among them, and the pins of
-- each, at most as many as the layout has space for.
pub record CellsTold (table : List ℕ) (cells : List Cell) : Type 0 where
  pub count : get_or table 0 0 ≡ length cells
  pub named : (name : List ℕ) → found_at name table ≡ cell_named name cells
  pub pins : (k : ℕ) → k < length cells → (d : Cell) → get_or table (pins_place k) 0 ≡ (get_or cells k d).pins
  pub narrow : Each FewPins cells

-- So many numbers of a table from a place on; 0 past its end.
unfoldable pub words_from : List ℕ → (at left : ℕ) → List ℕ
words_from table at zero = []
words_from table at (suc left) = get_or table at 0 ∷ words_from table (suc at) left

-- The cell at a place of any table, as far as a netlist asks: its name and its pins.
unfoldable pub cell_in : List ℕ → ℕ → Cell
cell_in table k =
    record {
      name = words_from table (cell_place k + 1) (get_or table (cell_place k) 0);
      pins = get_or table (pins_place k) 0;
      heading = plain;
      cc = [];
      co = [];
      sc = [];
      so = [];
    }

unfoldable pub cells_from : List ℕ → (k left : ℕ) → List Cell
cells_from table k zero = []
cells_from table k (suc left) = cell_in table k ∷ cells_from table (suc k) left

-- Whether each of so many cells from cell k on has at most 8 pins.
unfoldable pub narrow_from : List ℕ → (k left : ℕ) → Bool
narrow_from table k zero = true
narrow_from table k (suc left) = leb (get_or table (pins_place k) 0) Size.pins && narrow_from table (suc k) left

-- Whether a table counts at most 32 cells, each with at most 8 pins.
unfoldable pub cells_fit : List ℕ → Bool
cells_fit table = leb (get_or table 0 0) Size.cells && narrow_from table 0 (get_or table 0 0)

-- The cells of any table: those that it counts, and none where these are more, or have more pins, than cells of a library.
unfoldable pub cells_in : List ℕ → List Cell
cells_in table = pick (cells_fit table) (cells_from table 0 (get_or table 0 0)) []

-- A part of a table that tells of the table's cells: of any table of those above, and of a table that holds cells of these.
pub record TellsCells (table part : List ℕ) : Type 0 where
  pub any : CellsTold part (cells_in table)
  pub holds : (cells : List Cell) → LibraryHolds table cells → CellsTold part cells
