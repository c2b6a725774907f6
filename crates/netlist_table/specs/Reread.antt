-- A netlist read again under another library. Document 02, K14. What is shown stands in proofs/Reread.antt.
use Rattle.std.specs.Prelude.{List, ◌⊎◌, ◌≡◌, ℕ, length}
use Rattle.reading.specs.Numbers as No
use Rattle.reading.specs.Refusal.{Read, refused, read}
use Rattle.library_table.specs.Cells.{Cell}
use Rattle.library_table.specs.Library.{cell_named}
use Rattle.netlist_table.specs.Netlist.{Statement, output, mentioned_lines, marked_lines, pins_at}
use Rattle.netlist_table.specs.Sound.{Sound}

-- To a netlist two libraries are the same: as many cells, by the same names in the same order, with as many pins each.
pub record SameEntries (cells more : List Cell) : Type 0 where
  pub count : length more ≡ length cells
  pub names : (name : List ℕ) → cell_named name more ≡ cell_named name cells
  pub pins : (k : ℕ) → pins_at more k ≡ pins_at cells k

-- Statements that mention the same lines and mark the same outputs, in the same order.
pub record SameLines (ss ts : List Statement) : Type 0 where
  pub mentioned : mentioned_lines ts ≡ mentioned_lines ss
  pub outputs : marked_lines output ts ≡ marked_lines output ss

abbrev pub ForCell : ℕ → Type 0
ForCell number = (number ≡ No.cell_unknown) ⊎ (number ≡ No.pins_differ)

-- What K14 asks of a netlist, a text by the names of its cells or a list of records by their index, as it is read under any
-- cells.
pub record Rereadable (given : List Cell → Read (List Statement)) : Type 0 where
  pub sound : (cells : List Cell) (ss : List Statement) → given cells ≡ read ss → Sound cells ss
  pub same : (cells more : List Cell) → SameEntries cells more → given more ≡ given cells
  pub lines : (cells more : List Cell) (ss ts : List Statement) → given cells ≡ read ss → given more ≡ read ts → SameLines ss ts
  -- What was read under some cells is refused under others for the cell of a gate alone: "12 unknown cell; 13 pin count differs".
  pub refuses : (cells more : List Cell) (ss : List Statement) → given cells ≡ read ss → (number line : ℕ)
      → given more ≡ refused number line → ForCell number
