-- What holds of each library that was read: the facts on which the parts behind the reader lean.
-- `proofs/Laws.antt` shows them of every text that is accepted.
use Rattle.std.specs.Prelude.{Bool, true, false, List, [], ◌≡◌, ℕ, ◌≤◌, ◌<◌, ◌^◌, ltb, length}
use Rattle.sizes.specs.Sizes as Size
use Rattle.text.specs.Numeral.{name_form}
use Rattle.library_table.specs.Cells.{deepest, Row, Group, Cell}
use Rattle.library_table.specs.declared.Word.{Word}
use Rattle.library_table.specs.declared.Word.TheVariants.{CC, CO, SC, SO}
use Rattle.library_table.specs.Library.{group_count, column_count, idle, excepted, word_groups, Place, outside, inside, Reading}
use Rattle.library_table.specs.declared.Wanted.{Wanted}
use Rattle.library_table.specs.declared.Wanted.TheVariants.{Rows as word_line, End as end_line}
use Rattle.reading.specs.Each.{Each}

-- A row of a line that has the groups `all`. "depth 0 to 7" (02, K2); no "bit above its columns"; not "a CC or SC row
-- naming no pin, or a CO or SO row without "observe the output"", where 8 does not except it.
pub record SoundRow (w : Word) (n : ℕ) (all : List Group) (r : Row) : Type 0 where
  pub depth : r.depth ≤ deepest
  pub within : r.columns < 2 ^ column_count w n
  pub useful : excepted w all ≡ false → idle w n r ≡ false

-- "a group of alternatives, 1 to 16 rows", or none
pub record SoundGroup (w : Word) (n : ℕ) (all : List Group) (g : Group) : Type 0 where
  pub most-rows : length g ≤ Size.rows
  pub rows : Each (SoundRow w n all) g

-- "CC and SC have two groups (output to 0, output to 1), CO and SO one for each pin."
pub record SoundGroups (w : Word) (n : ℕ) (gs : List Group) : Type 0 where
  pub count : length gs ≡ group_count w n
  pub groups : Each (SoundGroup w n gs) gs

-- "A cell has a name (1 to 8 bytes of A–Z, 0–9) and n pins", at most 8 of them.
pub record SoundHeader (name : List ℕ) (pins : ℕ) : Type 0 where
  pub form : name_form name ≡ true
  pub most-pins : pins ≤ Size.pins

pub record SoundCell (c : Cell) : Type 0 where
  pub header : SoundHeader c.name c.pins
  pub cc : SoundGroups CC c.pins c.cc
  pub co : SoundGroups CO c.pins c.co
  pub sc : SoundGroups SC c.pins c.sc
  pub so : SoundGroups SO c.pins c.so

-- "A library has at most 32 entries"
pub record Sound (cells : List Cell) : Type 0 where
  pub few : length cells ≤ Size.cells
  pub each : Each SoundCell cells

-- ---- while a text is read

-- Places by number: 0 outside an entry, then its lines in order, the End line last.
abbrev pub word_number : Word → ℕ
word_number CC = 1
word_number CO = 2
word_number SC = 3
word_number SO = 4

abbrev pub end_number : ℕ
end_number = 5

abbrev pub wanted_number : Wanted → ℕ
wanted_number (word_line w) = word_number w
wanted_number end_line = end_number

-- A word's groups, sound where its line was read, and none where it is still to come.
abbrev pub SoundSoFar : Bool → Word → Cell → Type 0
SoundSoFar true w c = SoundGroups w c.pins (word_groups w c)
SoundSoFar false w c = word_groups w c ≡ []

abbrev pub SoundAt : Wanted → Word → Cell → Type 0
SoundAt wanted w c = SoundSoFar (ltb (word_number w) (wanted_number wanted)) w c

-- The cell that is being read behind so many cells: there is space for it.
pub record SoundEntry (n : ℕ) (wanted : Wanted) (c : Cell) : Type 0 where
  pub space : n < Size.cells
  pub header : SoundHeader c.name c.pins
  pub cc : SoundAt wanted CC c
  pub co : SoundAt wanted CO c
  pub sc : SoundAt wanted SC c
  pub so : SoundAt wanted SO c

unfoldable pub SoundPlace : ℕ → Place → Type 0
SoundPlace n outside = Unit {0}
SoundPlace n (inside wanted c) = SoundEntry n wanted c

pub record SoundReading (r : Reading) : Type 0 where
  pub cells : Sound r.cells
  pub entry : SoundPlace (length r.cells) r.place
