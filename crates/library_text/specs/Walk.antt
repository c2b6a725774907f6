-- How the table and the reader's state stand while a library text is read.
use Rattle.std.specs.Prelude.{List, [], ◌∷◌, ◌++◌, ◌≡◌, ℕ, ◌≤◌, length, drop, Option, Some, None, Result, Ok, Err, IfSome}
use Rattle.sizes.specs.Sizes as Size
use Rattle.reading.specs.Cause.{cause_number}
use Rattle.reading.specs.Refusal.{Read, refused, read}
use Rattle.reading.specs.declared.Cause.{Cause}
use Rattle.text.specs.Lines.{fields}
use Rattle.library_table.specs.Cells.{Cell}
use Rattle.library_table.specs.declared.Wanted.{Wanted}
use Rattle.library_table.specs.Library.{Place, outside, inside, Reading, library_line}
use Rattle.library_table.specs.Layout.{library_words}
use Rattle.library_table.specs.Sound.{SoundReading}
use Rattle.library_text.specs.Passes.{counted_words}
use Rattle.library_text.specs.declared.Head.{Head}
use Rattle.library_text.specs.declared.lines.Entry.{Entry}
use Rattle.library_text.specs.declared.lines.State.{State}

-- ---- the table

-- A table that holds no cell: zero up to its published size.
abbrev pub NoCells : List ℕ → Type 0
NoCells table = table ≡ library_words [] ++ drop Size.library table

-- The cells of which the table holds something: those read, and the one that is being read.
unfoldable pub place_cells : List Cell → Place → List Cell
place_cells cells outside = cells
place_cells cells (inside wanted c) = cells ++ (c ∷ [])

unfoldable pub reading_words : Reading → List ℕ
reading_words r = counted_words (length r.cells) (place_cells r.cells r.place)

-- ---- the reader's state

-- What the reader keeps of the entry that is being read.
unfoldable pub place_entry : Place → Option Entry
place_entry outside = None
place_entry (inside wanted c) = Some (record { wanted = wanted; head = record { pins = c.pins; heading = c.heading } })

-- The state within an entry that wants this line.
abbrev pub within : ℕ → Wanted → Head → State
within cells wanted head = record { cells = cells; entry = Some (record { wanted = wanted; head = head }) }

-- Numbers that the tables have space for.
pub record StateFits (s : State) : Type 0 where
  pub cells : s.cells ≤ Size.cells
  pub pins : IfSome s.entry (λ e. e.head.pins ≤ Size.pins)

-- What the reader's state and the table show of a reading.
pub record Shows (r : Reading) (s : State) (table past : List ℕ) : Type 0 where
  pub cells : s.cells ≡ length r.cells
  pub entry : s.entry ≡ place_entry r.place
  pub words : table ≡ reading_words r ++ past
  pub sound : SoundReading r

-- ---- a line

-- The reading behind a line that is read.
pub record Onward (m : Read Reading) (t : State) (table past : List ℕ) : Type 0 where
  pub reading : Reading
  pub same : m ≡ read reading
  pub shows : Shows reading t table past

-- What a line leaves: the cause that refuses it, or the reading behind it.
unfoldable pub Leaves : ℕ → Read Reading → Result State Cause → (table past : List ℕ) → Type 0
Leaves line m (Err cause) table past = m ≡ refused (cause_number cause) line
Leaves line m (Ok t) table past = Onward m t table past

-- A line read at a state and into a table, of every reading that they show.
abbrev pub LineReads : State → Result State Cause → (line table after : List ℕ) → Type 0
LineReads s t line table after = (r : Reading) (past : List ℕ) (n : ℕ) → Shows r s table past
    → Leaves n (library_line n r.cells r.place (fields line)) t after past
