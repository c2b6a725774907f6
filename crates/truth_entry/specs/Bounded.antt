-- How large what a text comes to can be.
use Rattle.std.specs.Prelude.{List, ◌≡◌, ℕ, ◌≤◌, ◌<◌, length}
use Rattle.reading.specs.Numbers as No
use Rattle.reading.specs.Refusal.{Read, refused, read}

-- The program's buffer: longer than every entry (`entry-short` of crate `truth_tables`).
abbrev pub entry_room : ℕ
entry_room = 8192

-- What every text comes to in a buffer of so many bytes: a refusal by a small number at line 0 or 1, by 17 only where the
-- buffer is shorter than the program's; or an entry that is not long.
unfoldable pub Bounded : (room : ℕ) → Read (List ℕ) → Type 0
Bounded room (refused number line) = (1 ≤ number) × (number ≤ 17) × (line ≤ 1) × (number ≡ No.report_long → room < entry_room)
Bounded room (read entry) = length entry ≤ entry_room

-- "17 report longer than its buffer", of a call's answer: only where the buffer has less than 8,192 bytes.
abbrev pub LongBelow : (room : ℕ) → Read ℕ → Type 0
LongBelow room said = (line : ℕ) → said ≡ refused No.report_long line → room < entry_room
