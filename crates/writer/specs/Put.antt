-- What a function leaves that writes at a cursor. Document 01, "Report", has none of this: it says how the report comes
-- to stand in its buffer.
use Rattle.std.specs.Prelude.{List, ◌≡◌, ℕ, ◌+◌, ◌-◌, min, length}
use Rattle.std.proofs.lemmas.List.Edits.{sets}
use Rattle.writer.specs.declared.bytes.Cursor.{Cursor}

-- The bytes are stored from the cursor on, those past the buffer's end nowhere, and the cursor moves on by them, at most to the
-- length and 1, the one place past the end that it comes to.
pub record Put (at : ℕ) (put before after : List ℕ) (next : ℕ) : Type 0 where
  pub stored : after ≡ sets before at put
  pub moved : next ≡ at + min (length put) (length before + 1 - at)

-- The same of a cursor, which keeps the buffer that it was lent.
pub record Puts (word : List ℕ) (before after : Cursor) : Type 0 where
  pub lent : after.buffer.ghost_name ≡ before.buffer.ghost_name
  pub put : Put before.at word before.buffer.now after.buffer.now after.at
