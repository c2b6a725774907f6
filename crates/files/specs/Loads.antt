-- How much of a buffer reading a file has filled, and what one read's answer means. The library's contracts tell of a read how
-- many bytes it answers and of the bytes nothing, and every answer may come of some file; so no more can be said of a whole
-- file than that its bytes are within the buffer, and that a file that fills it is too long; tests do the rest (tests/files).
use Rattle.std.specs.Prelude.{◌||◌, List, ◌≡◌, ℕ, ◌+◌, ◌-◌, ◌≤◌, ◌<◌, min, eqb, length, Option, Some, None, Result, Ok, Err}
use Rattle.sizes.specs.Sizes as Size
use Rattle.reading.specs.Choice.{pick}
use Rattle.std.specs.declared.ops.ControlFlow.{ControlFlow}
use Rattle.std.specs.declared.ops.ControlFlow.TheVariants.{Break, Continue}

abbrev pub Within : Option ℕ → List ℕ → Type 0
Within (Some n) buffer = n ≤ length buffer
Within None buffer = Unit {0}

-- A file of which bytes may be left unread: it fills the buffer.
abbrev pub Filled : Option ℕ → List ℕ → Type 0
Filled (Some n) buffer = n ≡ length buffer
Filled None buffer = ⊥

-- Such a file is longer than a text may be, so that none is taken for a shorter one: "2 a text above 65,535 bytes".
abbrev pub LongIfFilled : Option ℕ → List ℕ → Type 0
LongIfFilled (Some n) buffer = n ≡ length buffer → Size.text_bytes < n
LongIfFilled None buffer = Unit {0}

-- What `load` promises.
pub record Seen (l : Option ℕ) (buffer : List ℕ) : Type 0 where
  pub within : Within l buffer
  pub long : LongIfFilled l buffer

-- What a read's answer means, into a buffer of so many bytes from a place on. An error: "when a file can't be read it prints
-- `unreadable`". No byte is the file's end. Else so many bytes more are there; a full buffer is a file that is as long, or
-- longer, and a longer one is not unreadable.
unfoldable pub next_of : {E : Type 0} → ℕ → ℕ → Result ℕ E → ControlFlow (Option ℕ) ℕ
next_of size at (Err e) = Break None
next_of size at (Ok k) =
    let end = at + min k (size - at) in
    pick (eqb end at || eqb end size) (Break (Some end)) (Continue end)
