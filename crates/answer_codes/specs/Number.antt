-- The one number that every call for C answers, and what it tells. Document 01, "Callers".
use Rattle.std.specs.Prelude.{Bool, true, List, ◌↔◌, ◌≡◌, ℕ, ◌+◌, ◌-◌, ◌%◌, ◌≤◌, ◌<◌, leb, length, replicate}
use Rattle.sizes.specs.Sizes as Size
use Rattle.reading.specs.Choice.{pick}
use Rattle.reading.specs.Refusal.{Read, refused, read, ◌>>=◌}
use Rattle.writer.specs.Buffer.{text_within, code_lines, code_of, Decoded}

-- "Lines count from 1 in each text"; "An entry broken off by the end is 3 at the line after the last": no refusal has a line
-- above this one.
abbrev pub last_line : ℕ
last_line = Size.text_bytes + 1

-- What was accepted, by the number that stands for it: a length, a count, a line. A refusal stays what it is.
unfoldable pub told_by : {A : Type 0} → (A → ℕ) → Read A → Read ℕ
told_by f o = o >>= λ a. read (f a)

-- What the number tells of what a call comes to. "gets one number back: the report's length when accepted, else the refusal
-- number times 1,000,000 plus the line": below 1,000,000 it is what was accepted, from there on a refusal. So one is never
-- taken for the other, and a caller who has the number alone has all that was answered.
pub record Tells (o : Read ℕ) (said : ℕ) : Type 0 where
  pub is : said ≡ code_of o
  pub accepted : (n : ℕ) → (o ≡ read n) ↔ ((said < code_lines) × (said ≡ n))
  pub refusal : (number line : ℕ) → (o ≡ refused number line) ↔ Decoded said number line
  pub lines : code_lines ≤ said → said % code_lines ≤ last_line

-- The longest text whose length the number tells.
abbrev pub most_told : ℕ
most_told = code_lines - 1

-- A longer one counts as longer than its buffer, and is refused by the number of its kind.
unfoldable pub text_told : (number : ℕ) → Read (List ℕ) → Read (List ℕ)
text_told number o = o >>= text_within number most_told

-- The same by a length that was answered, in a buffer that holds the text.
unfoldable pub is_told : Read ℕ → Bool
is_told (refused number line) = true
is_told (read n) = leb n most_told

pub record Limits (number : ℕ) (answer : Read ℕ) (before after : List ℕ) (said : Read ℕ) : Type 0 where
  pub answers : said ≡ pick (is_told answer) answer (refused number 0)
  pub leaves : after ≡ pick (is_told answer) before (replicate (length before) 0)
