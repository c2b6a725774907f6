-- A text in the front of a lent buffer, or a refusal: what a call answers that writes one, what it leaves in the buffer, the
-- one number for a caller in C, and what a program prints. Document 01, "Report", "Where a text stops" and "Callers". What is
-- to be written is a `Read (List ℕ)`: the bytes of the text, or the refusal.
use Rattle.std.specs.Prelude.{List, [], ◌∷◌, ◌++◌, ◌≡◌, ℕ, ◌+◌, ◌*◌, ◌/◌, ◌%◌, ◌≤◌, ◌<◌, leb, ltb, length, take, drop, replicate}
use Rattle.sizes.specs.Sizes as Size
use Rattle.reading.specs.Choice.{pick}
use Rattle.reading.specs.Numbers as No
use Rattle.reading.specs.Refusal.{Read, refused, read, ◌>>◌, weigh}
use Rattle.writer.specs.Put.{Put}
use Rattle.writer.specs.Refused.{refusal_bytes}
use Rattle.std.specs.Prelude.{Result}
use Rattle.reading.specs.declared.Refusal.{Refusal}
use Rattle.reading.specs.Answer.{answer_read}

-- ---- the answer, and the buffer afterwards

-- A text for a buffer of so many bytes: where it is longer it is refused, at line 0, by the number of its kind. "17 report
-- longer than its buffer"; "19 when the text exceeds its buffer".
unfoldable pub text_within : (number space : ℕ) → List ℕ → Read (List ℕ)
text_within number space text = weigh 0 ((number, ltb space (length text)) ∷ []) >> read text

-- The answer: the text's length, or the refusal.
unfoldable pub length_read : Read (List ℕ) → Read ℕ
length_read (refused number line) = refused number line
length_read (read text) = read (length text)

-- The buffer afterwards: "Entry refusals leave lent memory untouched; later ones leave every table and the report buffer zero."
-- "Report bytes past its end keep their values."
unfoldable pub left_by : Read (List ℕ) → List ℕ → List ℕ
left_by (refused number line) before = pick (No.of_entry number) before (replicate (length before) 0)
left_by (read text) before = text ++ drop (length text) before

-- What a call promises that writes into a buffer what `o` is.
pub record Writes (o : Read (List ℕ)) (before after : List ℕ) (said : Result ℕ Refusal) : Type 0 where
  pub answers : answer_read said ≡ length_read o
  pub leaves : after ≡ left_by o before

-- A refusal behind the entry.
pub record Refuses (number line : ℕ) (before after : List ℕ) (said : Result ℕ Refusal) : Type 0 where
  pub answers : answer_read said ≡ refused number line
  pub leaves : after ≡ replicate (length before) 0

-- The end of a text that was put into a buffer's front, up to a cursor: it is longer than the buffer where the cursor stands
-- past the buffer's end. (`put-closed` of proofs/Buffer.antt: this is `Writes` of `text_within`.)
pub record Closes (number end : ℕ) (before after : List ℕ) (said : Result ℕ Refusal) : Type 0 where
  pub answers : answer_read said ≡ pick (leb end (length before)) (read end) (refused number 0)
  pub leaves : after ≡ pick (leb end (length before)) before (replicate (length before) 0)

-- ---- one number for C

-- "the refusal number times 1,000,000 plus the line"
abbrev pub code_lines : ℕ
code_lines = Size.code_lines

abbrev pub refusal_code : (number line : ℕ) → ℕ
refusal_code number line = number * code_lines + line

-- "gets one number back: the report's length when accepted, else the refusal number times 1,000,000 plus the line."
unfoldable pub code_of : Read ℕ → ℕ
code_of (refused number line) = refusal_code number line
code_of (read n) = n

-- A refusal's number and line, from the one number.
pub record Decoded (said number line : ℕ) : Type 0 where
  pub above : code_lines ≤ said
  pub number_is : said / code_lines ≡ number
  pub line_is : said % code_lines ≡ line

-- Where it is a refusal, its line is one that the number tells.
abbrev pub LineBelow : Read ℕ → Type 0
LineBelow o = (number line : ℕ) → o ≡ refused number line → line < code_lines

-- ---- what a program prints

-- "it prints all of" the text. "On refusal the program prints `refused,number,line`".
unfoldable pub shown : Read (List ℕ) → List ℕ
shown (refused number line) = refusal_bytes number line
shown (read text) = text

-- An answer made ready to be printed: a text stands in the buffer's front already, a refusal is put there.
unfoldable pub ShownBy : Read ℕ → (before after : List ℕ) → ℕ → Type 0
ShownBy (refused number line) before after said = Put 0 (refusal_bytes number line) before after said
ShownBy (read n) before after said = (said ≡ n) × (after ≡ before)

-- What a call promises that puts the bytes to be printed into the front of a buffer of `space` bytes, which held `before`: how
-- many they are, the whole buffer afterwards, that they stand in its front, and that none of them is cut off.
pub record Prints (space : ℕ) (bytes before after : List ℕ) (said : ℕ) : Type 0 where
  pub answers : said ≡ length bytes
  pub leaves : after ≡ bytes ++ drop (length bytes) before
  pub prints : take said after ≡ bytes
  pub within : said ≤ space
  -- the whole buffer, of which a program hands the front on
  pub long : space ≡ length after
