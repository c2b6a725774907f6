-- What the call for C of the generator answers and leaves. Document 02, K6.
use Rattle.std.specs.Prelude.{List, ◌≡◌, ℕ, ◌/◌, ◌<◌, length}
use Rattle.reading.specs.Numbers as No
use Rattle.writer.specs.Buffer.{code_lines, length_read, left_by}
use Rattle.truth_entry.specs.Bounded.{entry_room}
use Rattle.truth_entry.specs.Generated.{generated_into}
use Rattle.answer_codes.specs.Number.{Tells}

-- Its number and the whole buffer afterwards, by equation; and that 17 needs a buffer of less than 8,192 bytes.
pub record CellCoded (line before after : List ℕ) (said : ℕ) : Type 0 where
  pub answers : Tells (length_read (generated_into line (length before))) said
  pub leaves : after ≡ left_by (generated_into line (length before)) before
  pub report_long : said / code_lines ≡ No.report_long → length before < entry_room
