-- What the call for C of the built-in library answers and leaves. Document 02, K6.
use Rattle.std.specs.Prelude.{List, ◌≡◌, ℕ, length}
use Rattle.writer.specs.Buffer.{length_read, left_by}
use Rattle.truth_library.specs.Written.{built_in_within}
use Rattle.answer_codes.specs.Number.{Tells}

-- The text's length and the text in the buffer's front; 17 at line 0 of a buffer that is too short, which is then zero.
pub record BuiltInCoded (before after : List ℕ) (said : ℕ) : Type 0 where
  pub answers : Tells (length_read (built_in_within (length before))) said
  pub leaves : after ≡ left_by (built_in_within (length before)) before
