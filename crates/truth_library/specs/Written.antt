-- What the built-in library comes to in a lent buffer.
use Rattle.std.specs.Prelude.{List, ℕ}
use Rattle.reading.specs.Numbers as No
use Rattle.reading.specs.Refusal.{Read, ◌>>=◌}
use Rattle.writer.specs.Buffer.{text_within}
use Rattle.truth_figures.specs.BuiltIn.{entries, tables}

-- The text "is byte for byte what the generator prints" of the 19 truth tables, for a buffer that has room for so many bytes;
-- 17 at line 0 where it has too few, as of every text of K6.
unfoldable pub built_in_within : ℕ → Read (List ℕ)
built_in_within space = entries tables >>= text_within No.report_long space
