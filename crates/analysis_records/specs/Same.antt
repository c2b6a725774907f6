-- The two callers tied. Document 01, "Callers": "Records follow the same checks".
use Rattle.std.specs.Prelude.{List, ◌≡◌, ℕ, ◌≤◌, length}
use Rattle.sizes.specs.Sizes as Size
use Rattle.reading.specs.Refusal.{Read, read}
use Rattle.text.specs.Lines.{lines}
use Rattle.library_table.specs.Cells.{Cell}
use Rattle.library_table.specs.Library.{library}
use Rattle.netlist_table.specs.declared.Rules.TheVariants.{New}
use Rattle.netlist_table.specs.Netlist.{line_forms}
use Rattle.demands.specs.declared.Summary.{Summary}
use Rattle.demands.specs.Demands.{Promised}
use Rattle.demands.specs.Outcome.{Lent, given_texts}
use Rattle.analysis_records.specs.declared.record.Record.{Record}
use Rattle.analysis_records.specs.Records.{record_forms}
use Rattle.analysis_records.specs.Outcome.{given_records}

-- Against the cells of the library, each record says what the line at its place says. A line of bad form is said by a record
-- of bad form, so that refused lists are tied too.
unfoldable pub SaySame : List ℕ → List ℕ → List Record → Type 0
SaySame lib net rs = (cells : List Cell) → library lib ≡ read cells → record_forms rs ≡ line_forms New cells (lines net)

-- `same-calls` of proofs/Same.antt: where the records say the same as a netlist text that is not too long, the call over records
-- and the call over texts answer and leave the same. "A refusal's line is then the record's place, from 1."
abbrev pub SameCalls : Type 0
SameCalls =
    (lib net : List ℕ) (rs : List Record) →
    SaySame lib net rs →
    length net ≤ Size.text_bytes →
    (before after after' : Lent) (said said' : Read Summary) →
    Promised (given_records lib rs) before after said →
    Promised (given_texts lib net) before after' said' →
    (said ≡ said') × (after ≡ after')
