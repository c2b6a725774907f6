-- What `put_analysis` does: it puts what `scoap` prints (demands/specs/Printed.antt) into a buffer.
use Rattle.std.specs.Prelude.{List, ◌≡◌, ℕ, take}
use Rattle.sizes.specs.Sizes as Size
use Rattle.reading.specs.Refusal.{Read, refused, read}
use Rattle.writer.specs.Refused.{refusal_bytes}
use Rattle.writer.specs.Buffer.{Prints}
use Rattle.demands.specs.declared.Summary.{Summary}
use Rattle.demands.specs.Demands.{Promised}
use Rattle.demands.specs.Outcome.{Lent, left, given_texts}
use Rattle.demands.specs.Own.{own_tables}
use Rattle.demands.specs.Printed.{printed}

-- What `scoap` prints, from the answer of an analysis and the report buffer that it leaves.
unfoldable pub shown_of : Read Summary → List ℕ → List ℕ
shown_of (refused number line) report = refusal_bytes number line
shown_of (read s) report = take s.length report

-- What `put_analysis` promises: what is printed stands in the buffer's front, behind it what the analysis left; and it is that
-- of an analysis on tables of its own, whose numbers and report keep the whole promise of `analyse`, the three demands among
-- it.
pub record Printed (lib net before after : List ℕ) (said : ℕ) : Type 0 where
  pub bytes : Prints Size.report_bytes (printed lib net) (left (given_texts lib net) (own_tables before)).report after said
  pub tables : Lent
  pub answer : Read Summary
  pub promised : Promised (given_texts lib net) (own_tables before) tables answer
  pub shows : printed lib net ≡ shown_of answer tables.report
