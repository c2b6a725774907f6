-- What the call for C that reports answers and leaves.
use Rattle.std.specs.Prelude.{true, false, List, ◌++◌, ◌≡◌, ℕ, ◌/◌, ◌≤◌, ◌<◌, length, get_or, take, replicate}
use Rattle.sizes.specs.Sizes as Size
use Rattle.reading.specs.Numbers as No
use Rattle.reading.specs.Refusal.{Read}
use Rattle.netlist_table.specs.Netlist.{mentioned}
use Rattle.calculation.specs.declared.Counts.{Counts}
use Rattle.calculation.specs.Nodes.{Kind, Purpose, node}
use Rattle.calculation.specs.LinePlans.{Exact}
use Rattle.calculation.specs.Settled.{Settled}
use Rattle.writer.specs.Buffer.{code_lines}
use Rattle.report_text.specs.Report.{report_bytes}
use Rattle.demands.specs.declared.Summary.{Summary}
use Rattle.demands.specs.Demands.{Reported, PairRead, longest, AtAllPrices, Promised}
use Rattle.demands.specs.Outcome as O
use Rattle.demands.specs.Own.{own_tables}
use Rattle.answer_codes.specs.Number.{told_by, Tells}

-- "the report's length when accepted"
abbrev pub report_length : Read Summary → Read ℕ
report_length o = told_by (λ s. s.length) o

-- What a caller has of an accepted pair who sees its bytes alone: they are the report of numbers and counts of which demands 2
-- and 3 hold, and behind it, where there are ranges, the line `high` and the report at HIGH, of which they hold too; no more
-- than the longest have.
pub record Seen (lib net after : List ℕ) (said : ℕ) : Type 0 where
  pub pair : PairRead (O.given_texts lib net)
  pub numbers : List ℕ
  pub counts : Counts
  pub size : said ≡ length (report_bytes (λ l. mentioned l pair.statements) numbers counts ++ O.second pair.cells pair.statements)
  pub bytes : take said after ≡ report_bytes (λ l. mentioned l pair.statements) numbers counts ++ O.second pair.cells pair.statements
  pub settled : Settled pair.cells pair.statements (record { numbers = take Size.numbers numbers; counts = counts })
  pub exact : (k : Kind) (p : Purpose) → Reported p → Exact pair.cells pair.statements k p (get_or numbers (node k p) 0)
  pub prices : AtAllPrices pair.cells pair.statements
  pub short : said ≤ longest pair.statements

-- What the C entry promises: its number and the whole report buffer afterwards, by equation; that it is an analysis on tables
-- of its own, whose numbers and report keep the whole promise of `analyse`, the three demands among it; and what a caller sees
-- who has but the number and the buffer.
pub record Coded (lib net before after : List ℕ) (said : ℕ) : Type 0 where
  pub answers : Tells (report_length (O.answer (O.outcome (O.given_texts lib net) (own_tables before)))) said
  pub leaves : after ≡ (O.left (O.given_texts lib net) (own_tables before)).report
  pub tables : O.Lent
  pub buffer : after ≡ tables.report
  pub promised : Promised (O.given_texts lib net) (own_tables before) tables (O.answer (O.outcome (O.given_texts lib net) (own_tables before)))
  -- By the number alone: the report,
  pub seen : said < code_lines → Seen lib net after said
  -- "Entry refusals leave lent memory untouched; later ones leave every table and the report buffer zero",
  pub untouched : No.of_entry (said / code_lines) ≡ true → after ≡ before
  pub cleared : code_lines ≤ said → No.of_entry (said / code_lines) ≡ false → after ≡ replicate (length before) 0
  -- "1 a lent table below its published size": its own tables are not,
  pub table_short : said / code_lines ≡ No.table_short → ⊥
  -- "17 report longer than its buffer", which "counts both reports": never of a buffer that has room for the longest.
  pub report_long : said / code_lines ≡ No.report_long → (pair : PairRead (O.given_texts lib net))
      × (length before < length (O.reports pair.cells pair.statements))
      × (length (O.reports pair.cells pair.statements) ≤ longest pair.statements)
