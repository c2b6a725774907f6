-- The C entry's number, from the answer of the analysis.
use Rattle.common_laws.proofs.Base.{true≢false, List, ◌≡◌, refl, sym, ap, ◌∙◌, ℕ, ◌/◌, ◌≤◌, ◌<◌, arith, length}
use Rattle.reading.specs.Numbers as No
use Rattle.reading.specs.Refusal.{Read, refused, read}
use Rattle.reading.proofs.Bounds.{Within, any_number}
use Rattle.writer.specs.Buffer.{code_lines, code_of, LineBelow}
use Rattle.std.specs.Prelude.{Result, Ok, Err}
use Rattle.reading.specs.declared.Refusal.{Refusal}
use Rattle.demands.specs.declared.Summary.{Summary}
use Rattle.reading.specs.Answer.{answer_read}
use Rattle.demands.specs.Demands.{PairRead, longest, Promised}
use Rattle.demands.specs.Outcome.{Lent, given_texts}
use Rattle.demands.specs.Outcome as O
use Rattle.demands.proofs.Bounds.{refusal-told}
use Rattle.demands.proofs.Given.{texts-checked}
use Rattle.demands.proofs.Promise.{keeps}
use Rattle.demands.proofs.EntryChecks.{own-fit}
use Rattle.demands.proofs.Room.{longest-most, short-refused}
use Rattle.demands.specs.Own.{own_tables}
use Rattle.analysis_call.specs.Own.{ReportPromised}
use Rattle.answer_codes.specs.Number.{last_line, Tells}
use Rattle.answer_codes.specs.Coded.{report_length, Seen, Coded}
use Rattle.answer_codes.proofs.Number.{within-told, told-within, tells_by, by_accepted, by_refused, line-below, told-read, told-refused, told-entry, told-number}

-- What the call comes to, with the promise of `analyse` over it.
module _ (lib net before : List ℕ) (after : Lent) (came : Read Summary) (p : Promised (given_texts lib net) (own_tables before) after came) where
  within : Within any_number last_line came
  within = within-told came (λ number line e. refusal-told lib net (own_tables before) number line (sym e ∙ p.answers))

  length-short : (s : Summary) (e : came ≡ read s) → s.length ≤ longest (p.acceptance.was_read s e).statements
  length-short s e = (p.reporting (p.acceptance.was_read s e) s e).short

  module _ (said : ℕ) (is : said ≡ code_of (report_length came)) where
    told : Tells (report_length came) said
    told =
        tells_by (λ (s : Summary). s.length) came within
        (λ s e. omega (arith, length-short s e, longest-most (p.acceptance.was_read s e).statements)) said is

    seen_by : said < code_lines → Seen lib net after.report said
    seen_by h =
        let a = by_accepted (λ (s : Summary). s.length) came said (told-read told h) in
        let s = a.0 in
        let e = a.1 in
        let pair = p.acceptance.was_read s e in
        rw a.2
        (record {
          pair = pair;
          numbers = after.numbers;
          counts = s.counts;
          size = (p.reporting pair s e).size;
          bytes = (p.reporting pair s e).bytes;
          settled = (p.demand2 pair s e).settled;
          exact = p.demand3 pair s e;
          prices = (p.reporting pair s e).prices;
          short = length-short s e;
        })

    refused_by : (number line : ℕ) → report_length came ≡ refused number line → came ≡ refused number line
    refused_by = by_refused (λ (s : Summary). s.length) came

    no_short : said / code_lines ≡ No.table_short → ⊥
    no_short h =
        let e = refused_by No.table_short _ (told-number told No.table_short (omega arith) h) in
        true≢false (sym (short-refused (given_texts lib net) (texts-checked lib net) (own_tables before) _ (sym p.answers ∙ e)) ∙ own-fit before)

    long-told : said / code_lines ≡ No.report_long → (pair : PairRead (given_texts lib net))
        × (length before < length (O.reports pair.cells pair.statements))
        × (length (O.reports pair.cells pair.statements) ≤ longest pair.statements)
    unfolding own_tables
    long-told h =
        let long = p.acceptance.report_long _ (refused_by No.report_long _ (told-number told No.report_long (omega arith) h)) in
        (long.0, long.1, p.acceptance.short_enough long.0)

    coded : came ≡ O.answer (O.outcome (given_texts lib net) (own_tables before)) → Coded lib net before after.report said
    unfolding own_tables O.zeroed
    coded same =
        record {
          answers = rw (← same) told;
          leaves = ap (λ (m : Lent). m.report) p.leaves;
          tables = after;
          buffer = refl;
          promised = rw (← same) p;
          seen = seen_by;
          untouched = λ h. ap (λ (m : Lent). m.report) (p.demand1.untouched _ _ (refused_by _ _ (told-entry told h)) h);
          cleared = λ c h. ap (λ (m : Lent). m.report) (p.demand1.cleared _ _ (refused_by _ _ (told-refused told c)) h);
          table_short = no_short;
          report_long = long-told;
        }

-- From the answer of the code. Its tables are its own; the promise speaks of those that an analysis leaves.
module _ (lib net before report : List ℕ) (r : Result Summary Refusal) (h : ReportPromised (given_texts lib net) (own_tables before) report (answer_read r)) where
  abbrev tables : Lent
  tables = O.left (given_texts lib net) (own_tables before)

  p : Promised (given_texts lib net) (own_tables before) tables (answer_read r)
  p = keeps (given_texts lib net) (texts-checked lib net) (own_tables before) tables (answer_read r) h.answers refl

  pub report-line : LineBelow (report_length (answer_read r))
  report-line = line-below _ (told-within (λ (s : Summary). s.length) (answer_read r) (within lib net before tables (answer_read r) p))

  pub report-coded : (said : ℕ) → said ≡ code_of (report_length (answer_read r)) → Coded lib net before report said
  report-coded said is = rw h.leaves (coded lib net before tables (answer_read r) p said is p.answers)
