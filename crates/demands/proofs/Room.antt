-- Which calls are accepted, and by which numbers the others are refused: what is read is accepted where the buffer has room
-- for its report, and 17 needs a shorter one. No report is longer than the longest.
use Rattle.common_laws.proofs.Base.{Bool, true, false, true≢false, List, ◌⊎◌, inl, inr, ⊎_elim, ◌≡◌, refl, sym, ap, subst, ℕ, ◌+◌, ◌≤◌, ◌<◌, arith, le-ltb, ltb-true, ltb, length}
use Rattle.common_laws.proofs.Base.{length-append}
use Rattle.reading.specs.Choice.{pick}
use Rattle.reading.specs.Numbers as No
use Rattle.reading.specs.Refusal.{Read, refused, read, ◌>>=◌, ◌>>◌, weigh}
use Rattle.reading.proofs.Bounds.{Within, text_number, text-not-entry, within-weigh}
use Rattle.reading.proofs.Laws.{by_test, refused-read, bind_refused, then-refused}
use Rattle.library_table.specs.Cells.{Cell}
use Rattle.library_table.specs.Library.{library}
use Rattle.library_table.proofs.Bounds.{library-within}
use Rattle.library_table.proofs.Laws.{library-sound}
use Rattle.netlist_table.specs.Netlist.{Statement, mentioned, gates_of, some_range}
use Rattle.calculation.specs.Prices.{prices_at}
use Rattle.calculation.specs.Acceptance.{BothSound}
use Rattle.calculation.specs.Calculation.{analysed_at}
use Rattle.calculation.proofs.Laws.{end-figures}
use Rattle.calculation.proofs.Laws.{few-sweeps}
use Rattle.report_text.specs.Report.{longest_report, longest_reports}
use Rattle.report_text.proofs.Laws.{report-length, high-length}
use Rattle.demands.specs.Demands.{PairRead, longest, TooShort}
use Rattle.demands.specs.Outcome.{Given, Lent, Accepted, entry, outcome, read_pair, reading, conclude, answer, summary, report_of, second, reports, table_short}
use Rattle.demands.proofs.Acceptance.{read_as, pair_is, concluded}
use Rattle.demands.proofs.Given.{Checked}

pub longest-most : (ss : List Statement) → longest ss ≤ longest_reports
unfolding longest pick
longest-most ss = by_test (some_range ss) (λ t. rw t (omega arith)) (λ t. rw t (omega arith))

module _ (cells : List Cell) (ss : List Statement) (sound : BothSound cells ss) where
  report-short : (high : Bool) → length (report_of ss (analysed_at (prices_at high ss) cells ss)) ≤ longest_report
  unfolding report_of
  report-short high =
      let a = analysed_at (prices_at high ss) cells ss in
      report-length (λ l. mentioned l ss) a.numbers a.counts (length (gates_of ss)) sound.netlist.few
      (few-sweeps cells ss sound (prices_at high ss) (end-figures sound high))

  pub reports-short : length (reports cells ss) ≤ longest ss
  unfolding reports second longest pick
  reports-short =
      by_test (some_range ss)
      (λ t. rw t (simp length-append (omega (arith, report-short false, report-short true, high-length))))
      (λ t. rw t (simp length-append (omega (arith, report-short false))))

module _ (cells : List Cell) (ss : List Statement) where
  concludes-fitting : (space : ℕ) → length (reports cells ss) ≤ space → conclude cells ss space ≡ read (concluded cells ss)
  unfolding conclude weigh ◌>>◌ pick
  concludes-fitting space h = rw (le-ltb space (length (reports cells ss)) h)

  concludes-long : (space number line : ℕ) → conclude cells ss space ≡ refused number line
      → (number ≡ No.report_long) × (space < length (reports cells ss))
  unfolding conclude weigh ◌>>◌ pick
  concludes-long space number line e =
      by_test (ltb space (length (reports cells ss)))
      (λ long. (cc (rw long at e), ltb-true space (length (reports cells ss)) long))
      (λ fits. refused-read (sym (rw fits at e)))

module _ (g : Given) (checked : Checked g) where
  pub pair-sound : (pair : PairRead g) → BothSound pair.cells pair.statements
  pair-sound pair =
      record {
        library = library-sound g.library pair.cells pair.cells_read;
        netlist = checked.sound pair.cells pair.statements pair.statements_read;
      }

  -- No refusal of what is read has a number of the entry or the report.
  pub pair-number : (number line : ℕ) → read_pair g ≡ refused number line → text_number number ≡ true
  unfolding read_pair
  pair-number number line e =
      let last : ℕ = length g.library + 1 in
      bind_refused (library g.library) _ number line
      (λ p. (subst (Within text_number last) p (library-within last g.library (omega arith))).0)
      (λ cells p q. bind_refused (g.statements cells) _ number line (λ r. checked.numbered cells number line r) (λ ss r t. refused-read (sym t)) q) e

  module _ (m : Lent) where
    pub accepts-fitting : entry g m ≡ read tt → (pair : PairRead g) → length (reports pair.cells pair.statements) ≤ length m.report
        → answer (outcome g m) ≡ read (summary (concluded pair.cells pair.statements))
    unfolding answer outcome reading ◌>>◌ ◌>>=◌
    accepts-fitting e pair h =
        rw (e, pair_is pair, concludes-fitting pair.cells pair.statements (length m.report) h)

    -- ---- which numbers there are behind the entry: those of the texts, and 17 where the buffer is short

    abbrev Behind : ℕ → Type 0
    Behind number = (text_number number ≡ true) ⊎ ((number ≡ No.report_long) × TooShort g m)

    module _ (number line : ℕ) where
      behind : reading g (length m.report) ≡ refused number line → Behind number
      unfolding reading
      behind e =
          bind_refused (read_pair g) _ number line (λ p. inl (pair-number number line p))
          (λ x p q.
          let h = read_as g x p in
          let pair : PairRead g = record { cells = x.cells; statements = x.statements; cells_read = h.cells; statements_read = h.statements } in
          let long = concludes-long x.cells x.statements (length m.report) number line q in
          inr (long.0, (pair, long.1))) e

      pub entry-number : entry g m ≡ refused number line → No.of_entry number ≡ true
      unfolding entry
      entry-number e = (subst (Within No.of_entry 0) e (within-weigh No.of_entry 0 0 _ (omega arith) refl)).0

      pub later_number : reading g (length m.report) ≡ refused number line → No.of_entry number ≡ false
      later_number e = ⊎_elim (λ t. text-not-entry number t) (λ r. ap No.of_entry r.0) (behind e)

    -- ---- a call that answers so

    module _ (number line : ℕ) where
      from_answer : (o : Read Accepted) → answer o ≡ refused number line → o ≡ refused number line
      unfolding answer
      from_answer (refused n l) e = cc
      from_answer (read a) e = refused-read (sym e)

      -- It refuses at entry, or behind it.
      pub refused-where : {B : Type 0} → answer (outcome g m) ≡ refused number line → (entry g m ≡ refused number line → B)
          → (entry g m ≡ read tt → reading g (length m.report) ≡ refused number line → B) → B
      unfolding outcome
      refused-where e at_entry_lem later = then-refused (entry g m) _ number line at_entry_lem (λ u p q. later p q) (from_answer (outcome g m) e)

    pub long-refused : (line : ℕ) → answer (outcome g m) ≡ refused No.report_long line → TooShort g m
    long-refused line e =
        refused-where No.report_long line e
        (λ p. absurd (true≢false (sym (entry-number No.report_long line p))))
        (λ p q. ⊎_elim (λ t. absurd (true≢false (sym t))) (λ r. r.1) (behind No.report_long line q))

    pub entry-short : (line : ℕ) → entry g m ≡ refused No.table_short line → table_short m ≡ true
    unfolding entry weigh pick
    entry-short line e =
        by_test (table_short m) (λ short. short)
        (λ fits.
        by_test g.long
        (λ long. let z : ◌≡◌ {A = ℕ} No.text_long No.table_short = cc (rw (fits, long) at e) in absurd (omega arith))
        (λ brief. refused-read (sym (rw (fits, brief) at e))))

    pub short-refused : (line : ℕ) → answer (outcome g m) ≡ refused No.table_short line → table_short m ≡ true
    short-refused line e =
        refused-where No.table_short line e
        (λ p. entry-short line p)
        (λ p q. absurd (true≢false (later_number No.table_short line q)))
