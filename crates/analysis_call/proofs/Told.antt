-- The report that the code writes from the tables is that of the definitions.
use Rattle.std.specs.Prelude.{Result, Ok, Err}
use Rattle.common_laws.proofs.Base.{Bool, true, false, List, [], ◌++◌, ◌≡◌, refl, sym, ℕ, ◌≤◌, ltb, length, drop, List-get_or-append}
use Rattle.sizes.specs.Sizes as Size
use Rattle.reading.specs.Choice.{pick}
use Rattle.reading.specs.Numbers as No
use Rattle.reading.specs.Refusal.{Read, refused, read, ◌>>◌, weigh}
use Rattle.reading.specs.declared.Refusal.{Refusal}
use Rattle.reading.proofs.Laws.{by_test}
use Rattle.reading.specs.Answer.{answer_read}
use Rattle.library_table.specs.Cells.{Cell}
use Rattle.netlist_table.specs.Netlist.{Statement, mentioned, some_range, high_price}
use Rattle.netlist_table.specs.Layout.{netlist_words}
use Rattle.netlist_table.specs.Admission.{some_ranged}
use Rattle.netlist_table.proofs.HeldLines.{mention_held}
use Rattle.netlist_table.proofs.OpenLines.{some-ranged}
use Rattle.calculation.specs.Prices.{prices_at, prices_of}
use Rattle.calculation.specs.Calculation.{analysed_at, analysed}
use Rattle.calculation.specs.Stored.{Holds, Calculated}
use Rattle.calculation.specs.Acceptance.{BothSound}
use Rattle.calculation.specs.declared.Counts.{Counts}
use Rattle.calculation.proofs.Laws.{end-figures, numbers-length}
use Rattle.writer.specs.Put.{Put}
use Rattle.writer.proofs.Steps.{put_then}
use Rattle.writer.specs.Buffer.{text_within, length_read, Writes}
use Rattle.report_text.specs.Report.{high_line}
use Rattle.report_text.specs.Arguments.{marked}
use Rattle.report_text.specs.Arguments as R
use Rattle.report_text.proofs.Laws.{report-same}
use Rattle.demands.specs.Outcome.{report_of, second, reports, conclude, answer, summary}
use Rattle.demands.specs.declared.Summary.{Summary}
use Rattle.analysis_call.specs.Finished.{Concluded}

marks : (ss : List Statement) (past : List ℕ) (l : ℕ) → 1 ≤ l → l ≤ Size.lines → marked (netlist_words ss ++ past) l ≡ mentioned l ss
unfolding marked
marks ss past l a b = mention_held ss past l a b

-- the code's report, from tables that are those of the calculation, at either end of the ranges
same-report : (cells : List Cell) (ss : List Statement) (sound : BothSound cells ss) (high : Bool) (past rest : List ℕ)
    → let a = analysed_at (prices_at high ss) cells ss in
    R.report_of (netlist_words ss ++ past) (a.numbers ++ rest) a.counts ≡ report_of ss a
unfolding report_of
same-report cells ss sound high past rest =
    let a = analysed_at (prices_at high ss) cells ss in
    report-same (marked (netlist_words ss ++ past)) (λ l. mentioned l ss) (a.numbers ++ rest) a.numbers a.counts
    (λ l x y. marks ss past l x y)
    (λ i h. List-get_or-append a.numbers rest 0 i (rw (numbers-length cells ss sound (prices_at high ss) (end-figures sound high)) h))

module _ (cells : List Cell) (ss : List Statement) {library netlist : List ℕ} (h : Holds library netlist cells ss) where
  pub held-report : (high : Bool) (before after : List ℕ) (k : Counts) → Calculated (prices_at high ss) cells ss before after k
      → R.report_of netlist after k ≡ report_of ss (analysed_at (prices_at high ss) cells ss)
  held-report high before after k c =
      rw (h.statements_stand, c.numbers, c.counts) (same-report cells ss h.sound high h.past (drop Size.numbers before))

  -- ---- the second report

  said-range : some_ranged netlist ≡ some_range ss
  said-range = some-ranged (record { past = h.past; words = h.statements_stand })

  pub second_none : some_ranged netlist ≡ false → second cells ss ≡ []
  unfolding second pick
  second_none e = rw (← said-range, e)

  pub second-some : some_ranged netlist ≡ true → second cells ss ≡ high_line ++ report_of ss (analysed_at (high_price ss) cells ss)
  unfolding second pick
  second-some e = rw (← said-range, e)

  -- Both reports, put one behind the other.
  pub both-put : (nb na rb r1 r2 : List ℕ) (k : Counts) (low end : ℕ) → Calculated (prices_of ss) cells ss nb na k
      → Put 0 (R.report_of netlist na k) rb r1 low → Put low (second cells ss) r1 r2 end → Put 0 (reports cells ss) rb r2 end
  unfolding reports
  both-put nb na rb r1 r2 k low end c p q = put_then (rw (held-report false nb na k c) at p) q

-- what `conclude` answers, from what the report comes to in its buffer
with_counts : Counts → Read ℕ → Read Summary
with_counts k (refused number line) = refused number line
with_counts k (read n) = read (record { length = n; counts = k })

concludes-written : (cells : List Cell) (ss : List Statement) (space : ℕ)
    → answer (conclude cells ss space)
    ≡ with_counts (analysed cells ss).counts (length_read (text_within No.report_long space (reports cells ss)))
unfolding conclude answer summary weigh ◌>>◌ pick text_within length_read with_counts
concludes-written cells ss space =
    by_test (ltb space (length (reports cells ss))) (λ t. rw t refl) (λ t. rw t refl)

-- ---- the two ends of `conclude`

module _ (cells : List Cell) (ss : List Statement) (nb rb na ra : List ℕ) (k : Counts) (c : Calculated (prices_of ss) cells ss nb na k)
    (w : Result ℕ Refusal) (written : Writes (text_within No.report_long (length rb) (reports cells ss)) rb ra w) where
  ends : Concluded cells ss nb rb na ra (with_counts k (answer_read w))
  ends =
      record {
        answers = rw (written.answers, c.counts) (sym (concludes-written cells ss (length rb)));
        numbers = c.numbers;
        report = written.leaves;
      }

  pub ends-long : (x : Refusal) → w ≡ Err x → Concluded cells ss nb rb na ra (refused x.number x.line)
  unfolding answer_read with_counts
  ends-long x e = rw e at ends

  pub ends-fitting : (n : ℕ) → w ≡ Ok n → Concluded cells ss nb rb na ra (read (record { length = n; counts = k }))
  unfolding answer_read with_counts
  ends-fitting n e = rw e at ends
