-- A call that answers and leaves what the outcome says keeps its promise: the three demands follow.
use Rattle.common_laws.proofs.Base.{Bool, true, false, List, ◌++◌, ◌≡◌, refl, sym, ap, subst, ◌∙◌, ℕ, zero, suc, ◌+◌, ◌≤◌, ◌<◌, arith, length, get_or, drop, replicate}
use Rattle.common_laws.proofs.Base.{length-replicate, get_or-replicate, take_at, drop_at}
use Rattle.sizes.specs.Places.{line_place}
use Rattle.sizes.specs.Sizes as Size
use Rattle.reading.specs.Numbers as No
use Rattle.reading.specs.Refusal.{Read, refused, read, ◌>>◌}
use Rattle.reading.proofs.Laws.{clash, refused-read, then-read}
use Rattle.cost.specs.Cost.{never}
use Rattle.library_table.specs.Cells.{Cell}
use Rattle.netlist_table.specs.Netlist.{Statement, mentioned, gates_of}
use Rattle.netlist_table.specs.Sound.{InRange}
use Rattle.calculation.specs.Prices.{prices_of}
use Rattle.calculation.specs.Nodes.{Kind, combinational, sequential, Purpose, set, observe, line_of, node}
use Rattle.calculation.specs.Calculation.{analysed}
use Rattle.calculation.specs.Settled.{Settled, FewSweeps}
use Rattle.calculation.specs.Acceptance.{BothSound}
use Rattle.calculation.specs.declared.Counts.{Counts}
use Rattle.calculation.proofs.Laws.{own-figures, low-within, high-within, analysis-at, between, between-each}
use Rattle.calculation.proofs.Laws.{unmentioned, entry-bounded, node-inside, Placed}
use Rattle.report_text.specs.Report.{report_bytes}
use Rattle.report_text.proofs.Laws.{report-same}
use Rattle.demands.specs.declared.Summary.{Summary}
use Rattle.demands.specs.Outcome.{Given, Lent, Accepted, summary, report_of, second, reports, entry, outcome, reading, answer, left, left_from, left_later, filled, zeroed}
use Rattle.demands.specs.Demands.{NumbersStand, standing, standing_report, PairRead, EntriesKept, EntriesZero, OfEach, Acceptance, Calculated, ReportStands, Promised}
use Rattle.demands.proofs.Given.{Checked}
use Rattle.demands.proofs.Numbers.{placed_purpose, entry-stands, numbers-stand}
use Rattle.demands.proofs.Acceptance.{concluded, Accepts, accepts}
use Rattle.demands.proofs.Room.{reports-short, pair-sound, accepts-fitting, entry-number, later_number, refused-where, long-refused}

-- Each of a line's six entries is the number of a kind and a purpose.
by_purpose : (P : ℕ → Type 0) (l : ℕ) → 1 ≤ l → l ≤ Size.lines → ((k : Kind) (p : Purpose) → Placed p → line_of p ≡ l → P (node k p))
    → (i : ℕ) → i < Size.costs → P (line_place l + i)
unfolding node InRange
by_purpose P l a b on zero h = on combinational (set l 0) ((a, b), omega arith) refl
by_purpose P l a b on (suc zero) h = on combinational (set l 1) ((a, b), omega arith) refl
by_purpose P l a b on (suc (suc zero)) h = on sequential (set l 0) ((a, b), omega arith) refl
by_purpose P l a b on (suc (suc (suc zero))) h = on sequential (set l 1) ((a, b), omega arith) refl
by_purpose P l a b on (suc (suc (suc (suc zero)))) h = on combinational (observe l) (a, b) refl
by_purpose P l a b on (suc (suc (suc (suc (suc zero))))) h = on sequential (observe l) (a, b) refl
by_purpose P l a b on (suc (suc (suc (suc (suc (suc i)))))) h = absurd (omega arith)

-- ---- entry by entry

slice_kept : (xs ys : List ℕ) → ys ≡ xs → EntriesKept xs ys
slice_kept xs ys e = record { size = ap length e; entry = λ i h. ap (λ (z : List ℕ). get_or z i 0) e }

slice_zero : (xs ys : List ℕ) → ys ≡ replicate (length xs) 0 → EntriesZero xs ys
slice_zero xs ys e =
    record {
      size = ap length e ∙ length-replicate (length xs) 0;
      entry = λ i h. ap (λ (z : List ℕ). get_or z i 1) e ∙ get_or-replicate (length xs) i 0 1 h;
    }

module _ (before after : Lent) where
  each-kept : after ≡ before → OfEach EntriesKept before after
  each-kept e =
      record {
        library = slice_kept _ _ (ap (λ (m : Lent). m.library) e);
        netlist = slice_kept _ _ (ap (λ (m : Lent). m.netlist) e);
        numbers = slice_kept _ _ (ap (λ (m : Lent). m.numbers) e);
        report = slice_kept _ _ (ap (λ (m : Lent). m.report) e);
      }

  each-zero : after ≡ zeroed before → OfEach EntriesZero before after
  unfolding zeroed
  each-zero e =
      record {
        library = slice_zero _ _ (ap (λ (m : Lent). m.library) e);
        netlist = slice_zero _ _ (ap (λ (m : Lent). m.netlist) e);
        numbers = slice_zero _ _ (ap (λ (m : Lent). m.numbers) e);
        report = slice_zero _ _ (ap (λ (m : Lent). m.report) e);
      }

module _ (g : Given) (checked : Checked g) (before after : Lent) (said : Read Summary) where
  at-entry : said ≡ answer (outcome g before) → after ≡ left g before → (number line : ℕ) → entry g before ≡ refused number line
      → (said ≡ refused number line) × (after ≡ before)
  unfolding answer outcome left left_from ◌>>◌
  at-entry a l number line e = (rw e at a, rw e at l)

  later : said ≡ answer (outcome g before) → after ≡ left g before → (o : Read Accepted) → reading g (length before.report) ≡ o
      → (number line : ℕ) → entry g before ≡ read tt → said ≡ refused number line → after ≡ zeroed before
  unfolding answer outcome left left_from left_later ◌>>◌
  later a l (refused n i) o number line e s = rw (e, o) at l
  later a l (read x) o number line e s = refused-read (sym s ∙ rw (e, o) at a)

  untouched : said ≡ answer (outcome g before) → after ≡ left g before → (number line : ℕ) → said ≡ refused number line
      → No.of_entry number ≡ true → after ≡ before
  untouched a l number line r h =
      refused-where g checked before number line (sym a ∙ r)
      (λ e. (at-entry a l number line e).1)
      (λ e q. clash (No.of_entry number) h (later_number g checked before number line q))

  cleared : said ≡ answer (outcome g before) → after ≡ left g before → (number line : ℕ) → said ≡ refused number line
      → No.of_entry number ≡ false → after ≡ zeroed before
  cleared a l number line r h =
      refused-where g checked before number line (sym a ∙ r)
      (λ e. clash (No.of_entry number) (entry-number g checked before number line e) h)
      (λ e q. later a l (reading g (length before.report)) refl number line e r)

  -- What an accepted call answers and leaves, by the cells and statements that were read.
  record Agrees (cells : List Cell) (ss : List Statement) (s : Summary) : Type 0 where
    numbers : after.numbers ≡ (analysed cells ss).numbers ++ drop Size.numbers before.numbers
    report : after.report ≡ reports cells ss ++ drop (length (reports cells ss)) before.report
    says : s ≡ summary (concluded cells ss)
    fits : length (reports cells ss) ≤ length before.report

  filled_by : (x : Accepted) → outcome g before ≡ read x → left g before ≡ filled x before
  unfolding outcome left left_from left_later
  filled_by x e = then-read (entry g before) _ x (λ u p q. rw (p, q)) e

  agrees : (o : Read Accepted) → outcome g before ≡ o → said ≡ answer o → after ≡ left g before → (pair : PairRead g) (s : Summary)
      → said ≡ read s → Agrees pair.cells pair.statements s
  unfolding answer filled
  agrees (refused number line) e a l pair s r = refused-read (sym a ∙ r)
  agrees (read x) e a l pair s r =
      let cells = pair.cells in
      let ss = pair.statements in
      let h : Accepts g (length before.report) x = accepts g before x e in
      let sc : x.cells ≡ cells = cc (h.cells, pair.cells_read) in
      let h2 : g.statements cells ≡ read x.statements = rw (← sc) h.statements in
      let st : x.statements ≡ ss = cc pair.statements_read in
      let made : x ≡ concluded cells ss = sym h.made ∙ (λ i. concluded (sc i) (st i)) in
      let stands : after ≡ filled (concluded cells ss) before = l ∙ filled_by x e ∙ ap (λ (y : Accepted). filled y before) made in
      record {
        numbers = ap (λ (y : Lent). y.numbers) stands;
        report = ap (λ (y : Lent). y.report) stands;
        says = let e2 : s ≡ summary x = cc in e2 ∙ ap summary made;
        fits = subst (λ (y : Accepted). length y.report ≤ length before.report) made h.fits;
      }

  -- ---- an accepted call

  module _ (cells : List Cell) (ss : List Statement) (sound : BothSound cells ss) (s : Summary) (z : Agrees cells ss s) where
    entry_at : (i : ℕ) → i < Size.numbers → get_or after.numbers i 0 ≡ get_or (analysed cells ss).numbers i 0
    entry_at = entry-stands sound after.numbers (drop Size.numbers before.numbers) z.numbers

    held : NumbersStand cells ss after.numbers
    held = numbers-stand sound after.numbers (drop Size.numbers before.numbers) z.numbers

    counts-are : s.counts ≡ (analysed cells ss).counts
    unfolding summary
    counts-are = ap (λ (y : Summary). y.counts) z.says

    stands : standing after s ≡ analysed cells ss
    stands = λ i. record { numbers = held.calculated i; counts = counts-are i }

    unmentioned-at : (l i : ℕ) → 1 ≤ l → l ≤ Size.lines → i < Size.costs → mentioned l ss ≡ false → get_or after.numbers (line_place l + i) 0 ≡ never
    unmentioned-at l i a b h e =
        by_purpose (λ (n : ℕ). get_or after.numbers n 0 ≡ never) l a b
        (λ k p q same. entry_at (node k p) (node-inside k p q) ∙ unmentioned cells ss sound (prices_of ss) (own-figures sound) k p q (rw same e)) i h

    calculates : Calculated g before after said cells ss s
    calculates =
        record {
          numbers = held.calculated;
          counts = counts-are;
          settled = subst (Settled cells ss) (sym stands) held.settled;
          settled_once = λ a t. held.settled_once a t ∙ sym stands;
          few_sweeps = subst (FewSweeps (length (gates_of ss))) (sym counts-are) held.few_sweeps;
          costs = λ i h. rw (entry_at i h) (entry-bounded cells ss sound (prices_of ss) (own-figures sound) i);
          unmentioned = unmentioned-at;
        }

    report_is : report_of ss (analysed cells ss) ≡ standing_report ss after s
    unfolding report_of
    report_is =
        let marks : ℕ → Bool = λ l. mentioned l ss in
        report-same marks marks (analysed cells ss).numbers after.numbers (analysed cells ss).counts (λ l a b. refl) (λ i h. sym (entry_at i h))
        ∙ ap (λ (k : Counts). report_bytes marks after.numbers k) (sym counts-are)

    reports-are : reports cells ss ≡ standing_report ss after s ++ second cells ss
    unfolding reports
    reports-are = ap (λ (y : List ℕ). y ++ second cells ss) report_is

    length_is : s.length ≡ length (reports cells ss)
    unfolding summary
    length_is = ap (λ (y : Summary). y.length) z.says

    prints : ReportStands g before after said cells ss s
    prints =
        let r = reports cells ss in
        record {
          size = length_is ∙ ap length reports-are;
          bytes = rw z.report (take_at r (drop (length r) before.report) s.length (sym length_is)) ∙ reports-are;
          prices =
              record {
                low = low-within sound;
                high = high-within sound;
                analyses = analysis-at cells ss sound;
                between = λ price w p r. between cells ss sound p (placed_purpose p r) price w;
                each_value = λ price w p r. between-each cells ss sound p (placed_purpose p r) price w;
              };
          past = rw z.report (drop_at r (drop (length r) before.report) s.length (sym length_is)) ∙ ap (λ (n : ℕ). drop n before.report) (sym length_is);
          fits = rw length_is z.fits;
          short = rw length_is (reports-short cells ss sound);
        }

  -- ---- the promise

  pair_of : (o : Read Accepted) → outcome g before ≡ o → (s : Summary) → read s ≡ answer o → PairRead g
  unfolding answer
  pair_of (refused number line) e s r = refused-read (sym r)
  pair_of (read x) e s r =
      let h : Accepts g (length before.report) x = accepts g before x e in
      record { cells = x.cells; statements = x.statements; cells_read = h.cells; statements_read = h.statements }

  accepting : said ≡ answer (outcome g before) → Acceptance g before after said
  accepting a =
      record {
        was_read = λ s r. pair_of (outcome g before) refl s (sym r ∙ a);
        accepts = λ e pair h. (summary (concluded pair.cells pair.statements), a ∙ accepts-fitting g checked before e pair h);
        report_long = λ line r. long-refused g checked before line (sym a ∙ r);
        short_enough = λ pair. reports-short pair.cells pair.statements (pair-sound g checked pair);
      }

  pub keeps : said ≡ answer (outcome g before) → after ≡ left g before → Promised g before after said
  keeps a l =
      let sound = pair-sound g checked in
      let agreed = agrees (outcome g before) refl a l in
      record {
        answers = a;
        leaves = l;
        demand1 =
            record {
              refuses = a;
              at_entry = at-entry a l;
              later = later a l (reading g (length before.report)) refl;
              untouched = untouched a l;
              cleared = cleared a l;
              kept = λ number line r h. each-kept before after (untouched a l number line r h);
              all_zero = λ number line r h. each-zero before after (cleared a l number line r h);
            };
        demand2 = λ pair s r. calculates pair.cells pair.statements (sound pair) s (agreed pair s r);
        demand3 = λ pair s r. (held pair.cells pair.statements (sound pair) s (agreed pair s r)).exact;
        acceptance = accepting a;
        reporting = λ pair s r. prints pair.cells pair.statements (sound pair) s (agreed pair s r);
      }
