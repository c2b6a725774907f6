-- The analysis that is to stand: what is promised follows from what the analysis answers and leaves.
use Rattle.common_laws.proofs.Base.{true, false, List, [], ◌++◌, append-nil, ◌≡◌, refl, sym, ap, subst, ◌∙◌, ℕ, ◌<◌, arith, length, drop, replicate, length-replicate, drop-length}
use Rattle.sizes.specs.Sizes as Size
use Rattle.reading.specs.Choice.{pick}
use Rattle.reading.specs.Numbers as No
use Rattle.reading.specs.Refusal.{Read, refused, read, ◌>>◌, weigh}
use Rattle.reading.specs.declared.Refusal.{Refusal}
use Rattle.reading.proofs.Laws.{by_test, clash, refused-read, same-refusal, then-read, weigh-one}
use Rattle.calculation.specs.Calculation.{Analysed, analysed}
use Rattle.calculation.specs.Pads.{fresh}
use Rattle.calculation.proofs.StandingAnalysis.{fresh-standing}
use Rattle.calculation.specs.Stored.{whole}
use Rattle.std.specs.Prelude.{Result, Ok, Err}
use Rattle.demands.specs.declared.Summary.{Summary}
use Rattle.reading.specs.Answer.{answer_read}
use Rattle.demands.specs.Demands.{PairRead, Promised}
use Rattle.demands.specs.Outcome.{Given, Lent, entry, outcome, answer, reading, left, left_from, left_later, filled, summary}
use Rattle.demands.specs.Outcome as O
use Rattle.demands.proofs.Acceptance.{concluded, Accepts, accepts}
use Rattle.demands.proofs.EntryChecks.{own-fit}
use Rattle.demands.proofs.Given.{Checked}
use Rattle.demands.proofs.Room.{pair-sound, entry-number, later_number, longest-most}
use Rattle.demands.specs.Own.{own_tables}
use Rattle.standing_table.specs.Held.{entered}
use Rattle.standing_calls.specs.Calls.{table_short, standing, stood_later, stood_from, stood, reported_from, reported}
use Rattle.standing_calls.specs.Promise.{StandPromised}
use Rattle.standing_table.specs.StandingTable.{standing_words, StandsIn}
use Rattle.standing_calls.proofs.Meaning.{means}

module _ (g : Given) (checks : Checked g) (before report : List ℕ) where
  pub stand-short : table_short before ≡ true → StandPromised g before report before report (refused No.table_short 0)
  unfolding standing stood stood_from reported reported_from entered weigh pick answer ◌>>◌
  stand-short t =
      record {
        answers = rw t;
        leaves = rw t;
        reports = rw t;
        analyses = λ f. clash (table_short before) t f;
        stands = λ pair a r. refused-read r;
        means = λ s h. means g before s h checks.sound;
        untouched = λ number line r e. (refl, refl);
        cleared = λ number line r e.
            let z : number ≡ No.table_short = (same-refusal number line No.table_short 0 (sym r)).0 in
            clash (No.of_entry number) (rw z) e;
      }

  module _ (long : table_short before ≡ false) (tables : Lent) (told : Read Summary) (p : Promised g (own_tables report) tables told) where
    abbrev m : Lent
    m = own_tables report

    entry_is : entered (table_short before) g ≡ entry g m
    unfolding entered entry
    entry_is = rw (long, own-fit report)

    answers-so : told ≡ answer (standing g before report)
    unfolding standing weigh pick ◌>>◌
    answers-so = p.answers ∙ rw long

    report-so : tables.report ≡ reported g before report
    unfolding reported
    report-so = ap (λ (x : Lent). x.report) p.leaves ∙ by (entry g m) refl ∙ ap (λ (e : Read (Unit {0})). reported_from e g report) (sym entry_is)
      where
        by : (e : Read (Unit {0})) → entry g m ≡ e → (left g m).report ≡ reported_from (entry g m) g report
        by (refused number line) e = unfold left left_from reported_from own_tables in rw e
        by (read u) e = unfold reported_from in rw e

    brief : entry g m ≡ read tt → g.long ≡ false
    unfolding entry
    brief e = (weigh-one No.text_long 0 g.long [] tt (weigh-one No.table_short 0 (O.table_short m) _ tt e).1).0

    report-zero : tables ≡ O.zeroed m → tables.report ≡ replicate (length report) 0
    unfolding O.zeroed own_tables
    report-zero e = ap (λ (x : Lent). x.report) e

    report-kept : tables ≡ m → tables.report ≡ report
    unfolding own_tables
    report-kept e = ap (λ (x : Lent). x.report) e

    -- What a refusal leaves in the standing table, by its number.
    abbrev Kept : List ℕ → Type 0
    Kept after =
        (number line : ℕ) → told ≡ refused number line → after ≡ pick (No.of_entry number) before (replicate (length before) 0)

    module _ (after : List ℕ) (leaves : after ≡ stood g before report) (by_number : Kept after)
        (stands : (pair : PairRead g) (a : Summary) → told ≡ read a → StandsIn g after (fresh pair.cells pair.statements)) where
      promised : StandPromised g before report after tables.report told
      promised =
          record {
            answers = answers-so;
            leaves = leaves;
            reports = report-so;
            analyses = λ f. (tables, p, refl);
            stands = stands;
            means = λ s h. means g after s h checks.sound;
            untouched = λ number line r e. (by_number number line r ∙ (unfold pick in rw e), report-kept (p.demand1.untouched number line r e));
            cleared = λ number line r e. (by_number number line r ∙ (unfold pick in rw e), report-zero (p.demand1.cleared number line r e));
          }

    came_refused : (n l : ℕ) → entry g m ≡ read tt → reading g (length report) ≡ refused n l → told ≡ refused n l
    unfolding outcome answer own_tables ◌>>◌
    came_refused n l e q = p.answers ∙ rw (e, q)

    came-read : (a : O.Accepted) → entry g m ≡ read tt → reading g (length report) ≡ read a → told ≡ read (summary a)
    unfolding outcome answer own_tables ◌>>◌
    came-read a e q = p.answers ∙ rw (e, q)

    answered-refused : (n l : ℕ) → outcome g m ≡ refused n l → told ≡ refused n l
    unfolding answer
    answered-refused n l e = p.answers ∙ rw e

    answered-read : (a : O.Accepted) → outcome g m ≡ read a → told ≡ read (summary a)
    unfolding answer
    answered-read a e = p.answers ∙ rw e

    -- ---- refused

    stood_is : stood_from (entry g m) (reading g (length report)) before ≡ stood g before report
    unfolding stood
    stood_is = ap (λ (x : Read (Unit {0})). stood_from x (reading g (length report)) before) (sym entry_is)

    stood-behind : entry g m ≡ read tt → stood_later (reading g (length report)) before ≡ stood_from (entry g m) (reading g (length report)) before
    unfolding stood_from
    stood-behind e = rw e

    module _ (number line : ℕ) (r : told ≡ refused number line) where
      abbrev kept : List ℕ
      kept = pick (No.of_entry number) before (replicate (length before) 0)

      zeroed_later : (n l : ℕ) → number ≡ n → No.of_entry n ≡ false → reading g (length report) ≡ refused n l → kept ≡ stood_later (reading g (length report)) before
      unfolding stood_later pick
      zeroed_later n l same w q = rw (same, w, q)

      kept_entry : (n l : ℕ) → number ≡ n → No.of_entry n ≡ true → entry g m ≡ refused n l → kept ≡ stood_from (entry g m) (reading g (length report)) before
      unfolding stood_from pick
      kept_entry n l same w q = rw (same, w, q)

      own-reading : (n l : ℕ) → reading g (length report) ≡ refused n l → reading g (length m.report) ≡ refused n l
      unfolding own_tables
      own-reading n l q = q

      later : entry g m ≡ read tt → (o : Read O.Accepted) → reading g (length report) ≡ o → kept ≡ stood_later (reading g (length report)) before
      later e (refused n l) q =
          let s : told ≡ refused n l = came_refused n l e q in
          let same : number ≡ n = cc (sym r ∙ s) in
          zeroed_later n l same (later_number g checks m n l (own-reading n l q)) q
      later e (read a) q =
          let s : told ≡ read (summary a) = came-read a e q in
          refused-read (sym r ∙ s)

      by_entry : (x : Read (Unit {0})) → entry g m ≡ x → kept ≡ stood_from (entry g m) (reading g (length report)) before
      by_entry (refused n l) e =
          let s : told ≡ refused n l = (p.demand1.at_entry n l e).0 in
          let same : number ≡ n = cc (sym r ∙ s) in
          kept_entry n l same (entry-number g checks m n l e) e
      by_entry (read u) e = later e (reading g (length report)) refl ∙ stood-behind e

      pub stand-refused : (after : List ℕ) → after ≡ kept → StandPromised g before report after tables.report told
      stand-refused after e =
          promised after (e ∙ by_entry (entry g m) refl ∙ stood_is)
          (λ n l q. e ∙ ap (λ (k : ℕ). pick (No.of_entry k) before (replicate (length before) 0)) (same-refusal number line n l (sym r ∙ q)).0)
          (λ pair a s. refused-read (sym r ∙ s))

    -- ---- accepted

    module _ (a : Summary) (r : told ≡ read a) where
      record Made : Type 0 where
        x : O.Accepted
        came : outcome g m ≡ read x
        says : a ≡ summary x
        entered_so : entry g m ≡ read tt
        reads : reading g (length report) ≡ read x

      came-in : (x : O.Accepted) → outcome g m ≡ read x → (entry g m >> reading g (length report)) ≡ read x
      unfolding outcome own_tables
      came-in x e = e

      made : Made
      made = from (outcome g m) refl
        where
          from : (o : Read O.Accepted) → outcome g m ≡ o → Made
          from (refused n l) e = refused-read (sym (answered-refused n l e) ∙ r)
          from (read x) e =
              let s : told ≡ read (summary x) = answered-read x e in
              then-read (entry g m) (reading g (length report)) x (λ u q z. record { x = x; came = e; says = cc (sym r ∙ s); entered_so = q; reads = z }) (came-in x e)

      numbers-are : tables.numbers ≡ made.x.analysis.numbers
      numbers-are =
          ap (λ (z : Lent). z.numbers) p.leaves
          ∙ left-numbers
          ∙ ap (λ (z : List ℕ). made.x.analysis.numbers ++ z) none
          ∙ append-nil made.x.analysis.numbers
        where
          left-numbers : (left g m).numbers ≡ made.x.analysis.numbers ++ drop Size.numbers (replicate Size.numbers 0)
          left-numbers = unfold left left_from left_later filled own_tables in rw (made.entered_so, made.reads)

          none : drop Size.numbers (replicate {A = ℕ} Size.numbers 0) ≡ []
          none = ap (λ (n : ℕ). drop n (replicate {A = ℕ} Size.numbers 0)) (sym (length-replicate {A = ℕ} Size.numbers 0)) ∙ drop-length (replicate {A = ℕ} Size.numbers 0)

      counts-are : a.counts ≡ made.x.analysis.counts
      unfolding summary
      counts-are = ap (λ (z : Summary). z.counts) made.says

      whole_is : whole a.counts tables.numbers ≡ made.x.analysis
      whole_is =
          let c = counts-are in
          λ i. record { numbers = numbers-are i; counts = c i }

      pub stand-accepted : (after : List ℕ) → after ≡ standing_words [] (whole a.counts tables.numbers) ++ drop Size.standing before
          → StandPromised g before report after tables.report told
      stand-accepted after e =
          promised after (words ∙ later_words ∙ stood-behind made.entered_so ∙ stood_is) (λ n l q. refused-read (sym q ∙ r)) stands
        where
          later_words : standing_words [] made.x.analysis ++ drop Size.standing before ≡ stood_later (reading g (length report)) before
          later_words = unfold stood_later in rw made.reads

          words : after ≡ standing_words [] made.x.analysis ++ drop Size.standing before
          words = e ∙ ap (λ (z : Analysed). standing_words [] z ++ drop Size.standing before) whole_is

          stands : (pair : PairRead g) (b : Summary) → told ≡ read b → StandsIn g after (fresh pair.cells pair.statements)
          stands pair b q =
              record {
                past = drop Size.standing before;
                words = unfold fresh in words ∙ ap (λ (z : Analysed). standing_words [] z ++ drop Size.standing before) analysis_is;
                brief = brief made.entered_so;
                cells_read = unfold fresh in pair.cells_read;
                standing = fresh-standing g.statements pair.cells pair.statements (pair-sound g checks pair) pair.statements_read;
              }
            where
              h : Accepts g (length m.report) made.x
              h = accepts g m made.x made.came

              same_cells : made.x.cells ≡ pair.cells
              same_cells = cc (h.cells, pair.cells_read)

              read-so : g.statements pair.cells ≡ read made.x.statements
              read-so = rw (← same_cells) h.statements

              same-statements : made.x.statements ≡ pair.statements
              same-statements = cc (read-so, pair.statements_read)

              analysis_is : made.x.analysis ≡ analysed pair.cells pair.statements
              analysis_is = ap (λ (z : O.Accepted). z.analysis) (sym h.made ∙ (λ i. concluded (same_cells i) (same-statements i)))

-- ---- by the answer in the code

module _ (g : Given) (checks : Checked g) (before report : List ℕ) (long : table_short before ≡ false)
    (tables : Lent) (x : Result Summary Refusal) (p : Promised g (own_tables report) tables (answer_read x)) where
  pub told-refused : (r : Refusal) → x ≡ Err r → (after : List ℕ) → after ≡ pick (No.of_entry r.number) before (replicate (length before) 0)
      → StandPromised g before report after tables.report (answer_read (Err r))
  told-refused r e after left =
      subst (StandPromised g before report after tables.report) (ap answer_read e)
      (stand-refused g checks before report long tables (answer_read x) p r.number r.line (refused-so r e) after left)
    where
      refused-so : (r : Refusal) → x ≡ Err r → answer_read x ≡ refused r.number r.line
      refused-so r e = unfold answer_read in rw e

  pub told-accepted : (a : Summary) → x ≡ Ok a → (after : List ℕ)
      → after ≡ standing_words [] (whole a.counts tables.numbers) ++ drop Size.standing before
      → StandPromised g before report after tables.report (answer_read (Ok a))
  told-accepted a e after left =
      subst (StandPromised g before report after tables.report) (ap answer_read e)
      (stand-accepted g checks before report long tables (answer_read x) p a (accepted-so a e) after left)
    where
      accepted-so : (a : Summary) → x ≡ Ok a → answer_read x ≡ read a
      accepted-so a e = unfold answer_read in rw e

-- ---- the report's length

-- Below the number from which on a C caller has a refusal.
pub stand-length : (lib net before report after report' : List ℕ) (told : Read Summary)
    → StandPromised (O.given_texts lib net) before report after report' told → (a : Summary) → told ≡ read a → a.length < Size.code_lines
stand-length lib net before report after report' told p a e =
    by_test (table_short before)
    (λ t. refused-read (sym (p.answers ∙ short t) ∙ e))
    (λ t.
    let x = p.analyses t in
    let pair = x.1.acceptance.was_read a e in
    omega (arith, (x.1.reporting pair a e).short, longest-most pair.statements))
  where
    short : table_short before ≡ true → answer (standing (O.given_texts lib net) before report) ≡ refused No.table_short 0
    short t = unfold standing weigh pick answer ◌>>◌ in rw t
