-- Another library under a standing analysis: whatever asks, commits and changes of library leave is a standing analysis.
-- Document 02, K14.
use Rattle.common_laws.proofs.Base.{true, List, [], ◌∷◌, ◌++◌, ◌≡◌, refl, sym, ◌∙◌, ap, ℕ, zero, suc, ◌<◌, le_of_eq, le_trans, le_antisymm, arith, length, get_or}
use Rattle.reading.specs.Choice.{pick}
use Rattle.reading.specs.Refusal.{Read, refused, read}
use Rattle.reading.proofs.Laws.{by_test}
use Rattle.plans.specs.System.{Visit}
use Rattle.plans.specs.Sweep.{at, lower, sweeps, Rests, Settles}
use Rattle.plans.specs.Stages.{Stage, Stages, Stages.stage}
use Rattle.plans.specs.Continued.{all_by_lower}
use Rattle.plans.proofs.Laws.{at_ext, settles_under, lowered_under}
use Rattle.library_table.specs.Cells.{Cell}
use Rattle.library_table.specs.Sound as C
use Rattle.netlist_table.specs.Netlist.{Statement, mark, output, lines_of, lines_marked, mentioned, mentioned_lines, is_marked, marked_lines, gates_of}
use Rattle.netlist_table.specs.Reread.{SameLines, Rereadable}
use Rattle.netlist_table.proofs.Causes.{one_more_lem}
use Rattle.calculation.specs.declared.Counts.{Counts}
use Rattle.calculation.specs.Acceptance.{BothSound}
use Rattle.calculation.specs.Added.{RowsAdded, AtGates}
use Rattle.calculation.specs.Prices.{Figures, prices_of}
use Rattle.calculation.specs.Calculation.{stages, Analysed, analysed}
use Rattle.calculation.specs.Runs.{runs_from, lesser_runs}
use Rattle.calculation.specs.Settled.{in_order}
use Rattle.calculation.specs.Growth.{grown}
use Rattle.calculation.specs.Pads.{padded, State, statements_of, fresh, takes_none, placeable, step}
use Rattle.calculation.specs.StandingAnalysis.{Event, operate, change, went_on, begun_again, changed_to, react, reacts, Standing, AllRead, GrownReads, GoesOn, OnGoes, SameLibrary, AllStanding}
use Rattle.calculation.proofs.Prices.{own-figures}
use Rattle.calculation.proofs.Bounds.{few-sweeps, numbers-length, numbers-bounded}
use Rattle.calculation.proofs.AnyNumbers.{in_order_lem, lesser-settled}
use Rattle.calculation.proofs.Rows.{on-settled, on-few, on-numbers, goes-on-lower}
use Rattle.calculation.proofs.Growth.{rows-added, same_entries, grown-itself}
use Rattle.calculation.proofs.Pads.{placeable-sound}
use Rattle.calculation.proofs.StandingAnalysis.{fresh-standing, step-standing}

-- ---- pads behind another reading of the netlist: whether they may be placed goes by the lines that are mentioned and marked

takes_same : (ss ts : List Statement) (l : ℕ) → SameLines ss ts → takes_none ts l ≡ takes_none ss l
unfolding takes_none mentioned is_marked
takes_same ss ts l same = rw (same.mentioned, same.outputs)

more_same : (ss ts : List Statement) (l : ℕ) → SameLines ss ts → SameLines (ss ++ (mark output l ∷ [])) (ts ++ (mark output l ∷ []))
unfolding mentioned_lines marked_lines
more_same ss ts l same =
    record {
      mentioned = rw (one_more_lem lines_of ts (mark output l), one_more_lem lines_of ss (mark output l), same.mentioned);
      outputs = rw (one_more_lem (lines_marked output) ts (mark output l), one_more_lem (lines_marked output) ss (mark output l), same.outputs);
    }

pub placeable-same : (ss ts : List Statement) (ls : List ℕ) → SameLines ss ts → placeable ts ls ≡ placeable ss ls
unfolding placeable
placeable-same ss ts [] same = refl
placeable-same ss ts (l ∷ ls) same =
    rw (takes_same ss ts l same, placeable-same (ss ++ (mark output l ∷ [])) (ts ++ (mark output l ∷ [])) ls (more_same ss ts l same))

-- ---- runs from numbers that they leave as they are

-- Each of them takes one sweep.
one-sweep : {vs : List Visit} {xs ys : List ℕ} {k : ℕ} → Settles lower vs xs k ys → ys ≡ xs → k ≡ 1
one-sweep {vs} {xs} {ys} {k} s e = none s.changes s.counted s.changed
  where
    none : (n : ℕ) → k ≡ suc n → ((i : ℕ) → i < n → Rests lower vs (sweeps lower vs i xs) → ⊥) → k ≡ 1
    none zero counted changed = counted
    none (suc n) counted changed = absurd (changed 0 (omega arith) (unfold sweeps in rw e at s.rests))

-- What the first of them leaves lies between its start and the end of all.
first_stays : {vs : List Visit} {xs ys : List ℕ} {k : ℕ} (ss : List Stage) (zs counts : List ℕ) → Settles lower vs xs k ys → Stages (all_by_lower ss) ys counts zs → zs ≡ xs → ys ≡ xs
first_stays {vs} {xs} {ys} ss zs counts a b e =
    at_ext ys xs (settles_under a).long
    (λ n. le_antisymm ((settles_under a).below n) (le_trans (le_of_eq (ap (λ (t : List ℕ). at t n) (sym e))) ((lowered_under ss ys zs counts b).below n)))

unmoved_runs : (ss : List Stage) (xs zs counts : List ℕ) → Stages (all_by_lower ss) xs counts zs → zs ≡ xs → (i : ℕ) → i < length ss → get_or counts i 0 ≡ 1
unmoved_runs [] xs zs counts _ e i h = elim h [ ]
unmoved_runs (s ∷ ss) xs zs counts (stage a b) e zero h = one-sweep a (first_stays ss zs _ a b e)
unmoved_runs (s ∷ ss) xs zs counts (stage a b) e (suc i) h = unmoved_runs ss _ zs _ b (e ∙ sym (first_stays ss zs _ a b e)) i (omega arith)

module _ (given : List Cell → Read (List Statement)) (again : Rereadable given) where
  pub grown-reads : GrownReads given
  grown-reads cells more e = again.same cells more (same_entries cells more e)

  -- ---- what is read under the new library, with the pads behind it, is accepted; whatever numbers stand

  module _ (s : State) (was_read : given s.cells ≡ read s.statements) (pads : placeable s.statements s.pads ≡ true) (more : List Cell) (so : C.Sound more) where
    pub again_placeable : (ts : List Statement) → given more ≡ read ts → placeable ts s.pads ≡ true
    again_placeable ts e = placeable-same s.statements ts s.pads (again.lines s.cells more s.statements ts was_read e) ∙ pads

    pub again_sound : (ts : List Statement) → given more ≡ read ts → BothSound more (padded ts s.pads)
    again_sound ts e =
        placeable-sound more ts s.pads (record { library = so; netlist = again.sound more ts e }) (again_placeable ts e)

    -- The statements are what they were, and so are the pads behind them.
    module _ (g : grown s.cells more ≡ true) where
      pub on_read : given more ≡ read s.statements
      on_read = grown-reads s.cells more g ∙ was_read

      pub on-sound : BothSound more (statements_of s)
      on-sound = again_sound s.statements on_read

  -- ---- a standing analysis

  module _ (s : State) (h : Standing given s) (more : List Cell) (so : C.Sound more) where
    abbrev ss : List Statement
    ss = statements_of s

    again_standing : (ts : List Statement) → given more ≡ read ts → Standing given (begun_again s more ts)
    unfolding begun_again
    again_standing ts e =
        let both = again_sound s h.was_read h.pads more so ts e in
        record {
          was_read = e;
          pads = again_placeable s h.was_read h.pads more so ts e;
          sound = both;
          numbers = refl;
          few = few-sweeps more (padded ts s.pads) both (prices_of (padded ts s.pads)) (own-figures both);
        }

    module _ (g : grown s.cells more ≡ true) where
      abbrev both : BothSound more ss
      both = on-sound s h.was_read h.pads more so g

      added : AtGates RowsAdded s.cells more ss
      added = rows-added s.cells more ss h.sound.netlist g

      figures : Figures (prices_of ss) ss
      figures = own-figures h.sound

      pub goes : GoesOn s more
      unfolding went_on
      goes =
          record {
            settled = rw h.numbers (on-settled s.cells more ss h.sound both added (prices_of ss) figures);
            numbers = rw h.numbers (on-numbers s.cells more ss h.sound both added (prices_of ss) figures);
            few = rw h.numbers (on-few s.cells more ss h.sound both added (prices_of ss) figures);
          }

      on-standing : Standing given (went_on s more)
      unfolding went_on
      on-standing =
          record {
            was_read = on_read s h.was_read h.pads more so g;
            pads = h.pads;
            sound = both;
            numbers = unfold went_on in goes.numbers;
            few = unfold went_on in goes.few;
          }

      -- Runs that keep the lesser are those of the rule.
      pub lesser-on : lesser_runs more (gates_of ss) s.analysis.numbers ≡ runs_from more (gates_of ss) s.analysis.numbers
      lesser-on =
          rw h.numbers
          (let xs = (analysed s.cells ss).numbers in
          let a : Analysed = lesser_runs more (gates_of ss) xs in
          let run =
          lesser-settled more ss both xs (numbers-length s.cells ss h.sound (prices_of ss) figures) (numbers-bounded s.cells ss h.sound (prices_of ss) figures) in
          let e = goes-on-lower s.cells more ss h.sound both added (prices_of ss) figures a run in
          let n = e.0 ∙ sym (on-numbers s.cells more ss h.sound both added (prices_of ss) figures) in
          let c = in_order_lem a.counts (runs_from more (gates_of ss) xs).counts e.1 in
          λ i. record { numbers = n i; counts = c i })

    pub changed-standing : (r : Read (List Statement)) → given more ≡ r → Standing given (changed_to s more r)
    unfolding changed_to pick
    changed-standing (refused number line) e = h
    changed-standing (read ts) e = by_test (grown s.cells more) (λ t. rw t (on-standing t)) (λ t. rw t (again_standing ts e))

  pub same-library : SameLibrary given
  unfolding went_on
  same-library s h =
      let e = grown-itself s.cells in
      let so = h.sound.library in
      let xs = s.analysis.numbers in
      let gs = gates_of (statements_of s) in
      let lesser = lesser-on s h s.cells so e in
      let stays : (runs_from s.cells gs xs).numbers ≡ xs = (unfold went_on in (goes s h s.cells so e).numbers) ∙ sym h.numbers in
      let one =
      unmoved_runs (stages s.cells gs) xs (lesser_runs s.cells gs xs).numbers (in_order (lesser_runs s.cells gs xs).counts)
      (lesser-settled s.cells (statements_of s) h.sound xs (rw h.numbers (numbers-length s.cells (statements_of s) h.sound (prices_of (statements_of s)) (own-figures h.sound)))
      (rw h.numbers (numbers-bounded s.cells (statements_of s) h.sound (prices_of (statements_of s)) (own-figures h.sound))))
      (ap (λ (a : Analysed). a.numbers) lesser ∙ stays) in
      record {
        goes = e;
        numbers = stays;
        counts =
            ap (λ (a : Analysed). a.counts) (sym lesser)
            ∙ all_one (lesser_runs s.cells gs xs).counts (one 0 (omega arith)) (one 1 (omega arith)) (one 2 (omega arith)) (one 3 (omega arith));
      }
    where
      all_one : (c : Counts) → c.cc ≡ 1 → c.sc ≡ 1 → c.co ≡ 1 → c.so ≡ 1 → c ≡ record { cc = 1; sc = 1; co = 1; so = 1 }
      all_one c p q r t = λ i. record { cc = p i; sc = q i; co = r i; so = t i }

  pub on-goes : OnGoes given
  on-goes s h more so g = goes s h more so g

  events_standing : (s : State) → Standing given s → (es : List Event) → AllRead es → Standing given (reacts given s es)
  unfolding reacts react
  events_standing s h [] a = h
  events_standing s h (operate o ∷ es) a = events_standing (step s o) (step-standing given s h o) es a
  events_standing s h (change (refused number line) ∷ es) a = events_standing s h es a
  events_standing s h (change (read more) ∷ es) a =
      events_standing (changed_to s more (given more)) (changed-standing s h more a.0 (given more) refl) es a.1

  pub all-standing : AllStanding given
  all-standing cells ss so e es a =
      events_standing (fresh cells ss) (fresh-standing given cells ss (record { library = so; netlist = again.sound cells ss e }) e) es a
