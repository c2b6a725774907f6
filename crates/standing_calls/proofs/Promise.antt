-- Asking and committing: what is promised follows from what is answered and left.
use Rattle.common_laws.proofs.Base.{Bool, true, false, not, ◌||◌, List, [], ◌∷◌, ◌++◌, inl, inr, ◌≡◌, refl, sym, ap, subst, ◌∙◌, ℕ, ◌≤◌, ◌<◌, arith, ltb-false, not-false, ltb}
use Rattle.common_laws.proofs.Base.{length, get_or, drop, List-get_or-append, ext_get_or}
use Rattle.sizes.specs.Sizes as Size
use Rattle.sizes.specs.Places.{observing_place}
use Rattle.reading.specs.Choice.{pick}
use Rattle.reading.specs.Numbers as No
use Rattle.reading.specs.Refusal.{Read, refused, read, ◌>>=◌, ◌>>◌, weigh}
use Rattle.reading.proofs.Laws.{by_test, or_left, or_right, bind_read, then-read, refused-read, weigh-one}
use Rattle.plans.proofs.Laws.{at_getD}
use Rattle.library_table.proofs.Laws.{library-sound}
use Rattle.calculation.specs.Acceptance.{BothSound}
use Rattle.calculation.specs.Prices.{prices_of}
use Rattle.calculation.specs.Nodes.{Kind, kind_number, observe, node}
use Rattle.calculation.specs.Calculation.{analysed}
use Rattle.calculation.specs.LinePlans.{Exact}
use Rattle.calculation.specs.Pads.{padded, State, statements_of, unpaddable, stale, placeable, placed, Operation, ask, commit, causes_of, checked, step}
use Rattle.calculation.specs.StandingAnalysis.{Standing, OnePadMore}
use Rattle.calculation.proofs.Laws.{own-figures, exact, numbers-length, node-inside}
use Rattle.calculation.proofs.Pads.{both-sound, padded-more, placeable-sound, said, free}
use Rattle.calculation.proofs.StandingAnalysis.{pads-few, step-standing, one-pad-more}
use Rattle.demands.proofs.Numbers.{placed_purpose}
use Rattle.demands.specs.Outcome.{Given, Pair, read_pair}
use Rattle.demands.proofs.Acceptance.{read_as}
use Rattle.demands.proofs.Given.{Checked}
use Rattle.standing_table.specs.Held.{entered, foreign, held_by}
use Rattle.standing_calls.specs.Calls.{comes, table_short, answer_short, ticket_of, answer_after, placed_of, table_after, asked, committed}
use Rattle.standing_table.specs.StandingTable.{answer_place}
use Rattle.standing_calls.specs.Promise.{Answered, AskRefused, PadSeen, AskPromised, CommitRefused, CommitPromised}
use Rattle.standing_table.specs.StandingTable.{standing_words, pads_held, observed_place, observed_words, state_held, StandsIn}
use Rattle.standing_calls.proofs.Meaning.{numbers-size, table-long, held-standing, comes-standing, means}
use Rattle.standing_table.proofs.StandingTable.{numbers-part, number_at, observed-length, observed-word, observed-at}

-- ---- the checks of an ask and of a commit

module _ (s : State) (l : ℕ) where
  pub ask-taken : unpaddable s l ≡ true → checked s (ask l) ≡ refused No.unpaddable 0
  unfolding checked causes_of weigh pick ◌>>◌
  ask-taken t = rw t

  pub ask-free : unpaddable s l ≡ false → checked s (ask l) ≡ read s
  unfolding checked causes_of weigh pick ◌>>◌
  ask-free t = rw t

  module _ (n : ℕ) where
    pub commit-taken : unpaddable s l ≡ true → checked s (commit l n) ≡ refused No.unpaddable 0
    unfolding checked causes_of weigh pick ◌>>◌
    commit-taken t = rw t

    pub commit-stale : unpaddable s l ≡ false → stale s n ≡ true → checked s (commit l n) ≡ refused No.ticket_stale 0
    unfolding checked causes_of weigh pick ◌>>◌
    commit-stale t u = rw (t, u)

    pub commit-free : unpaddable s l ≡ false → stale s n ≡ false → checked s (commit l n) ≡ read s
    unfolding checked causes_of weigh pick ◌>>◌
    commit-free t u = rw (t, u)

    -- A commit that passes is one whose ask does.
    commit-passes : (x : State) → checked s (commit l n) ≡ read x → (s ≡ x) × ((unpaddable s l ≡ false) × (stale s n ≡ false))
    commit-passes x e =
        by_test (unpaddable s l)
        (λ t. refused-read (sym (commit-taken t) ∙ e))
        (λ t. by_test (stale s n) (λ u. refused-read (sym (commit-stale t u) ∙ e)) (λ u. (cc (sym (commit-free t u) ∙ e), (t, u))))

  ask-passes : (x : State) → checked s (ask l) ≡ read x → (s ≡ x) × (unpaddable s l ≡ false)
  ask-passes x e = by_test (unpaddable s l) (λ t. refused-read (sym (ask-taken t) ∙ e)) (λ t. (cc (sym (ask-free t) ∙ e), t))

place-node : (k : Kind) (m : ℕ) → observing_place (kind_number k) m ≡ node k (observe m)
unfolding node
place-node k m = omega arith

-- ---- what a call came to

module _ (g : Given) (checks : Checked g) where
  -- A slice that is too short.
  pub comes-short : (table : List ℕ) (o : Operation) → comes g true table o ≡ refused No.table_short 0
  unfolding comes entered weigh pick ◌>>◌
  comes-short table o = refl

  pub record Held (table : List ℕ) (s : State) : Type 0 where
    pub sound : BothSound s.cells (statements_of s)
    pub few : length s.pads ≤ Size.pads

  held_of : (table : List ℕ) (p : Pair) → BothSound p.cells p.statements → foreign (state_held p.cells p.statements table) ≡ false
      → Held table (state_held p.cells p.statements table)
  unfolding foreign state_held
  held_of table p both f =
      let many = ltb Size.pads (length (pads_held table)) in
      let placing = placeable p.statements (pads_held table) in
      record {
        sound = placeable-sound p.cells p.statements (pads_held table) both (not-false placing (or_right many (not placing) f));
        few = ltb-false Size.pads (length (pads_held table)) (or_left many (not placing) f);
      }

  -- What a table holds, whatever it is, is accepted with its pads.
  pub held : (table : List ℕ) (s : State) → held_by g table ≡ read s → Held table s
  unfolding held_by
  held table s e =
      bind_read (read_pair g) _ s
      (λ p q r.
      then-read (weigh 0 _) _ s
      (λ u w z.
      let f : foreign (state_held p.cells p.statements table) ≡ false = (weigh-one No.unpaddable 0 _ [] u w).0 in
      let is : state_held p.cells p.statements table ≡ s = cc in
      rw (← is) (held_of table p (pair-sound p q) f)) r) e
    where
      pair-sound : (p : Pair) → read_pair g ≡ read p → BothSound p.cells p.statements
      pair-sound p q =
          let r = read_as g p q in
          record { library = library-sound g.library p.cells r.cells; netlist = checks.sound p.cells p.statements r.statements }

  -- One pad more is accepted too.
  pub more-few : (table : List ℕ) (s : State) → Held table s → (l : ℕ) → unpaddable s l ≡ false → length (s.pads ++ (l ∷ [])) ≤ Size.pads
  more-few table s h l good =
      let b : BothSound s.cells (padded s.statements (s.pads ++ (l ∷ []))) =
      rw (padded-more s.statements s.pads l) (both-sound s.cells (statements_of s) l h.sound (said s l good) (free s l good)) in
      pads-few s.cells s.statements (s.pads ++ (l ∷ [])) b.netlist

  -- ---- asking

  module _ (table : List ℕ) (l : ℕ) (short : Bool) where
    pub asked_of : (s : State) → comes g short table (ask l) ≡ read s → (short ≡ false) × ((held_by g table ≡ read s) × (unpaddable s l ≡ false))
    unfolding comes
    asked_of s e =
        then-read (entered short g) _ s
        (λ u p q.
        bind_read (held_by g table) _ s
        (λ x r z. let a = ask-passes x l s z in (entered_long u p, (r ∙ ap read a.0, rw a.0 at a.1))) q) e
      where
        entered_long : (u : Unit {0}) → entered short g ≡ read u → short ≡ false
        entered_long u p = unfold entered in (weigh-one No.table_short 0 short _ u p).0

  module _ (table : List ℕ) (l : ℕ) (before after : List ℕ) (told : Read ℕ) where
    abbrev short : Bool
    short = table_short table || answer_short before

    module _ (answers : told ≡ ticket_of (comes g short table (ask l))) (leaves : after ≡ answer_after (comes g short table (ask l)) l before) where
      ask-untouched : (o : Read State) → comes g short table (ask l) ≡ o → (number line : ℕ) → told ≡ refused number line → after ≡ before
      unfolding ticket_of answer_after
      ask-untouched (refused n k) e number line r = leaves ∙ rw e
      ask-untouched (read s) e number line r = refused-read (sym r ∙ (rw e at answers))

      ask-read : (o : Read State) → comes g short table (ask l) ≡ o → (n : ℕ) → told ≡ read n → (s : State) × ((comes g short table (ask l) ≡ read s) × (n ≡ length s.pads))
      unfolding ticket_of
      ask-read (refused m k) e n r = refused-read (sym (rw e at answers) ∙ r)
      ask-read (read s) e n r = (s, (e, cc (sym r ∙ (rw e at answers))))

      ask-few : (n : ℕ) → told ≡ read n → n ≤ Size.pads
      ask-few n r =
          let x = ask-read (comes g short table (ask l)) refl n r in
          rw x.1.1 (held table x.0 (asked_of table l short x.0 x.1.0).1.0).few

      module _ (s : State) (h : StandsIn g table s) where
        abbrev stood : Standing g.statements s
        stood = h.standing

        fitting : answer_short before ≡ false → comes g short table (ask l) ≡ checked s (ask l)
        fitting f = rw (table-long g table s h, f) (comes-standing g table s h (ask l))

        new-numbers : unpaddable s l ≡ false → (placed s l).analysis.numbers ≡ (analysed s.cells (padded s.statements (s.pads ++ (l ∷ [])))).numbers
        new-numbers t = unfold placed in (one-pad-more g.statements s stood l t).numbers

        ask-stands : answer_short before ≡ false → Answered (asked s l) before after told
        unfolding asked causes_of weigh pick ticket_of answer_after ◌>>◌
        ask-stands f =
            by_test (unpaddable s l)
            (λ t. let e : comes g short table (ask l) ≡ refused No.unpaddable 0 = fitting f ∙ ask-taken s l t in rw t (rw e at answers, rw e at leaves))
            (λ t.
            let e : comes g short table (ask l) ≡ read s = fitting f ∙ ask-free s l t in
            rw t (rw e at answers, (rw e at leaves) ∙ ap (λ (z : List ℕ). observed_words z ++ drop Size.observed before) (new-numbers t)))

        ask-refuses : (number line : ℕ) → told ≡ refused number line → AskRefused s l before number line
        unfolding ticket_of
        ask-refuses number line r =
            by_test (answer_short before)
            (λ f.
            let e : comes g short table (ask l) ≡ refused No.table_short 0 = rw (table-long g table s h, f) (comes-short table (ask l)) in
            let z : ◌≡◌ {A = Read ℕ} (refused number line) (refused No.table_short 0) = sym r ∙ (rw e at answers) in
            (cc, inl (cc, f)))
            (λ f.
            by_test (unpaddable s l)
            (λ t.
            let e : comes g short table (ask l) ≡ refused No.unpaddable 0 = fitting f ∙ ask-taken s l t in
            let z : ◌≡◌ {A = Read ℕ} (refused number line) (refused No.unpaddable 0) = sym r ∙ (rw e at answers) in
            (cc, inr (cc, t)))
            (λ t.
            let e : comes g short table (ask l) ≡ read s = fitting f ∙ ask-free s l t in
            refused-read (sym r ∙ (rw e at answers))))

        ask-sees : (n : ℕ) → told ≡ read n → PadSeen s l table after
        unfolding answer_after
        ask-sees n r =
            record {
              exact =
                  λ k m low high.
                  subst (λ (y : ℕ). Exact s.cells (statements_of (placed s l)) k (observe m) y)
                  (sym (seen k m low high ∙ ap (λ (z : List ℕ). get_or z (observing_place (kind_number k) m) 0) more.numbers ∙ ap (λ (i : ℕ). get_or (analysed s.cells (statements_of (placed s l))).numbers i 0) (place-node k m)))
                  (exact s.cells (statements_of (placed s l)) sound (prices_of (statements_of (placed s l))) (own-figures sound) k (observe m) (placed_purpose (observe m) (low, high)));
              lower =
                  λ k m low high.
                  let i = observing_place (kind_number k) m in
                  let inside : i < Size.numbers = rw (place-node k m) (node-inside k (observe m) (placed_purpose (observe m) (low, high))) in
                  rw (seen k m low high, h.words, number_at s.pads s.analysis h.past (numbers-size s stood) i inside, ← at_getD s.analysis.numbers i 0 (rw (numbers-size s stood) inside), ← at_getD (placed s l).analysis.numbers i 0 (rw new-size inside))
                  (more.lower i);
            }
          where
            x : (z : State) × ((comes g short table (ask l) ≡ read z) × (n ≡ length z.pads))
            x = ask-read (comes g short table (ask l)) refl n r

            o : (short ≡ false) × ((held_by g table ≡ read x.0) × (unpaddable x.0 l ≡ false))
            o = asked_of table l short x.0 x.1.0

            same : x.0 ≡ s
            same = cc (sym o.1.0 ∙ held-standing g table s h)

            good : unpaddable s l ≡ false
            good = rw same at o.1.1

            more : OnePadMore s l
            more = one-pad-more g.statements s stood l good

            sound : BothSound s.cells (statements_of (placed s l))
            sound = unfold placed in rw (padded-more s.statements s.pads l) (both-sound s.cells (statements_of s) l stood.sound (said s l good) (free s l good))

            new-size : length (placed s l).analysis.numbers ≡ Size.numbers
            new-size = rw more.numbers (numbers-length s.cells (statements_of (placed s l)) sound (prices_of (statements_of (placed s l))) (own-figures sound))

            left : after ≡ observed_words (placed s l).analysis.numbers ++ drop Size.observed before
            left = rw (x.1.0, same) at leaves

            seen : (k : Kind) (m : ℕ) → 1 ≤ m → m ≤ Size.lines → get_or after (answer_place k m) 0 ≡ get_or (placed s l).analysis.numbers (observing_place (kind_number k) m) 0
            seen k m low high = rw left (observed-at (placed s l).analysis.numbers (drop Size.observed before) k m low high)

      pub ask-promised : AskPromised g table l before after told
      ask-promised =
          record {
            answers = answers;
            leaves = leaves;
            untouched = ask-untouched (comes g short table (ask l)) refl;
            few = ask-few;
            stands = ask-stands;
            refuses = ask-refuses;
            sees = ask-sees;
          }

  -- ---- committing

  module _ (before : List ℕ) (l n : ℕ) (after : List ℕ) (told : Read ℕ) where
    abbrev came : Read State
    came = comes g (table_short before) before (commit l n)

    committed-of : (s : State) → came ≡ read s → (table_short before ≡ false) × ((entered false g ≡ read tt) × ((held_by g before ≡ read s) × ((unpaddable s l ≡ false) × (stale s n ≡ false))))
    unfolding comes
    committed-of s e =
        then-read (entered (table_short before) g) _ s
        (λ u p q.
        bind_read (held_by g before) _ s
        (λ x r z. let a = commit-passes x l n s z in (long u p, (rw (long u p) at p, (r ∙ ap read a.0, rw a.0 at a.1)))) q) e
      where
        long : (u : Unit {0}) → entered (table_short before) g ≡ read u → table_short before ≡ false
        long u p = unfold entered in (weigh-one No.table_short 0 (table_short before) _ u p).0

    module _ (answers : told ≡ placed_of came l) (leaves : after ≡ table_after came l before)
        (size : (s : State) → came ≡ read s → length (placed s l).analysis.numbers ≡ Size.numbers) where
      commit-untouched : (o : Read State) → came ≡ o → (number line : ℕ) → told ≡ refused number line → after ≡ before
      unfolding placed_of table_after
      commit-untouched (refused m k) e number line r = leaves ∙ rw e
      commit-untouched (read s) e number line r = refused-read (sym r ∙ (rw e at answers))

      commit-read : (o : Read State) → came ≡ o → (k : ℕ) → told ≡ read k → (s : State) × ((came ≡ read s) × (k ≡ length (s.pads ++ (l ∷ []))))
      unfolding placed_of placed
      commit-read (refused m j) e k r = refused-read (sym (rw e at answers) ∙ r)
      commit-read (read s) e k r = (s, (e, cc (sym r ∙ (rw e at answers))))

      commit-few : (k : ℕ) → told ≡ read k → k ≤ Size.pads
      commit-few k r =
          let x = commit-read came refl k r in
          let o = committed-of x.0 x.1.0 in
          rw x.1.1 (more-few before x.0 (held before x.0 o.1.1.0) l o.1.1.1.0)

      -- The CO and SO of numbers with anything behind them.
      observed-front : (xs past : List ℕ) → length xs ≡ Size.numbers → observed_words (xs ++ past) ≡ observed_words xs
      observed-front xs past long =
          ext_get_or 0 (observed_words (xs ++ past)) (observed_words xs) (observed-length (xs ++ past) ∙ sym (observed-length xs))
          (λ i h.
          let b : i < Size.observed = rw (observed-length (xs ++ past)) at h in
          let c : observed_place i < length xs = omega (arith, long) in
          observed-word (xs ++ past) i b ∙ List-get_or-append xs past 0 (observed_place i) c ∙ sym (observed-word xs i b))

      as_asked_lem : (k : ℕ) → told ≡ read k → (answer : List ℕ) → answer_short answer ≡ false
          → answer_after (comes g (table_short before || answer_short answer) before (ask l)) l answer ≡ observed_words (drop Size.standing_numbers after) ++ drop Size.observed answer
      as_asked_lem k r answer f =
          rw (o.0, f, asks)
          (unfold answer_after in
          ap (λ (z : List ℕ). z ++ drop Size.observed answer)
          (sym (ap (λ (z : List ℕ). observed_words (drop Size.standing_numbers z)) left ∙ ap observed_words (numbers-part (placed s l).pads (placed s l).analysis (drop Size.standing before)) ∙ observed-front (placed s l).analysis.numbers (drop Size.standing before) (size s x.1.0))))
        where
          x : (z : State) × ((came ≡ read z) × (k ≡ length (z.pads ++ (l ∷ []))))
          x = commit-read came refl k r

          s : State
          s = x.0

          o : (table_short before ≡ false) × ((entered false g ≡ read tt) × ((held_by g before ≡ read s) × ((unpaddable s l ≡ false) × (stale s n ≡ false))))
          o = committed-of s x.1.0

          asks : comes g false before (ask l) ≡ read s
          asks = unfold comes ◌>>◌ ◌>>=◌ in rw (o.1.0, o.1.1.0) (ask-free s l o.1.1.1.0)

          left : after ≡ standing_words (placed s l).pads (placed s l).analysis ++ drop Size.standing before
          left = unfold table_after in rw x.1.0 at leaves

      module _ (s : State) (h : StandsIn g before s) where
        abbrev stays : Standing g.statements s
        stays = h.standing

        fits : came ≡ checked s (commit l n)
        fits = rw (table-long g before s h) (comes-standing g before s h (commit l n))

        -- By the two tests.
        by_tests : {B : Type 0} → (unpaddable s l ≡ true → came ≡ refused No.unpaddable 0 → B)
            → (unpaddable s l ≡ false → stale s n ≡ true → came ≡ refused No.ticket_stale 0 → B)
            → (unpaddable s l ≡ false → stale s n ≡ false → came ≡ read s → B) → B
        by_tests taken late good =
            by_test (unpaddable s l) (λ t. taken t (fits ∙ commit-taken s l n t))
            (λ t. by_test (stale s n) (λ u. late t u (fits ∙ commit-stale s l n t u)) (λ u. good t u (fits ∙ commit-free s l n t u)))

        told-placed : came ≡ read s → told ≡ read (length (s.pads ++ (l ∷ [])))
        unfolding placed_of placed
        told-placed e = rw e at answers

        commit-stands : (told ≡ committed s l n) × StandsIn g after (step s (commit l n))
        unfolding committed causes_of weigh pick placed_of table_after step ◌>>◌
        commit-stands =
            by_tests
            (λ t e. rw t (rw e at answers, rw (rw e at leaves) h))
            (λ t u e. rw (t, u) (rw e at answers, rw (rw e at leaves) h))
            (λ t u e. rw (t, u) (told-placed e, now_stands t u (rw e at leaves)))
          where
            now_stands : unpaddable s l ≡ false → stale s n ≡ false → after ≡ standing_words (placed s l).pads (placed s l).analysis ++ drop Size.standing before → StandsIn g after (placed s l)
            now_stands t u e =
                record {
                  past = drop Size.standing before;
                  words = e;
                  brief = h.brief;
                  cells_read = unfold placed in h.cells_read;
                  standing = unfold step pick in (rw (t, u) at (step-standing g.statements s stays (commit l n)));
                }

        commit-refuses : (number line : ℕ) → told ≡ refused number line → CommitRefused s l n number line
        unfolding placed_of
        commit-refuses number line r =
            by_tests
            (λ t e. let z : ◌≡◌ {A = Read ℕ} (refused number line) (refused No.unpaddable 0) = sym r ∙ (rw e at answers) in (cc, inl (cc, t)))
            (λ t u e. let z : ◌≡◌ {A = Read ℕ} (refused number line) (refused No.ticket_stale 0) = sym r ∙ (rw e at answers) in (cc, inr (cc, u)))
            (λ t u e. refused-read (sym r ∙ (rw e at answers)))

        commit-more : (k : ℕ) → told ≡ read k → OnePadMore s l
        unfolding placed_of
        commit-more k r =
            by_tests
            (λ t e. refused-read (sym (rw e at answers) ∙ r))
            (λ t u e. refused-read (sym (rw e at answers) ∙ r))
            (λ t u e. one-pad-more g.statements s stays l t)

      pub commit-promised : CommitPromised g before l n after told
      commit-promised =
          record {
            answers = answers;
            leaves = leaves;
            untouched = commit-untouched came refl;
            few = commit-few;
            as_asked = as_asked_lem;
            stands = commit-stands;
            refuses = commit-refuses;
            more = commit-more;
            means = λ s h. means g after s h checks.sound;
          }
