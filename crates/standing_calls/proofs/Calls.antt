-- Asking and committing, from what their parts leave.
use Rattle.common_laws.proofs.Base.{Bool, true, false, not, ◌||◌, List, [], ◌∷◌, ◌++◌, ◌≡◌, refl, sym, ap, ◌∙◌, ℕ, suc, ◌+◌, ◌≤◌, ◌<◌, arith, ltb-false, lt-ltb, le-ltb, eqb}
use Rattle.common_laws.proofs.Base.{length, get_or, take, drop, length-append, length-take, length-drop}
use Rattle.sizes.specs.Sizes as Size
use Rattle.table.specs.Blocks.{fitted}
use Rattle.table.proofs.Places.{length-fitted}
use Rattle.reading.specs.Choice.{pick}
use Rattle.reading.specs.Numbers as No
use Rattle.reading.specs.Refusal.{Read, refused, read, ◌>>=◌, ◌>>◌, weigh}
use Rattle.reading.specs.Answer.{done_read}
use Rattle.reading.proofs.Laws.{bind_read, then-read, done_refused, refused-read, weigh-one}
use Rattle.library_table.specs.Cells.{Cell}
use Rattle.netlist_table.specs.Netlist.{Statement}
use Rattle.netlist_table.specs.Sound.{InRange}
use Rattle.netlist_table.proofs.Laws.{mentioned-in-range}
use Rattle.calculation.specs.Calculation.{Analysed}
use Rattle.calculation.specs.Prices.{prices_of}
use Rattle.calculation.specs.Runs.{observed_anew}
use Rattle.calculation.specs.Pads.{padded, State, statements_of, unpaddable, stale, placed, Operation, ask, commit, causes_of, checked}
use Rattle.calculation.proofs.Pads.{said}
use Rattle.sweep_runs.specs.declared.Sweeps.{Sweeps}
use Rattle.sweep_reruns.specs.Kept.{ObservedAnew}
use Rattle.calculation.specs.Stored.{Holds, Ready}
use Rattle.demands.specs.Outcome.{Given, read_pair}
use Rattle.demands.proofs.Given.{Checked}
use Rattle.standing_table.specs.Held.{entered, held_by, pad_causes}
use Rattle.standing_calls.specs.Calls.{comes, table_short, answer_short, ticket_of, answer_after, placed_of, table_after}
use Rattle.standing_table.specs.StandingTable.{StoresPad}
use Rattle.standing_table.specs.Parts.{PadRead}
use Rattle.standing_calls.specs.Promise.{AskPromised, CommitPromised}
use Rattle.standing_table.specs.StandingTable.{standing_words, pads_held, counts_held, analysis_held, state_held, observed_words}
use Rattle.standing_calls.proofs.Promise.{comes-short, held, more-few, ask-free, ask-promised, commit-free, commit-promised}
use Rattle.standing_table.proofs.TextsLaws.{done_both}

pub is_short : (table : List ℕ) → length table < Size.standing → table_short table ≡ true
unfolding table_short
is_short table h = lt-ltb (length table) Size.standing h

pub is_long : (table : List ℕ) → Size.standing ≤ length table → table_short table ≡ false
unfolding table_short
is_long table h = le-ltb (length table) Size.standing h

-- Both slices of an ask.
pub table_first : (table answer : List ℕ) → length table < Size.standing → (table_short table || answer_short answer) ≡ true
unfolding table_short
table_first table answer h = rw (lt-ltb (length table) Size.standing h)

pub answer_next : (table answer : List ℕ) → Size.standing ≤ length table → length answer < Size.observed → (table_short table || answer_short answer) ≡ true
unfolding table_short answer_short
answer_next table answer h k = rw (le-ltb (length table) Size.standing h, lt-ltb (length answer) Size.observed k)

pub neither_short : (table answer : List ℕ) → Size.standing ≤ length table → Size.observed ≤ length answer → (table_short table || answer_short answer) ≡ false
unfolding table_short answer_short
neither_short table answer h k = rw (le-ltb (length table) Size.standing h, le-ltb (length answer) Size.observed k)

-- ---- what is answered and left, by what a call comes to

module _ (o : Read State) (l : ℕ) (before : List ℕ) where
  ticket_refused : (number line : ℕ) → o ≡ refused number line → refused number line ≡ ticket_of o
  unfolding ticket_of
  ticket_refused number line e = rw e

  answer-refused : (number line : ℕ) → o ≡ refused number line → before ≡ answer_after o l before
  unfolding answer_after
  answer-refused number line e = rw e

  placed-refused : (number line : ℕ) → o ≡ refused number line → refused number line ≡ placed_of o l
  unfolding placed_of
  placed-refused number line e = rw e

  table-refused : (number line : ℕ) → o ≡ refused number line → before ≡ table_after o l before
  unfolding table_after
  table-refused number line e = rw e

  module _ (s : State) (e : o ≡ read s) where
    ticket_read : read (length s.pads) ≡ ticket_of o
    unfolding ticket_of
    ticket_read = rw e

    answer-read : observed_words (placed s l).analysis.numbers ++ drop Size.observed before ≡ answer_after o l before
    unfolding answer_after
    answer-read = rw e

    placed-read : read (length (placed s l).pads) ≡ placed_of o l
    unfolding placed_of
    placed-read = rw e

    table-read : standing_words (placed s l).pads (placed s l).analysis ++ drop Size.standing before ≡ table_after o l before
    unfolding table_after
    table-read = rw e

module _ (g : Given) (checks : Checked g) (table : List ℕ) where
  -- ---- what a table holds

  pub record Says (s : State) : Type 0 where
    pub pads : s.pads ≡ pads_held table
    pub analysis : s.analysis ≡ analysis_held table

  pub held_says : (s : State) → held_by g table ≡ read s → Says s
  unfolding held_by
  held_says s e =
      bind_read (read_pair g) _ s
      (λ p q r.
      then-read (weigh 0 _) _ s
      (λ u w z.
      let is : state_held p.cells p.statements table ≡ s = cc in
      rw (← is) (record { pads = unfold state_held in refl; analysis = unfold state_held in refl })) r) e

  module _ (long : table_short table ≡ false) where
    table-size : Size.standing ≤ length table
    unfolding table_short
    table-size = ltb-false (length table) Size.standing long

    -- The count of a table is that of its pads.
    pub counted : (s : State) → held_by g table ≡ read s → length s.pads ≡ get_or table 0 0
    unfolding pads_held
    counted s e =
        let few : length s.pads ≤ Size.pads = (held g checks table s e).few in
        let same : length s.pads ≡ length (take (get_or table 0 0) (drop Size.pads_at table)) = ap length (held_says s e).pads in
        omega (arith, table-size, few, same, simp (length-take, length-drop) at (sym same))

    module _ (l : ℕ) (late : Bool) (library netlist : List ℕ) (p : PadRead g table l late library netlist (read tt)) where
      -- The state that is asked: its line takes the pad, and its ticket is not stale.
      pub asks : {B : Type 0}
          → ((s : State) → entered false g ≡ read tt → held_by g table ≡ read s → unpaddable s l ≡ false → late ≡ false → Holds library netlist s.cells (statements_of (placed s l)) → B) → B
      asks on =
          done_both (entered false g) (held_by g table >>= λ s. weigh 0 (pad_causes (unpaddable s l) late)) p.answers
          (λ u e q.
          bind_read (held_by g table) _ u
          (λ s h z.
          let a = weigh-one No.unpaddable 0 (unpaddable s l) _ u z in
          on s e h a.0 (weigh-one No.ticket_stale 0 late [] u a.1).0 (p.holds s refl h)) q)

      pub ready : Ready library netlist (drop Size.standing_numbers table)
      ready =
          asks
          (λ s e h good fresh holds.
          record {
            cells = s.cells;
            statements = statements_of (placed s l);
            holds = holds;
            room = omega (arith, table-size, length-drop Size.standing_numbers table);
          })

      -- A line that takes a pad is in range.
      pub in-range : l ≤ Size.lines
      in-range =
          asks
          (λ s e h good fresh holds. unfold InRange in (mentioned-in-range s.cells (statements_of s) (held g checks table s h).sound.netlist l (said s l good)).1)

      -- There is room for one more.
      pub room : get_or table 0 0 < Size.pads
      room =
          asks
          (λ s e h good fresh holds.
          omega (arith, counted s h, more-few g checks table s (held g checks table s h) l good, length-append s.pads (l ∷ [])))

    module _ (l : ℕ) where
      -- The numbers found are those of the state with the pad.
      placed_is : (s : State) → held_by g table ≡ read s → (placed s l).analysis ≡ observed_anew (prices_of (statements_of (placed s l))) s.cells (statements_of (placed s l)) (analysis_held table)
      unfolding placed
      placed_is s e =
          let ss = padded s.statements (s.pads ++ (l ∷ [])) in
          ap (observed_anew (prices_of ss) s.cells ss) (held_says s e).analysis

      found_is : (s : State) → held_by g table ≡ read s → (numbers : List ℕ) (seen : Sweeps)
          → ObservedAnew s.cells (statements_of (placed s l)) (drop Size.standing_numbers table) numbers seen → (placed s l).analysis.numbers ≡ numbers
      unfolding observed_anew analysis_held
      found_is s e numbers seen o = ap (λ (a : Analysed). a.numbers) (placed_is s e ∙ o.runs (counts_held table))

  -- ---- a refusal

  module _ (l : ℕ) (late : Bool) (o : Operation) (same : (s : State) → held_by g table ≡ read s → weigh 0 (pad_causes (unpaddable s l) late) ≡ weigh 0 (causes_of s o)) where
    -- What is read of the pad is what the call comes to, but for the state.
    came : done_read (entered false g >> (held_by g table >>= λ s. weigh 0 (pad_causes (unpaddable s l) late))) ≡ done_read (comes g false table o)
    unfolding comes checked done_read
    came = by (entered false g) (held_by g table) refl
      where
        done_then : (r : Read (Unit {0})) (s : State) → done_read r ≡ done_read (r >> read s)
        done_then (refused n k) s = unfold done_read ◌>>◌ in refl
        done_then (read u) s = unfold done_read ◌>>◌ in refl

        by : (x : Read (Unit {0})) (y : Read State) → held_by g table ≡ y
            → done_read (x >> (y >>= λ s. weigh 0 (pad_causes (unpaddable s l) late))) ≡ done_read (x >> (y >>= λ s. weigh 0 (causes_of s o) >> read s))
        by (refused n k) y e = unfold ◌>>◌ in refl
        by (read u) (refused n k) e = unfold ◌>>◌ ◌>>=◌ in refl
        by (read u) (read s) e = unfold ◌>>◌ ◌>>=◌ in rw (same s e) (done_then (weigh 0 (causes_of s o)) s)

    pub comes-refused : (library netlist : List ℕ) (number line : ℕ) → PadRead g table l late library netlist (refused number line) → comes g false table o ≡ refused number line
    comes-refused library netlist number line p = done_refused (comes g false table o) number line (p.answers ∙ came)

  -- ---- asking

  module _ (l : ℕ) (before : List ℕ) where
    abbrev asking : Read State
    asking = comes g (table_short table || answer_short before) table (ask l)

    ask-refuses : (number line : ℕ) → asking ≡ refused number line → AskPromised g table l before before (refused number line)
    ask-refuses number line e =
        ask-promised g checks table l before before (refused number line) (ticket_refused asking l before number line e) (answer-refused asking l before number line e)

    pub ask-short : (table_short table || answer_short before) ≡ true → AskPromised g table l before before (refused No.table_short 0)
    ask-short t = ask-refuses No.table_short 0 (rw t (comes-short g checks table (ask l)))

    module _ (fits : (table_short table || answer_short before) ≡ false) (library netlist : List ℕ) where
      pub ask-stopped : (number line : ℕ) → PadRead g table l false library netlist (refused number line) → AskPromised g table l before before (refused number line)
      ask-stopped number line p =
          ask-refuses number line
          (rw fits (comes-refused l false (ask l) (λ s h. unfold causes_of weigh pick in refl) library netlist number line p))

      pub ask-answered : table_short table ≡ false → PadRead g table l false library netlist (read tt) → (numbers after : List ℕ) (seen : Sweeps)
          → ((cells : List Cell) (ss : List Statement) → Holds library netlist cells ss → ObservedAnew cells ss (drop Size.standing_numbers table) numbers seen)
          → after ≡ observed_words numbers ++ drop Size.observed before
          → AskPromised g table l before after (read (get_or table 0 0))
      ask-answered long p numbers after seen o left =
          asks long l false library netlist p
          (λ s e h good fresh holds.
          let c : asking ≡ read s = rw fits (unfold comes ◌>>◌ ◌>>=◌ in rw (e, h) (ask-free s l good)) in
          ask-promised g checks table l before after (read (get_or table 0 0))
          (ap read (sym (counted long s h)) ∙ ticket_read asking l before s c)
          (left ∙ ap (λ (z : List ℕ). observed_words z ++ drop Size.observed before) (sym (found_is long l s h numbers seen (o s.cells (statements_of (placed s l)) holds))) ∙ answer-read asking l before s c))

  -- ---- committing

  module _ (l n : ℕ) where
    abbrev committing : Read State
    committing = comes g (table_short table) table (commit l n)

    refuses : (number line : ℕ) → committing ≡ refused number line → CommitPromised g table l n table (refused number line)
    refuses number line e =
        commit-promised g checks table l n table (refused number line) (placed-refused committing l table number line e) (table-refused committing l table number line e)
        (λ s f. refused-read (sym e ∙ f))

    pub commit-short : table_short table ≡ true → CommitPromised g table l n table (refused No.table_short 0)
    commit-short t = refuses No.table_short 0 (rw t (comes-short g checks table (commit l n)))

    module _ (long : table_short table ≡ false) (library netlist : List ℕ) where
      -- Whether the ticket is stale, by the count of the table.
      abbrev late : Bool
      late = not (eqb n (get_or table 0 0))

      stale_is : (s : State) → held_by g table ≡ read s → late ≡ stale s n
      unfolding stale
      stale_is s h = rw (counted long s h)

      pub commit-stopped : (number line : ℕ) → PadRead g table l late library netlist (refused number line) → CommitPromised g table l n table (refused number line)
      commit-stopped number line p =
          refuses number line
          (rw long (comes-refused l late (commit l n) (λ s h. unfold causes_of in rw (stale_is s h)) library netlist number line p))

      pub commit-stored : PadRead g table l late library netlist (read tt) → (after : List ℕ) → length after ≡ length table
          → ((cells : List Cell) (ss : List Statement) → Holds library netlist cells ss → StoresPad cells ss (get_or table 0 0) l table after)
          → CommitPromised g table l n after (read (suc (get_or table 0 0)))
      commit-stored p after same stores =
          asks long l late library netlist p
          (λ s e h good fresh holds.
          let c : committing ≡ read s = rw long (unfold comes ◌>>◌ ◌>>=◌ in rw (e, h) (commit-free s l n good (sym (stale_is s h) ∙ fresh))) in
          commit-promised g checks table l n after (read (suc (get_or table 0 0)))
          (ap read (more s h) ∙ placed-read committing l table s c)
          (left s h holds ∙ table-read committing l table s c)
          (λ x f. let is : s ≡ x = cc (sym c ∙ f) in rw (← is) (size s h holds)))
        where
          more : (s : State) → held_by g table ≡ read s → suc (get_or table 0 0) ≡ length (placed s l).pads
          more s h = unfold placed in omega (arith, counted long s h, length-append s.pads (l ∷ []))

          stored : (s : State) → held_by g table ≡ read s → take (get_or table 0 0) (drop Size.pads_at table) ++ (l ∷ []) ≡ (placed s l).pads
          stored s h = unfold placed pads_held in ap (λ (z : List ℕ). z ++ (l ∷ [])) (sym (held_says s h).pads)

          left : (s : State) → held_by g table ≡ read s → Holds library netlist s.cells (statements_of (placed s l))
              → after ≡ standing_words (placed s l).pads (placed s l).analysis ++ drop Size.standing table
          left s h holds =
              stores s.cells (statements_of (placed s l)) holds
              ∙ ap (λ (z : List ℕ). standing_words z (observed_anew (prices_of (statements_of (placed s l))) s.cells (statements_of (placed s l)) (analysis_held table)) ++ drop Size.standing table) (stored s h)
              ∙ ap (λ (z : Analysed). standing_words (placed s l).pads z ++ drop Size.standing table) (sym (placed_is long l s h))

          words-length : (pads : List ℕ) (a : Analysed) → length (standing_words pads a) ≡ Size.standing_numbers + length a.numbers
          words-length pads a = unfold standing_words in omega (arith, length-append (fitted 0 Size.pads pads) a.numbers, length-fitted 0 Size.pads pads)

          size : (s : State) → held_by g table ≡ read s → Holds library netlist s.cells (statements_of (placed s l)) → length (placed s l).analysis.numbers ≡ Size.numbers
          size s h holds =
              omega (arith, same, ap length (left s h holds), length-append (standing_words (placed s l).pads (placed s l).analysis) (drop Size.standing table), words-length (placed s l).pads (placed s l).analysis, length-drop Size.standing table, table-size long)
