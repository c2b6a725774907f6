-- The words of all values, one value after the other.
use Rattle.common_laws.proofs.Base.{Bool, true, false, List, ◌++◌, ◌≡◌, refl, sym, ap, ◌∙◌, ℕ, ◌+◌, ◌-◌, ◌/◌, ◌%◌, ◌≤◌, ◌<◌, ℕ_discrete, dec_le, arith, lt-ltb, le-ltb, ltb, length}
use Rattle.common_laws.proofs.Base.{get_or, set, drop, length-set, length-append, length-drop, ext_get_or, get_or-set_same, get_or-set_other, get_or-drop, get_or-append-add}
use Rattle.sizes.specs.Sizes as Size
use Rattle.sizes.specs.Places.{leaf_place, flag_place}
use Rattle.reading.specs.Choice.{pick}
use Rattle.cost.specs.Cost.{never}
use Rattle.plans.specs.System.{System}
use Rattle.plans.specs.Sweep.{at}
use Rattle.plans.specs.Budget.{fixed, offer, bid}
use Rattle.plans.proofs.Laws.{at_getD}
use Rattle.library_table.specs.Cells.{Cell}
use Rattle.netlist_table.specs.Netlist.{Statement}
use Rattle.calculation.specs.Acceptance.{BothSound}
use Rattle.calculation.specs.Systems.{system}
use Rattle.calculation.specs.Budget.{best_within, flagged, handed, best_words}
use Rattle.calculation.proofs.Budget.{words-length, words_last, words_leaf}
use Rattle.budget_queue.specs.Queue.{cost_at}
use Rattle.budget_run.specs.Queued.{RanWithin}
use Rattle.budget_call.specs.Parts.{number_at, flag_at, handed_at, two_words, with_value, Handed, Filled}

-- ---- one value more

module _ (numbers q best : List ℕ) (i place : ℕ) (place_is : place ≡ leaf_place i) where
  pub value-fixed : get_or numbers place 0 < never → two_words i 1 (get_or numbers place 0) best ≡ with_value numbers q i best
  unfolding with_value flag_at handed_at pick
  value-fixed h = rw (← place_is, lt-ltb (get_or numbers place 0) never h)

  pub value_open : never ≤ get_or numbers place 0 → (offer : ℕ) → offer ≡ cost_at q i → two_words i 0 offer best ≡ with_value numbers q i best
  unfolding with_value flag_at handed_at pick
  value_open h offer e = rw (← place_is, le-ltb (get_or numbers place 0) never h, e)

pub handed-none : (numbers q before : List ℕ) → Handed numbers q 0 before before
handed-none numbers q before =
    record { long = refl; flags = λ i h. absurd (omega arith); shown = λ i h. absurd (omega arith); first = refl; rest = λ n h. refl }

module _ (numbers q : List ℕ) (i : ℕ) (xs : List ℕ) (room : flag_place i + 1 < length xs) where
  pub with-length : length (with_value numbers q i xs) ≡ length xs
  unfolding with_value
  with-length = length-set (set xs (flag_place i) (flag_at numbers i)) (flag_place i + 1) (handed_at numbers q i) ∙ length-set xs (flag_place i) (flag_at numbers i)

  with-handed : get_or (with_value numbers q i xs) (flag_place i + 1) 0 ≡ handed_at numbers q i
  unfolding with_value
  with-handed =
      get_or-set_same (set xs (flag_place i) (flag_at numbers i)) (flag_place i + 1) (handed_at numbers q i) 0
      (omega (arith, length-set xs (flag_place i) (flag_at numbers i)))

  with-flag : get_or (with_value numbers q i xs) (flag_place i) 0 ≡ flag_at numbers i
  unfolding with_value
  with-flag =
      get_or-set_other (set xs (flag_place i) (flag_at numbers i)) (flag_place i + 1) (flag_place i) (handed_at numbers q i) 0 (λ e. omega arith)
      ∙ get_or-set_same xs (flag_place i) (flag_at numbers i) 0 (omega arith)

  with-other : (n : ℕ) → (n ≡ flag_place i → ⊥) → (n ≡ flag_place i + 1 → ⊥) → get_or (with_value numbers q i xs) n 0 ≡ get_or xs n 0
  unfolding with_value
  with-other n a b =
      get_or-set_other (set xs (flag_place i) (flag_at numbers i)) (flag_place i + 1) n (handed_at numbers q i) 0 b
      ∙ get_or-set_other xs (flag_place i) n (flag_at numbers i) 0 a

pub handed-next : (numbers q before xs : List ℕ) (i : ℕ) → i < Size.leaves → Size.best ≤ length before → Handed numbers q i before xs
    → Handed numbers q (i + 1) before (with_value numbers q i xs)
handed-next numbers q before xs i l room h =
    record {
      long = with-length numbers q i xs inside ∙ h.long;
      flags = λ j b. flags j b (ℕ_discrete j i);
      shown = λ j b. shown j b (ℕ_discrete j i);
      first = with-other numbers q i xs inside 0 (λ e. omega arith) (λ e. omega arith) ∙ h.first;
      rest = λ n b. with-other numbers q i xs inside n (λ e. omega arith) (λ e. omega arith) ∙ h.rest n (omega arith);
    }
  where
    inside : flag_place i + 1 < length xs
    inside = omega (arith, h.long)

    flags : (j : ℕ) → j < i + 1 → Dec (j ≡ i) → get_or (with_value numbers q i xs) (flag_place j) 0 ≡ flag_at numbers j
    flags j b (yes e) = rw e (with-flag numbers q i xs inside)
    flags j b (no e) = with-other numbers q i xs inside (flag_place j) (λ f. omega arith) (λ f. omega arith) ∙ h.flags j (omega arith)

    shown : (j : ℕ) → j < i + 1 → Dec (j ≡ i) → get_or (with_value numbers q i xs) (flag_place j + 1) 0 ≡ handed_at numbers q j
    shown j b (yes e) = rw e (with-handed numbers q i xs inside)
    shown j b (no e) = with-other numbers q i xs inside (flag_place j + 1) (λ f. omega arith) (λ f. omega arith) ∙ h.shown j (omega arith)

-- ---- a value's words are those of the run

pick_twice : (b : Bool) (x y z : ℕ) → pick b x (pick b y z) ≡ pick b x z
unfolding pick
pick_twice true x y z = refl
pick_twice false x y z = refl

module _ (S : System) (xs q : List ℕ) (i : ℕ) (size : length xs ≡ Size.numbers) (inside : i < Size.leaves) where
  number_is_lem : at xs (leaf_place i) ≡ number_at xs i
  number_is_lem = at_getD xs (leaf_place i) 0 (omega arith)

  pub flag_is : flag_at xs i ≡ flagged xs (leaf_place i)
  unfolding flag_at flagged fixed
  flag_is = rw number_is_lem

  pub handed_is : cost_at q i ≡ bid S xs (leaf_place i) → handed_at xs q i ≡ handed S xs (leaf_place i)
  unfolding handed_at handed bid fixed
  handed_is e = rw (e, number_is_lem) (pick_twice (ltb (number_at xs i) never) (number_at xs i) never (offer S xs (leaf_place i)))

-- ---- all words

module _ {cells : List Cell} {ss : List Statement} (sound : BothSound cells ss) {budget steps last : ℕ} {numbers q : List ℕ}
    (ran : RanWithin cells ss budget steps last numbers q) (before : List ℕ) {after : List ℕ} (room : Size.best ≤ length before)
    (laid : Handed numbers q Size.leaves (set before 0 last) after) where
  abbrev words : List ℕ
  words = best_words cells ss budget

  long : length words ≡ Size.best
  long = words-length cells ss sound budget

  same_length : length after ≡ length (words ++ drop Size.best before)
  same_length =
      laid.long ∙ length-set before 0 last
      ∙ sym (length-append words (drop Size.best before) ∙ omega (arith, long, length-drop Size.best before))

  -- Past the published size,
  past : (n : ℕ) → Size.best ≤ n → get_or after n 0 ≡ get_or (words ++ drop Size.best before) n 0
  past n h =
      let here : length words + (n - Size.best) ≡ n = omega (arith, long) in
      let there : Size.best + (n - Size.best) ≡ n = omega arith in
      laid.rest n (omega arith)
      ∙ get_or-set_other before 0 n last 0 (λ e. omega arith)
      ∙ ap (λ (k : ℕ). get_or before k 0) (sym there)
      ∙ sym (get_or-drop Size.best before (n - Size.best) 0)
      ∙ sym (get_or-append-add words (drop Size.best before) (n - Size.best) 0)
      ∙ ap (λ (k : ℕ). get_or (words ++ drop Size.best before) k 0) here

  -- at the first word,
  first : get_or after 0 0 ≡ get_or (words ++ drop Size.best before) 0 0
  first =
      laid.first
      ∙ get_or-set_same before 0 last 0 (omega arith)
      ∙ ran.last_is
      ∙ sym (words_last cells ss sound budget (drop Size.best before))

  -- and at those of a value.
  module _ (i : ℕ) (inside : i < Size.leaves) where
    size : length (best_within cells ss budget).numbers ≡ Size.numbers
    size = ap length (sym ran.numbers_are) ∙ ran.size

    told : (get_or (words ++ drop Size.best before) (flag_place i) 0 ≡ flagged (best_within cells ss budget).numbers (leaf_place i))
        × (get_or (words ++ drop Size.best before) (flag_place i + 1) 0 ≡ handed (system cells ss) (best_within cells ss budget).numbers (leaf_place i))
    told = words_leaf cells ss sound budget (drop Size.best before) i inside

    flag : get_or after (flag_place i) 0 ≡ get_or (words ++ drop Size.best before) (flag_place i) 0
    flag =
        laid.flags i inside
        ∙ ap (λ (xs : List ℕ). flag_at xs i) ran.numbers_are
        ∙ flag_is (system cells ss) (best_within cells ss budget).numbers q i size inside
        ∙ sym told.0

    second : get_or after (flag_place i + 1) 0 ≡ get_or (words ++ drop Size.best before) (flag_place i + 1) 0
    second =
        laid.shown i inside
        ∙ ap (λ (xs : List ℕ). handed_at xs q i) ran.numbers_are
        ∙ handed_is (system cells ss) (best_within cells ss budget).numbers q i size inside (ran.bids i inside)
        ∙ sym told.1

  each : (n : ℕ) → get_or after n 0 ≡ get_or (words ++ drop Size.best before) n 0
  each n = place (dec_le Size.best n) (ℕ_discrete n 0) (ℕ_discrete ((n - 1) % 2) 0)
    where
      place : Dec (Size.best ≤ n) → Dec (n ≡ 0) → Dec ((n - 1) % 2 ≡ 0) → get_or after n 0 ≡ get_or (words ++ drop Size.best before) n 0
      place (yes h) d e = past n h
      place (no h) (yes z) e = rw z first
      place (no h) (no z) (yes e) =
          let here : n ≡ flag_place ((n - 1) / 2) = omega arith in
          rw here (flag ((n - 1) / 2) (omega arith))
      place (no h) (no z) (no e) =
          let here : n ≡ flag_place ((n - 1) / 2) + 1 = omega arith in
          rw here (second ((n - 1) / 2) (omega arith))

  pub filled : Filled cells ss budget before after steps
  filled = record { steps_are = ran.steps_are; words_stand = ext_get_or 0 after (words ++ drop Size.best before) same_length (λ n h. each n) }
