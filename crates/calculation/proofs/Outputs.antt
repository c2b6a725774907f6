-- Outputs added to a netlist: CC, SC and their counts are what they were, CO and SO run again come to the new analysis, and no
-- number is higher.
use Rattle.common_laws.proofs.Base.{Bool, true, false, List, [], ◌∷◌, ◌≡◌, refl, sym, ◌∙◌, ap, subst, ℕ, zero, suc, ◌+◌, ◌%◌, ◌≤◌, ◌<◌, ℕ_discrete, dec_lt, le_refl, le_of_eq, arith}
use Rattle.common_laws.proofs.Base.{lt-ltb, le-ltb, length, set, length-set}
use Rattle.sizes.specs.Sizes as Size
use Rattle.reading.specs.Choice.{pick}
use Rattle.reading.proofs.Laws.{by_test}
use Rattle.cost.specs.Cost.{never}
use Rattle.plans.specs.System.{Visit}
use Rattle.plans.specs.Sweep.{at, renew, lower, Settles, Run, Visited}
use Rattle.plans.specs.Stages.{run_stage, AllWithin}
use Rattle.plans.specs.Continued.{Alike, Looks, Under}
use Rattle.plans.proofs.Laws.{at_ext, at_set_same, at_set_other, lower-stores, renew-stores, settles-length, settles-other, settles-once, renew-reads, lower-reads, alike-settles, lower-start, pad-settles}
use Rattle.library_table.specs.Cells.{Cell}
use Rattle.netlist_table.specs.Netlist.{Gate, Statement, gates_of, is_input, is_output}
use Rattle.calculation.specs.Nodes.{Kind, combinational, sequential}
use Rattle.calculation.specs.Ways.{setting_visits, observing_visits}
use Rattle.calculation.specs.Acceptance.{BothSound}
use Rattle.calculation.specs.Prices.{Pricing, Figures, input_cost}
use Rattle.calculation.specs.Calculation.{start_line, start_lines, start_at, setting_stage, observing_stage, stages, Analysed, analysed_at}
use Rattle.calculation.specs.Runs.{mixed, of_setting, relaid, runs_from, last_runs, observed_anew}
use Rattle.calculation.specs.Added.{OutputsAdded}
use Rattle.calculation.proofs.Places.{kind-small, start-length}
use Rattle.calculation.proofs.Bounds.{within, numbers-length, setting-visited, setting-needed, observing-visited, observing-needed}

-- ---- two tables mixed

pub mixed-length : (p : ℕ → Bool) (i : ℕ) (xs ys : List ℕ) → length xs ≡ length ys → length (mixed p i xs ys) ≡ length xs
unfolding mixed
mixed-length p i [] ys e = refl
mixed-length p i (x ∷ xs) [] e = absurd (omega arith)
mixed-length p i (x ∷ xs) (y ∷ ys) e = ap suc (mixed-length p (suc i) xs ys (omega arith))

pub mixed-at : (p : ℕ → Bool) (i : ℕ) (xs ys : List ℕ) → length xs ≡ length ys → (n : ℕ) → at (mixed p i xs ys) n ≡ pick (p (i + n)) (at xs n) (at ys n)
unfolding mixed at
mixed-at p i [] [] e n = by_test (p (i + n)) (λ t. unfold pick in rw t) (λ t. unfold pick in rw t)
mixed-at p i [] (y ∷ ys) e n = absurd (omega arith)
mixed-at p i (x ∷ xs) [] e n = absurd (omega arith)
mixed-at p i (x ∷ xs) (y ∷ ys) e zero = let z : i + zero ≡ i = omega arith in rw z
mixed-at p i (x ∷ xs) (y ∷ ys) e (suc n) =
    let z : i + suc n ≡ suc i + n = omega arith in
    rw z (mixed-at p (suc i) xs ys (omega arith) n)

-- ---- where CC and SC look

abbrev pub Setting : ℕ → Type 0
Setting n = n % Size.costs < Size.observed_at

-- All but SO: where CO looks.
abbrev pub Seen : ℕ → Type 0
Seen n = n % Size.costs < Size.observed_at + 1

-- The starts of netlists with the same inputs, at the same prices.
lines-alike : (price : Pricing) (ss ts : List Statement) → ((k : ℕ) → is_input k ts ≡ is_input k ss) → (n first i : ℕ) → Setting i → at (start_lines price ss n first) i ≡ at (start_lines price ts n first) i
unfolding at start_lines start_line
lines-alike price ss ts h zero first i p = refl
lines-alike price ss ts h (suc n) first zero p = rw (h first)
lines-alike price ss ts h (suc n) first (suc zero) p = rw (h first)
lines-alike price ss ts h (suc n) first (suc (suc zero)) p = rw (h first)
lines-alike price ss ts h (suc n) first (suc (suc (suc zero))) p = rw (h first)
lines-alike price ss ts h (suc n) first (suc (suc (suc (suc zero)))) p = absurd (omega arith)
lines-alike price ss ts h (suc n) first (suc (suc (suc (suc (suc zero))))) p = absurd (omega arith)
lines-alike price ss ts h (suc n) first (suc (suc (suc (suc (suc (suc i)))))) p = lines-alike price ss ts h n (suc first) i (omega arith)

start-alike : (price : Pricing) (ss ts : List Statement) → ((k : ℕ) → is_input k ts ≡ is_input k ss) → Alike Setting (start_at price ss) (start_at price ts)
start-alike price ss ts h =
    record {
      long = start-length price ss ∙ sym (start-length price ts);
      same = λ n p. unfold start_at in lines-alike price ss ts h Size.lines 1 n p;
    }

module _ (cells : List Cell) (ss : List Statement) (sound : BothSound cells ss) where
  setting-looks : (k : Kind) → Looks Setting (setting_visits k cells (gates_of ss))
  setting-looks k =
      record {
        visits = λ v m.
            omega (arith, (setting-visited cells ss sound k v.node (record { visit = v; listed = m; same = refl })).1, kind-small k);
        needs = λ v m n d.
            omega (
              arith,
              setting-needed cells ss sound k n
                  (record { node = v.node; way = d.way; offers = record { visit = v; listed = m; same = refl; among = d.listed }; among = d.among }),
              kind-small k,
            );
      }

  observing-apart : (k : Kind) (n : ℕ) → Visited (observing_visits k cells (gates_of ss)) n → Setting n → ⊥
  observing-apart k n v p = omega (arith, observing-visited cells ss sound k n v)

  pub co-looks : Looks Seen (observing_visits combinational cells (gates_of ss))
  co-looks =
      record {
        visits = λ v m. omega (arith, observing-visited cells ss sound combinational v.node (record { visit = v; listed = m; same = refl }));
        needs = λ v m n d.
            omega (
              arith,
              observing-needed cells ss sound combinational n
                  (record { node = v.node; way = d.way; offers = record { visit = v; listed = m; same = refl; among = d.listed }; among = d.among }),
            );
      }

  pub so-apart : (n : ℕ) → Visited (observing_visits sequential cells (gates_of ss)) n → Seen n → ⊥
  so-apart n v p = omega (arith, observing-visited cells ss sound sequential n v)

-- ---- CO and SO again

module _
    (cells : List Cell)
    (gs : List Gate)
    (xs ys : List ℕ)
    (a : AllWithin (stages cells gs) xs)
    (b : AllWithin (stages cells gs) ys)
    (looks : (k : Kind) → Looks Setting (setting_visits k cells gs))
    (other : (k : Kind) (n : ℕ) → Visited (observing_visits k cells gs) n → Setting n → ⊥)
    (alike : Alike Setting xs ys)
  where
    abbrev vs : Kind → List Visit
    vs k = setting_visits k cells gs

    abbrev run_cc : List ℕ → Run
    run_cc zs = run_stage (setting_stage combinational cells gs) zs

    abbrev run_sc : List ℕ → Run
    run_sc zs = run_stage (setting_stage sequential cells gs) (run_cc zs).numbers

    abbrev run_co : List ℕ → Run
    run_co zs = run_stage (observing_stage combinational cells gs) (run_sc zs).numbers

    abbrev run_so : List ℕ → Run
    run_so zs = run_stage (observing_stage sequential cells gs) (run_co zs).numbers

    -- What each run settles.
    module _ (zs : List ℕ) (w : AllWithin (stages cells gs) zs) where
      settles-cc : Settles renew (vs combinational) zs (run_cc zs).count (run_cc zs).numbers
      unfolding run_stage
      settles-cc = w.0.0

      settles-sc : Settles renew (vs sequential) (run_cc zs).numbers (run_sc zs).count (run_sc zs).numbers
      unfolding run_stage
      settles-sc = (w.1 _ _ w.0.0).0.0

      settles-co : Settles lower (observing_visits combinational cells gs) (run_sc zs).numbers (run_co zs).count (run_co zs).numbers
      unfolding run_stage
      settles-co = ((w.1 _ _ w.0.0).1 _ _ (w.1 _ _ w.0.0).0.0).0.0

      settles-so : Settles lower (observing_visits sequential cells gs) (run_co zs).numbers (run_so zs).count (run_so zs).numbers
      unfolding run_stage
      settles-so =
          let c = w in
          let s = c.1 _ _ c.0.0 in
          let o = s.1 _ _ s.0.0 in
          (o.1 _ _ o.0.0).0.0

      -- The values are those that SC left, the numbers of observing those of the start.
      values-stand : (n : ℕ) → Setting n → at (run_so zs).numbers n ≡ at (run_sc zs).numbers n
      values-stand n p =
          settles-other lower lower-stores settles-so n (λ v. other sequential n v p)
          ∙ settles-other lower lower-stores settles-co n (λ v. other combinational n v p)

      others-stand : (n : ℕ) → (Setting n → ⊥) → at (run_sc zs).numbers n ≡ at zs n
      others-stand n p =
          settles-other renew renew-stores settles-sc n (λ v. p (seen sequential n v))
          ∙ settles-other renew renew-stores settles-cc n (λ v. p (seen combinational n v))
        where
          seen : (k : Kind) (n : ℕ) → Visited (vs k) n → Setting n
          seen k n v = subst Setting v.same ((looks k).visits v.visit v.listed)

    -- CC and SC: as many sweeps, and the same values.
    abbrev Same : Run → Run → Type 0
    Same r s = (s.count ≡ r.count) × Alike Setting r.numbers s.numbers

    same-cc : Same (run_cc xs) (run_cc ys)
    same-cc =
        let t = alike-settles renew renew-stores renew-reads Setting (vs combinational) xs ys (run_cc xs).numbers (run_cc xs).count (looks combinational) alike (settles-cc xs a) in
        let o = settles-once renew (vs combinational) ys (run_cc ys).numbers t.0 (run_cc ys).count (run_cc xs).count (settles-cc ys b) t.1 in
        (o.0, rw o.1 t.2)

    same-sc : Same (run_sc xs) (run_sc ys)
    same-sc =
        let t = alike-settles renew renew-stores renew-reads Setting (vs sequential) (run_cc xs).numbers (run_cc ys).numbers (run_sc xs).numbers (run_sc xs).count (looks sequential) same-cc.1 (settles-sc xs a) in
        let o = settles-once renew (vs sequential) (run_cc ys).numbers (run_sc ys).numbers t.0 (run_sc ys).count (run_sc xs).count (settles-sc ys b) t.1 in
        (o.0, rw o.1 t.2)

    -- The standing numbers, relaid, are those from which the new analysis runs CO and SO.
    relaid-same : length (run_so xs).numbers ≡ length ys → mixed of_setting 0 (run_so xs).numbers ys ≡ (run_sc ys).numbers
    unfolding of_setting pick
    relaid-same long =
        at_ext (mixed of_setting 0 (run_so xs).numbers ys) (run_sc ys).numbers
        (mixed-length of_setting 0 (run_so xs).numbers ys long
        ∙ long
        ∙ sym (settles-length renew renew-stores (settles-sc ys b) ∙ settles-length renew renew-stores (settles-cc ys b)))
        (λ n. mixed-at of_setting 0 (run_so xs).numbers ys long n ∙ place n (dec_lt (n % Size.costs) Size.observed_at))
      where
        place : (n : ℕ) → Dec (n % Size.costs < Size.observed_at) → pick (of_setting (0 + n)) (at (run_so xs).numbers n) (at ys n) ≡ at (run_sc ys).numbers n
        place n (yes p) =
            let z : 0 + n ≡ n = omega arith in
            rw (z, lt-ltb (n % Size.costs) Size.observed_at p) (values-stand xs a n p ∙ same-sc.1.same n p)
        place n (no p) =
            let z : 0 + n ≡ n = omega arith in
            rw (z, le-ltb (n % Size.costs) Size.observed_at (omega arith)) (sym (others-stand ys b n p))

    pub rerun : length (run_so xs).numbers ≡ length ys → last_runs cells gs (runs_from cells gs xs).counts (mixed of_setting 0 (runs_from cells gs xs).numbers ys) ≡ runs_from cells gs ys
    unfolding last_runs runs_from
    rerun long =
        let e : mixed of_setting 0 (run_so xs).numbers ys ≡ (run_sc ys).numbers = relaid-same long in
        let c : (run_cc xs).count ≡ (run_cc ys).count = sym same-cc.0 in
        let d : (run_sc xs).count ≡ (run_sc ys).count = sym same-sc.0 in
        rw (e, c, d)

    -- The values are the same.
    pub values_same : (n : ℕ) → Setting n → at (runs_from cells gs ys).numbers n ≡ at (runs_from cells gs xs).numbers n
    unfolding runs_from
    values_same n p = values-stand ys b n p ∙ sym (same-sc.1.same n p) ∙ sym (values-stand xs a n p)

    -- A start that is nowhere higher comes to no higher number.
    pub falls : ((n : ℕ) → at ys n ≤ at xs n) → Under (runs_from cells gs ys).numbers (runs_from cells gs xs).numbers
    unfolding runs_from
    falls low =
        lower-start (observing_visits sequential cells gs) (run_co xs).numbers (run_co ys).numbers (run_so xs).numbers (run_so ys).numbers
        (run_so xs).count (run_so ys).count
        (lower-start (observing_visits combinational cells gs) (run_sc xs).numbers (run_sc ys).numbers (run_co xs).numbers (run_co ys).numbers
        (run_co xs).count (run_co ys).count start (settles-co xs a) (settles-co ys b))
        (settles-so xs a) (settles-so ys b)
      where
        start : Under (run_sc ys).numbers (run_sc xs).numbers
        start = record { long = sym same-sc.1.long; below = λ n. place n (dec_lt (n % Size.costs) Size.observed_at) }
          where
            place : (n : ℕ) → Dec (n % Size.costs < Size.observed_at) → at (run_sc ys).numbers n ≤ at (run_sc xs).numbers n
            place n (yes p) = le_of_eq (sym (same-sc.1.same n p))
            place n (no p) = rw (others-stand xs a n p, others-stand ys b n p) (low n)

    -- ---- one output more on trial: CO alone, from the numbers that stand with just its own lowered. Document 02, K13

    module _
        (node : ℕ)
        (observed : node % Size.costs ≡ Size.observed_at)
        (inside : node < length xs)
        (near : (n : ℕ) → Seen n → (n ≡ node → ⊥) → at ys n ≡ at xs n)
        (priced : at ys node ≡ 0)
        (sees : Looks Seen (observing_visits combinational cells gs))
        (apart : (n : ℕ) → Visited (observing_visits sequential cells gs) n → Seen n → ⊥)
      where
        abbrev before : List ℕ
        before = (run_sc xs).numbers

        abbrev old : List ℕ
        old = (run_co xs).numbers

        abbrev standing : List ℕ
        standing = (run_so xs).numbers

        before-length : length before ≡ length xs
        before-length = settles-length renew renew-stores (settles-sc xs a) ∙ settles-length renew renew-stores (settles-cc xs a)

        old-length : length old ≡ length xs
        old-length = settles-length lower lower-stores (settles-co xs a) ∙ before-length

        standing-length : length standing ≡ length xs
        standing-length = settles-length lower lower-stores (settles-so xs a) ∙ old-length

        stays : (zs : List ℕ) (w : AllWithin (stages cells gs) zs) (n : ℕ) → Seen n → at (run_so zs).numbers n ≡ at (run_co zs).numbers n
        stays zs w n p = settles-other lower lower-stores (settles-so zs w) n (λ v. apart n v p)

        at-pad : Setting node → ⊥
        at-pad p = omega (arith, observed)

        starts-alike : Alike Seen (run_sc ys).numbers (set before node 0)
        starts-alike =
            record {
              long = sym (length-set before node 0 ∙ same-sc.1.long);
              same = λ n p. place n p (ℕ_discrete n node) (dec_lt (n % Size.costs) Size.observed_at);
            }
          where
            place : (n : ℕ) → Seen n → Dec (n ≡ node) → Dec (n % Size.costs < Size.observed_at) → at (run_sc ys).numbers n ≡ at (set before node 0) n
            place n p (yes e) d =
                rw (e, at_set_same before node 0 (rw before-length inside)) (others-stand ys b node at-pad ∙ priced)
            place n p (no e) (yes q) = sym (same-sc.1.same n q) ∙ sym (at_set_other before node 0 n e)
            place n p (no e) (no q) = others-stand ys b n q ∙ near n p e ∙ sym (others-stand xs a n q) ∙ sym (at_set_other before node 0 n e)

        trials_alike : Alike Seen (set standing node 0) (set old node 0)
        trials_alike =
            record {
              long = length-set standing node 0 ∙ standing-length ∙ sym (length-set old node 0 ∙ old-length);
              same = λ n p. place n p (ℕ_discrete n node);
            }
          where
            place : (n : ℕ) → Seen n → Dec (n ≡ node) → at (set standing node 0) n ≡ at (set old node 0) n
            place n p (yes e) =
                rw (e, at_set_same standing node 0 (rw standing-length inside), at_set_same old node 0 (rw old-length inside))
            place n p (no e) = at_set_other standing node 0 n e ∙ stays xs a n p ∙ sym (at_set_other old node 0 n e)

        -- The trial comes to the CO of the new analysis, in however few sweeps.
        pub tried : (k : ℕ) (zs : List ℕ) → Settles lower (observing_visits combinational cells gs) (set standing node 0) k zs → (n : ℕ) → Seen n → at zs n ≡ at (runs_from cells gs ys).numbers n
        unfolding runs_from
        tried k zs s n p =
            let new = alike-settles lower lower-stores lower-reads Seen (observing_visits combinational cells gs) (run_sc ys).numbers (set before node 0) (run_co ys).numbers (run_co ys).count sees starts-alike (settles-co ys b) in
            let try = alike-settles lower lower-stores lower-reads Seen (observing_visits combinational cells gs) (set standing node 0) (set old node 0) zs k sees trials_alike s in
            let e : try.0 ≡ new.0 =
            pad-settles (observing_visits combinational cells gs) before old new.0 try.0 node 0 (run_co xs).count (run_co ys).count k (omega arith)
            (settles-co xs a) new.1 try.1 in
            try.2.same n p
            ∙ ap (λ (ws : List ℕ). at ws n) e
            ∙ sym (new.2.same n p)
            ∙ sym (stays ys b n p)

-- ---- at a netlist

pub analysed_runs : (price : Pricing) (cells : List Cell) (ss : List Statement) → analysed_at price cells ss ≡ runs_from cells (gates_of ss) (start_at price ss)
unfolding analysed_at runs_from
analysed_runs price cells ss = refl

mark-below : (b c : Bool) → (b ≡ true → c ≡ true) → pick c 0 never ≤ pick b 0 never
unfolding pick
mark-below true c h = rw (h refl) (le_refl 0)
mark-below false true h = omega arith
mark-below false false h = le_refl never

lines-below : (price : Pricing) (ss ts : List Statement) → ((k : ℕ) → is_input k ts ≡ is_input k ss) → ((k : ℕ) → is_output k ss ≡ true → is_output k ts ≡ true) → (n first i : ℕ) → at (start_lines price ts n first) i ≤ at (start_lines price ss n first) i
unfolding at start_lines start_line
lines-below price ss ts h o zero first i = le_refl never
lines-below price ss ts h o (suc n) first zero = rw (h first) (le_refl (pick (is_input first ss) (input_cost price combinational first) never))
lines-below price ss ts h o (suc n) first (suc zero) = rw (h first) (le_refl (pick (is_input first ss) (input_cost price combinational first) never))
lines-below price ss ts h o (suc n) first (suc (suc zero)) = rw (h first) (le_refl (pick (is_input first ss) (input_cost price sequential first) never))
lines-below price ss ts h o (suc n) first (suc (suc (suc zero))) = rw (h first) (le_refl (pick (is_input first ss) (input_cost price sequential first) never))
lines-below price ss ts h o (suc n) first (suc (suc (suc (suc zero)))) = mark-below (is_output first ss) (is_output first ts) (o first)
lines-below price ss ts h o (suc n) first (suc (suc (suc (suc (suc zero))))) = mark-below (is_output first ss) (is_output first ts) (o first)
lines-below price ss ts h o (suc n) first (suc (suc (suc (suc (suc (suc i)))))) = lines-below price ss ts h o n (suc first) i

module _ (cells : List Cell) (ss ts : List Statement) (old : BothSound cells ss) (new : BothSound cells ts) (added : OutputsAdded ss ts)
    (price : Pricing) (figures : Figures price ss) (others : Figures price ts) where
  within-old : AllWithin (stages cells (gates_of ss)) (start_at price ss)
  within-old = within cells ss old price figures

  within_new : AllWithin (stages cells (gates_of ss)) (start_at price ts)
  within_new = subst (λ (gs : List Gate). AllWithin (stages cells gs) (start_at price ts)) added.gates (within cells ts new price others)

  long : length (runs_from cells (gates_of ss) (start_at price ss)).numbers ≡ length (start_at price ts)
  long = ap (λ (r : Analysed). length r.numbers) (sym (analysed_runs price cells ss)) ∙ numbers-length cells ss old price figures ∙ sym (start-length price ts)

  new_runs : runs_from cells (gates_of ss) (start_at price ts) ≡ analysed_at price cells ts
  new_runs = ap (λ (gs : List Gate). runs_from cells gs (start_at price ts)) (sym added.gates) ∙ sym (analysed_runs price cells ts)

  -- All six numbers and all four counts.
  pub outputs-analysed : observed_anew price cells ts (analysed_at price cells ss) ≡ analysed_at price cells ts
  unfolding observed_anew relaid
  outputs-analysed =
      ap (λ (gs : List Gate). last_runs cells gs (analysed_at price cells ss).counts (mixed of_setting 0 (analysed_at price cells ss).numbers (start_at price ts))) added.gates
      ∙ ap (λ (r : Analysed). last_runs cells (gates_of ss) r.counts (mixed of_setting 0 r.numbers (start_at price ts))) (analysed_runs price cells ss)
      ∙ rerun cells (gates_of ss) (start_at price ss) (start_at price ts) within-old within_new (setting-looks cells ss old) (observing-apart cells ss old)
      (start-alike price ss ts added.inputs) (unfold runs_from in long)
      ∙ new_runs

  -- An output more raises no number.
  pub outputs-lower : (n : ℕ) → at (analysed_at price cells ts).numbers n ≤ at (analysed_at price cells ss).numbers n
  outputs-lower n =
      rw (← new_runs, analysed_runs price cells ss)
      ((falls cells (gates_of ss) (start_at price ss) (start_at price ts) within-old within_new (setting-looks cells ss old) (observing-apart cells ss old)
      (start-alike price ss ts added.inputs)
      (λ m. unfold start_at in lines-below price ss ts added.inputs added.outputs Size.lines 1 m)).below n)

  -- An output more changes no CC and no SC.
  pub outputs-values : (n : ℕ) → Setting n → at (analysed_at price cells ts).numbers n ≡ at (analysed_at price cells ss).numbers n
  outputs-values n p =
      rw (← new_runs, analysed_runs price cells ss)
      (values_same cells (gates_of ss) (start_at price ss) (start_at price ts) within-old within_new (setting-looks cells ss old) (observing-apart cells ss old)
      (start-alike price ss ts added.inputs) n p)

  -- One output more, at a place that was never: CO run from the numbers that stand with 0 there comes to the CO of the new
  -- analysis, in however few sweeps.
  module _ (place : ℕ) (observed : place % Size.costs ≡ Size.observed_at) (inside : place < Size.numbers)
      (near : (n : ℕ) → Seen n → (n ≡ place → ⊥) → at (start_at price ts) n ≡ at (start_at price ss) n) (priced : at (start_at price ts) place ≡ 0) where
    pub output-tried : (k : ℕ) (zs : List ℕ) → Settles lower (observing_visits combinational cells (gates_of ss)) (set (analysed_at price cells ss).numbers place 0) k zs
        → (n : ℕ) → Seen n → at zs n ≡ at (analysed_at price cells ts).numbers n
    unfolding runs_from
    output-tried k zs s n p =
        tried cells (gates_of ss) (start_at price ss) (start_at price ts) within-old within_new (setting-looks cells ss old) (observing-apart cells ss old)
        (start-alike price ss ts added.inputs) place observed (rw (start-length price ss) inside) near priced (co-looks cells ss old) (so-apart cells ss old)
        k zs (subst (λ (a : Analysed). Settles lower (observing_visits combinational cells (gates_of ss)) (set a.numbers place 0) k zs) (analysed_runs price cells ss) s) n p
        ∙ ap (λ (a : Analysed). at a.numbers n) new_runs
