-- How many sweeps there are at most. A node that can be had for a cost can be had without going through the same key twice
-- on a way down, so the way down is no longer than the list of keys; and after as many sweeps its number is no higher.
-- The key of a step is the node had (controllabilities), or the one needed node that is itself visited (observabilities).
use Rattle.common_laws.proofs.Base.{List, [], ◌∷◌, List-as-Memᴰ, List-Memᴰ-head, List-Memᴰ-tail, ◌⊎◌, inl, inr, ◌≡◌, refl, sym, ◌∙◌, subst, ℕ, zero, suc, ◌≤◌, ◌<◌, min, ℕ_discrete}
use Rattle.common_laws.proofs.Base.{dec_le, le_refl, le_trans, le_of_eq, arith, length}
use Rattle.cost.specs.Cost.{never, ◌⊕◌, capped, lesser, counted}
use Rattle.cost.proofs.Laws.{sum_bound, sum_mono, sum_left, sum-right}
use Rattle.plans.specs.System.{Way, Visit, Offers}
use Rattle.plans.specs.Sweep.{at, sums, way, least, lower, sweep, sweeps, Rests, Inside, Bounded, Visited, Lead, Leads}
use Rattle.plans.proofs.Numbers.{under_antisym}
use Rattle.plans.proofs.Lowered.{
  lesser-right,
  least-below,
  least-bound,
  least-of,
  LeastOf,
  way_mono,
  lower_under,
  lower-here,
  sweep_under,
  sweeps_under,
}
use Rattle.plans.proofs.Kept.{lower-stores, rule-length, rule-other, sweeps-inside}
use Rattle.plans.proofs.Without.{without, Among, without_in, without_mono, without-among, without-swap, without_shorter}

-- The key of a step from a node by a way.
abbrev pub Key : Type 1
Key = ℕ → Way → ℕ → Type 0

mutual
  -- The node `n` can be had for at most `c` from the numbers `xs`, by ways of `vs`, with keys of `us` alone and none twice
  -- on a way down.
  pub data Had (key : Key) (vs : List Visit) (xs : List ℕ) : List ℕ → ℕ → ℕ → Type 0 where
    stood : {us : List ℕ} {n c : ℕ} → at xs n ≤ c → Had key vs xs us n c
    step : {us : List ℕ} {n c : ℕ} (w : Way) (k b : ℕ) → Offers vs n w → key n w k → List-as-Memᴰ k us → AllHad key vs xs (without k us) w.needs b → capped w.depth ⊕ b ≤ c → Had key vs xs us n c

  pub data AllHad (key : Key) (vs : List Visit) (xs : List ℕ) : List ℕ → List ℕ → ℕ → Type 0 where
    nil : {us : List ℕ} {b : ℕ} → AllHad key vs xs us [] b
    cons : {us : List ℕ} {n : ℕ} {ns : List ℕ} {b : ℕ} (c d : ℕ) → Had key vs xs us n c → AllHad key vs xs us ns d → c ⊕ d ≤ b → AllHad key vs xs us (n ∷ ns) b

-- ---- a sweep reaches each way's sum

sweep-reaches : (vs : List Visit) (xs : List ℕ) → Inside vs xs → (v : Visit) (w : Way) → List-as-Memᴰ v vs → List-as-Memᴰ w v.ways → at (sweep lower vs xs) v.node ≤ way xs w
unfolding sweep
sweep-reaches [] xs inside v w m i = elim m [ ]
sweep-reaches (u ∷ vs) xs inside v w (List-Memᴰ-head e) i =
    rw e
    (le_trans ((sweep_under vs (lower xs u)).below u.node)
    (le_trans (le_of_eq (lower-here xs u (inside u (List-Memᴰ-head refl))))
    (le_trans (lesser-right (at xs u.node) (least xs u.ways)) (least-below xs u.ways w (rw e at i)))))
sweep-reaches (u ∷ vs) xs inside v w (List-Memᴰ-tail m) i =
    le_trans
    (sweep-reaches vs (lower xs u) (λ t j. rw (rule-length lower lower-stores xs u) (inside t (List-Memᴰ-tail j))) v w m i)
    (way_mono (lower xs u) xs w (lower_under xs u).below)

offer-reaches : (vs : List Visit) (xs : List ℕ) → Inside vs xs → (n : ℕ) (w : Way) → Offers vs n w → at (sweep lower vs xs) n ≤ way xs w
offer-reaches vs xs inside n w o = rw (← o.same) (sweep-reaches vs xs inside o.visit w o.listed o.among)

pub sweeps-last : (vs : List Visit) (k : ℕ) (xs : List ℕ) → sweeps lower vs (suc k) xs ≡ sweep lower vs (sweeps lower vs k xs)
unfolding sweeps
sweeps-last vs zero xs = refl
sweeps-last vs (suc k) xs = sweeps-last vs k (sweep lower vs xs)

positive : (k : ℕ) → 0 < k → (j : ℕ) × (k ≡ suc j)
positive zero h = absurd (omega arith)
positive (suc j) h = (j, refl)

module _ (key : Key) (vs : List Visit) (xs : List ℕ) (bounded : Bounded xs) where
  -- ---- more keys, higher costs; a cost above never counts as never

  mutual
    pub had_mono : {us ts : List ℕ} {n c d : ℕ} → Had key vs xs us n c → Among us ts → min c never ≤ d → Had key vs xs ts n d
    had_mono {n = n} {d = d} (stood h) i l = stood {n = n} {c = d} (omega (arith, bounded n))
    had_mono {us} {ts} {d = d} (step w k b o q m a h) i l =
        step {c = d} w k b o q (i k m) (all_mono a (without_mono k us ts i)) (omega (arith, sum_bound (capped w.depth) b))

    all_mono : {us ts ns : List ℕ} {b : ℕ} → AllHad key vs xs us ns b → Among us ts → AllHad key vs xs ts ns b
    all_mono nil i = nil
    all_mono (cons c d p q h) i = cons c d (had_mono p i (omega arith)) (all_mono q i) h

  -- ---- as many sweeps as there are keys

  step-reaches : (inside : Inside vs xs) (k n b c : ℕ) (w : Way) → Offers vs n w → sums (sweeps lower vs k xs) w.needs ≤ b → capped w.depth ⊕ b ≤ c → at (sweeps lower vs (suc k) xs) n ≤ c
  unfolding way
  step-reaches inside k n b c w o s h =
      rw (sweeps-last vs k xs)
      (le_trans
      (offer-reaches vs (sweeps lower vs k xs) (sweeps-inside lower lower-stores vs vs k xs inside) n w o)
      (le_trans
      (sum_mono (capped w.depth) (sums (sweeps lower vs k xs) w.needs) (capped w.depth) b (le_refl (capped w.depth)) s)
      h))

  module _ (inside : Inside vs xs) where
    mutual
      unfolding sums

      pub had-reached : {us : List ℕ} {n c : ℕ} (k : ℕ) → Had key vs xs us n c → length us ≤ k → at (sweeps lower vs k xs) n ≤ c
      had-reached {n = n} k (stood h) l = le_trans ((sweeps_under vs k xs).below n) h
      had-reached {us} {n} {c} k (step w j b o q m a h) l =
          let s : length (without j us) < length us = without_shorter j us m in
          let t : (i : ℕ) × (k ≡ suc i) = positive k (omega arith) in
          rw t.1 (step-reaches inside t.0 n b c w o (all-reached t.0 a (omega arith)) h)

      all-reached : {us ns : List ℕ} {b : ℕ} (k : ℕ) → AllHad key vs xs us ns b → length us ≤ k → sums (sweeps lower vs k xs) ns ≤ b
      all-reached k nil l = omega arith
      all-reached k (cons {n = n} {ns = ns} c d p q h) l =
          le_trans
          (sum_mono (at (sweeps lower vs k xs) n) (sums (sweeps lower vs k xs) ns) c d (had-reached k p l) (all-reached k q l))
          h

  -- ---- a key can be forbidden, or is found lower down

  module _
      (Found : List ℕ → ℕ → ℕ → Type 0)
      (found-mono : (us ts : List ℕ) (o c d : ℕ) → Found us o c → Among us ts → min c never ≤ d → Found ts o d)
      (found_Here : (us : List ℕ) (n c : ℕ) (w : Way) (k b : ℕ) → Offers vs n w → key n w k → List-as-Memᴰ k us → AllHad key vs xs (without k us) w.needs b → capped w.depth ⊕ b ≤ c → Found us k c)
    where
      step-forbid : {us : List ℕ} {n c : ℕ} (o : ℕ) (w : Way) (k b : ℕ) → Offers vs n w → key n w k → List-as-Memᴰ k us → AllHad key vs xs (without k us) w.needs b → capped w.depth ⊕ b ≤ c → Dec (k ≡ o) → AllHad key vs xs (without o (without k us)) w.needs b ⊎ Found (without k us) o b → Had key vs xs (without o us) n c ⊎ Found us o c
      step-forbid {us} {n} {c} o w k b f q m a h (yes e) r = inr (subst (λ (j : ℕ). Found us j c) e (found_Here us n c w k b f q m a h))
      step-forbid {us} o w k b f q m a h (no e) (inl r) =
          inl (step w k b f q (without_in o k us m e) (all_mono r (without-swap o k us)) h)
      step-forbid {us} {c = c} o w k b f q m a h (no e) (inr r) =
          inr (found-mono (without k us) us o b c r (without-among k us) (le_trans (sum-right (capped w.depth) b) h))

      cons-forbid : {us ns : List ℕ} {n b : ℕ} (o c d : ℕ) → c ⊕ d ≤ b → Had key vs xs (without o us) n c ⊎ Found us o c → AllHad key vs xs (without o us) ns d ⊎ Found us o d → AllHad key vs xs (without o us) (n ∷ ns) b ⊎ Found us o b
      cons-forbid o c d h (inl p) (inl q) = inl (cons c d p q h)
      cons-forbid {us} {b = b} o c d h (inl p) (inr g) = inr (found-mono us us o d b g (λ m i. i) (le_trans (sum-right c d) h))
      cons-forbid {us} {b = b} o c d h (inr f) q = inr (found-mono us us o c b f (λ m i. i) (le_trans (sum_left c d) h))

      mutual
        pub forbid : {us : List ℕ} {n c : ℕ} (o : ℕ) → Had key vs xs us n c → Had key vs xs (without o us) n c ⊎ Found us o c
        forbid o (stood h) = inl (stood h)
        forbid o (step w k b f q m a h) = step-forbid o w k b f q m a h (ℕ_discrete k o) (all-forbid o a)

        pub all-forbid : {us ns : List ℕ} {b : ℕ} (o : ℕ) → AllHad key vs xs us ns b → AllHad key vs xs (without o us) ns b ⊎ Found us o b
        all-forbid o nil = inl nil
        all-forbid o (cons c d p q h) = cons-forbid o c d h (forbid o p) (all-forbid o q)

  -- ---- every number that a run comes to can be had

  module _
      (us : List ℕ)
      (inside : Inside vs xs)
    where
      -- What holds of the numbers of a run from `xs`.
      pub record From (ys : List ℕ) : Type 0 where
        pub long : length ys ≡ length xs
        pub had : (n : ℕ) → Had key vs xs us n (at ys n)
        pub kept : (n : ℕ) → (Visited vs n → ⊥) → at ys n ≡ at xs n

      from_start : From xs
      from_start = record { long = refl; had = λ n. stood (le_refl (at xs n)); kept = λ n h. refl }

      module _ (made : (ys : List ℕ) → From ys → (n : ℕ) (w : Way) → Offers vs n w → Had key vs xs us n (way ys w)) where
        least-had : (ys : List ℕ) → From ys → (v : Visit) → List-as-Memᴰ v vs → LeastOf ys v.ways → Had key vs xs us v.node (least ys v.ways)
        least-had ys f v m (inl e) = rw e (had_mono (f.had v.node) (λ k i. i) (omega arith))
        least-had ys f v m (inr t) =
            rw t.2 (made ys f v.node t.0 (record { visit = v; listed = m; same = refl; among = t.1 }))

        lesser-had : (n a b : ℕ) → Had key vs xs us n a → Had key vs xs us n b → b ≤ never → Had key vs xs us n (lesser a b)
        unfolding lesser counted
        lesser-had n a b p q h = split (dec_le a b)
          where
            split : Dec (a ≤ b) → Had key vs xs us n (lesser a b)
            split (yes l) = had_mono p (λ k i. i) (omega arith)
            split (no l) = had_mono q (λ k i. i) (omega arith)

        from_lower : (ys : List ℕ) (v : Visit) → List-as-Memᴰ v vs → From ys → From (lower ys v)
        from_lower ys v m f =
            record {
              long = rule-length lower lower-stores ys v ∙ f.long;
              had = λ n. place n (ℕ_discrete v.node n);
              kept = λ n h.
                  rule-other lower lower-stores ys v n (λ e. h (record { visit = v; listed = m; same = e })) ∙ f.kept n h;
            }
          where
            place : (n : ℕ) → Dec (v.node ≡ n) → Had key vs xs us n (at (lower ys v) n)
            place n (yes e) =
                rw (← e, lower-here ys v (rw f.long (inside v m)))
                (lesser-had v.node (at ys v.node) (least ys v.ways) (f.had v.node)
                (least-had ys f v m (least-of ys v.ways)) (least-bound ys v.ways))
            place n (no e) = rw (rule-other lower lower-stores ys v n e) (f.had n)

        from_sweep : (ts : List Visit) (ys : List ℕ) → ((v : Visit) → List-as-Memᴰ v ts → List-as-Memᴰ v vs) → From ys → From (sweep lower ts ys)
        unfolding sweep
        from_sweep [] ys i f = f
        from_sweep (v ∷ ts) ys i f =
            from_sweep ts (lower ys v) (λ u m. i u (List-Memᴰ-tail m)) (from_lower ys v (i v (List-Memᴰ-head refl)) f)

        from_sweeps : (k : ℕ) (ys : List ℕ) → From ys → From (sweeps lower vs k ys)
        unfolding sweeps
        from_sweeps zero ys f = f
        from_sweeps (suc k) ys f = from_sweeps k (sweep lower vs ys) (from_sweep vs ys (λ v m. m) f)

        -- So the numbers rest after as many sweeps as there are keys.
        pub keys_rest : (k : ℕ) → length us ≤ k → Rests lower vs (sweeps lower vs k xs)
        keys_rest k h =
            under_antisym (sweep_under vs (sweeps lower vs k xs))
            (record {
              long = sym (sweep_under vs (sweeps lower vs k xs)).long;
              below = λ n. rw (← sweeps-last vs k xs) (had-reached inside k ((from_sweeps (suc k) xs from_start).had n) h);
            })

-- ---- controllabilities: the key is the node had

abbrev Itself : Key
Itself n w k = k ≡ n

module _
    (vs : List Visit)
    (xs us : List ℕ)
    (bounded : Bounded xs)
    (inside : Inside vs xs)
    (all : (n : ℕ) → Visited vs n → List-as-Memᴰ n us)
  where
    itself-here : (ts : List ℕ) (n c : ℕ) (w : Way) (k b : ℕ) → Offers vs n w → k ≡ n → List-as-Memᴰ k ts → AllHad Itself vs xs (without k ts) w.needs b → capped w.depth ⊕ b ≤ c → Had Itself vs xs ts k c
    itself-here ts n c w k b o q m a h = rw q (step w k b o q m a h)

    sums-had : (ys : List ℕ) → From Itself vs xs bounded us inside ys → (ns : List ℕ) → AllHad Itself vs xs us ns (sums ys ns)
    unfolding sums
    sums-had ys f [] = nil
    sums-had ys f (n ∷ ns) = cons (at ys n) (sums ys ns) (f.had n) (sums-had ys f ns) (le_refl (at ys n ⊕ sums ys ns))

    itself-made : (ys : List ℕ) → From Itself vs xs bounded us inside ys → (n : ℕ) (w : Way) → Offers vs n w → Had Itself vs xs us n (way ys w)
    unfolding way
    itself-made ys f n w o =
        join
        (all-forbid Itself vs xs bounded (Had Itself vs xs) (λ ps qs k c d p i l. had_mono Itself vs xs bounded p i l) itself-here n
        (sums-had ys f w.needs))
      where
        join : AllHad Itself vs xs (without n us) w.needs (sums ys w.needs) ⊎ Had Itself vs xs us n (sums ys w.needs) → Had Itself vs xs us n (way ys w)
        join (inl a) =
            step w n (sums ys w.needs) o refl (all n (record { visit = o.visit; listed = o.listed; same = o.same })) a
            (le_refl (way ys w))
        join (inr p) = had_mono Itself vs xs bounded p (λ k i. i) (sum-right (capped w.depth) (sums ys w.needs))

    pub visited-rest : (k : ℕ) → length us ≤ k → Rests lower vs (sweeps lower vs k xs)
    visited-rest = keys_rest Itself vs xs bounded us inside itself-made

-- ---- observabilities: the key is the one needed node that is itself visited

module _
    (vs : List Visit)
    (xs outs : List ℕ)
    (bounded : Bounded xs)
    (inside : Inside vs xs)
    (leads : Leads vs outs)
  where
    abbrev Onward : Key
    Onward n w k = Lead vs w k

    abbrev Found : List ℕ → ℕ → ℕ → Type 0
    Found us o c = Had Onward vs xs (without o us) o c

    all_pick : {us ns : List ℕ} {b : ℕ} (k : ℕ) → AllHad Onward vs xs us ns b → List-as-Memᴰ k ns → Had Onward vs xs us k b
    all_pick k nil i = elim i [ ]
    all_pick k (cons c d p q h) (List-Memᴰ-head e) =
        rw e (had_mono Onward vs xs bounded p (λ j i. i) (le_trans (sum_left c d) h))
    all_pick k (cons c d p q h) (List-Memᴰ-tail i) =
        had_mono Onward vs xs bounded (all_pick k q i) (λ j i. i) (le_trans (sum-right c d) h)

    onward_mono : (us ts : List ℕ) (o c d : ℕ) → Found us o c → Among us ts → min c never ≤ d → Found ts o d
    onward_mono us ts o c d p i l = had_mono Onward vs xs bounded p (without_mono o us ts i) l

    onward-here : (us : List ℕ) (n c : ℕ) (w : Way) (k b : ℕ) → Offers vs n w → Lead vs w k → List-as-Memᴰ k us → AllHad Onward vs xs (without k us) w.needs b → capped w.depth ⊕ b ≤ c → Found us k c
    onward-here us n c w k b o q m a h =
        had_mono Onward vs xs bounded (all_pick k a q.among) (λ j i. i) (le_trans (sum-right (capped w.depth) b) h)

    lead_had : (ys : List ℕ) → From Onward vs xs bounded outs inside ys → (o : ℕ) → Found outs o (at ys o)
    lead_had ys f o = join (forbid Onward vs xs bounded Found onward_mono onward-here o (f.had o))
      where
        join : Found outs o (at ys o) ⊎ Found outs o (at ys o) → Found outs o (at ys o)
        join (inl p) = p
        join (inr p) = p

    others-had : (ys : List ℕ) → From Onward vs xs bounded outs inside ys → (o : ℕ) (ns : List ℕ) → ((m : ℕ) → List-as-Memᴰ m ns → (m ≡ o) ⊎ (Visited vs m → ⊥)) → AllHad Onward vs xs (without o outs) ns (sums ys ns)
    unfolding sums
    others-had ys f o [] h = nil
    others-had ys f o (n ∷ ns) h =
        cons (at ys n) (sums ys ns) (join (h n (List-Memᴰ-head refl))) (others-had ys f o ns (λ m i. h m (List-Memᴰ-tail i)))
        (le_refl (at ys n ⊕ sums ys ns))
      where
        join : (n ≡ o) ⊎ (Visited vs n → ⊥) → Had Onward vs xs (without o outs) n (at ys n)
        join (inl e) = rw e (lead_had ys f o)
        join (inr g) = stood (le_of_eq (sym (f.kept n g)))

    onward-made : (ys : List ℕ) → From Onward vs xs bounded outs inside ys → (n : ℕ) (w : Way) → Offers vs n w → Had Onward vs xs outs n (way ys w)
    unfolding way
    onward-made ys f n w o =
        let t : (k : ℕ) × List-as-Memᴰ k outs × Lead vs w k = leads n w o in
        step w t.0 (sums ys w.needs) o t.2 t.1 (others-had ys f t.0 w.needs t.2.others) (le_refl (way ys w))

    pub leads-rest : (k : ℕ) → length outs ≤ k → Rests lower vs (sweeps lower vs k xs)
    leads-rest = keys_rest Onward vs xs bounded outs inside onward-made
