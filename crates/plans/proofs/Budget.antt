-- Why the numbers of a budgeted run are exact: no plan of a node that is not fixed costs less than the cheapest bid. A plan of
-- such a node has a price, or a way all of whose nodes are fixed, or it holds a plan of another node that is not fixed.
-- Costs are compared capped throughout, so that nothing is asked of the order among those that are over.
use Rattle.common_laws.proofs.Base.{Bool, true, false, List, [], ◌∷◌, List-as-Memᴰ, List-Memᴰ-head, List-Memᴰ-tail, ◌⊎◌, inl, inr, Option, none, some, ◌≡◌, refl, sym, ◌∙◌, ap, ℕ}
use Rattle.common_laws.proofs.Base.{zero, suc, ◌+◌, ◌≤◌, ◌<◌, ℕ_discrete, dec_lt, le_refl, le_trans, le_of_eq, le_antisymm, arith, ltb-true, ltb-false, leb-true, leb-false}
use Rattle.common_laws.proofs.Base.{eqb-true, lt-ltb, le-ltb, le-leb, lt-leb, eq-eqb, ne_eqb, eqb, leb, ltb, length, set, replicate, length-set, length-replicate}
use Rattle.reading.specs.Choice.{pick}
use Rattle.cost.specs.Cost.{never, ◌⊕◌, capped, lesser, counted}
use Rattle.cost.proofs.Laws.{sum_mono, sum_left, sum-right, capped-sum}
use Rattle.plans.specs.System.{Way, Visit, System, Offers, Plan, Plan.priced, Plan.chosen, Plans, Plans.done, Plans.also, cost, costs}
use Rattle.plans.specs.Sweep.{at, sums, way, least}
use Rattle.plans.specs.Exact.{Attained, first}
use Rattle.plans.specs.Budget.{Fixed, fixed, offered, offer, bid, Bid, cheapest, Budgeted, unbegun, fix, step, budgeted, fixed_among, Enclosed, Ascending, FirstCheapest, StepFirst, StepNone, BidKept, OfferedOne, OfferedNone, WayFixed, FixedExact, OtherBetween, BudgetStops, StepsCounted, MoreBudget, BudgetEnds, BudgetSame, IdleSame}
use Rattle.plans.proofs.Numbers.{at_set_same, at_set_other}
use Rattle.plans.proofs.Lowered.{lesser-left, lesser-right, lesser-bound, lesser-most, lesser_case, least-below, least-bound, way_same}
use Rattle.plans.proofs.Exactness as Exactness
use Rattle.plans.proofs.Exactness.{AllAttained, least-attained, attained-bound}
use Rattle.plans.proofs.Comparison.{exact-attained, exact_below}

-- ---- what a way needs

sums-fixed : (xs ns : List ℕ) → sums xs ns < never → (n : ℕ) → List-as-Memᴰ n ns → Fixed xs n
unfolding sums
sums-fixed xs [] h n i = elim i [ ]
sums-fixed xs (m ∷ ns) h n (List-Memᴰ-head e) = rw e (omega (arith, sum_left (at xs m) (sums xs ns)))
sums-fixed xs (m ∷ ns) h n (List-Memᴰ-tail i) =
    sums-fixed xs ns (omega (arith, sum-right (at xs m) (sums xs ns))) n i

pub way-fixed : WayFixed
unfolding way
way-fixed xs w h = sums-fixed xs w.needs (omega (arith, sum-right (capped w.depth) (sums xs w.needs)))

-- ---- offers

-- No offer is above the sum of a way.
offered-below : (vs : List Visit) (xs : List ℕ) (n : ℕ) (v : Visit) (w : Way) → List-as-Memᴰ v vs → v.node ≡ n → List-as-Memᴰ w v.ways → offered vs xs n ≤ way xs w
unfolding offered pick
offered-below [] xs n v w m e i = elim m [ ]
offered-below (u ∷ vs) xs n v w (List-Memᴰ-head q) e i =
    let t : eqb u.node n ≡ true = eq-eqb u.node n (rw q at e) in
    rw t
    (le_trans (lesser-left (least xs u.ways) (offered vs xs n)) (least-below xs u.ways w (rw q at i)))
offered-below (u ∷ vs) xs n v w (List-Memᴰ-tail m) e i =
    le_trans (lesser-right (pick (eqb u.node n) (least xs u.ways) never) (offered vs xs n)) (offered-below vs xs n v w m e i)

module _ (S : System) (xs : List ℕ) where
  pub offer-bound : (n : ℕ) → offer S xs n ≤ never
  unfolding offer
  offer-bound n = lesser-bound (first (S.price n)) (offered S.visits xs n)

  pub offer-price : (n c : ℕ) → S.price n ≡ some c → offer S xs n ≤ capped c
  unfolding offer first
  offer-price n c e = rw e (lesser-left (capped c) (offered S.visits xs n))

  pub offer-way : (n : ℕ) (w : Way) → Offers S.visits n w → offer S xs n ≤ way xs w
  unfolding offer
  offer-way n w o =
      le_trans (lesser-right (first (S.price n)) (offered S.visits xs n))
      (offered-below S.visits xs n o.visit w o.listed o.same o.among)

  -- An offer is the cost of some plan.
  lesser-attained : (n a b : ℕ) → Attained S n a → Attained S n b → Attained S n (lesser a b)
  lesser-attained n a b p q = split (lesser_case a b (attained-bound S n a p) (attained-bound S n b q))
    where
      split : (lesser a b ≡ a) ⊎ (lesser a b ≡ b) → Attained S n (lesser a b)
      split (inl e) = rw e p
      split (inr e) = rw e q

  offered-attained : (vs : List Visit) → ((v : Visit) → List-as-Memᴰ v vs → List-as-Memᴰ v S.visits) → AllAttained S xs → (n : ℕ) → Attained S n (offered vs xs n)
  unfolding offered pick
  offered-attained [] i h n = inl refl
  offered-attained (v ∷ vs) i h n =
      lesser-attained n (pick (eqb v.node n) (least xs v.ways) never) (offered vs xs n) (here (eqb v.node n) refl)
      (offered-attained vs (λ u m. i u (List-Memᴰ-tail m)) h n)
    where
      here : (b : Bool) → eqb v.node n ≡ b → Attained S n (pick b (least xs v.ways) never)
      here true e = rw (eqb-true v.node n e) at (least-attained S xs v (i v (List-Memᴰ-head refl)) h)
      here false e = inl refl

  price-attained : (n : ℕ) (o : Option ℕ) → S.price n ≡ o → Attained S n (first o)
  unfolding first cost
  price-attained n none e = inl refl
  price-attained n (some c) e = inr (priced c e, refl)

  pub offer-attained : AllAttained S xs → (n : ℕ) → Attained S n (offer S xs n)
  unfolding offer
  offer-attained h n =
      lesser-attained n (first (S.price n)) (offered S.visits xs n) (price-attained n (S.price n) refl)
      (offered-attained S.visits (λ v m. m) h n)

  -- ---- bids

  pub bid_open : (n : ℕ) → (Fixed xs n → ⊥) → bid S xs n ≡ offer S xs n
  unfolding bid fixed pick
  bid_open n h = rw (le-ltb (at xs n) never (omega arith))

  bid-fixed : (n : ℕ) → Fixed xs n → bid S xs n ≡ never
  unfolding bid fixed pick
  bid-fixed n h = rw (lt-ltb (at xs n) never h)

  -- What the cheapest bid is: one of the nodes', and no higher than any.
  pub record Cheapest (ns : List ℕ) (c : Bid) : Type 0 where
    pub bound : c.cost ≤ never
    pub least : (n : ℕ) → List-as-Memᴰ n ns → c.cost ≤ bid S xs n
    pub made : c.cost < never → List-as-Memᴰ c.node ns × (Fixed xs c.node → ⊥) × (c.cost ≡ offer S xs c.node)

  cheapest-more : (n : ℕ) (ns : List ℕ) (r : Bid) → Cheapest ns r → (b : Bool) → leb (bid S xs n) r.cost ≡ b → Dec (Fixed xs n) → Cheapest (n ∷ ns) (pick b (record { node = n; cost = bid S xs n }) r)
  unfolding pick
  cheapest-more n ns r h true e d =
      let l : bid S xs n ≤ r.cost = leb-true (bid S xs n) r.cost e in
      record { bound = omega (arith, h.bound); least = least l; made = made d }
    where
      least : bid S xs n ≤ r.cost → (m : ℕ) → List-as-Memᴰ m (n ∷ ns) → bid S xs n ≤ bid S xs m
      least l m (List-Memᴰ-head q) = rw q (le_refl (bid S xs n))
      least l m (List-Memᴰ-tail i) = le_trans l (h.least m i)

      made : Dec (Fixed xs n) → bid S xs n < never → List-as-Memᴰ n (n ∷ ns) × (Fixed xs n → ⊥) × (bid S xs n ≡ offer S xs n)
      made (yes f) g = absurd (omega (arith, bid-fixed n f))
      made (no f) g = (List-Memᴰ-head refl, f, bid_open n f)
  cheapest-more n ns r h false e d =
      record {
        bound = h.bound;
        least = least;
        made = λ g. (List-Memᴰ-tail (h.made g).0, (h.made g).1, (h.made g).2);
      }
    where
      least : (m : ℕ) → List-as-Memᴰ m (n ∷ ns) → r.cost ≤ bid S xs m
      least m (List-Memᴰ-head q) = rw q (omega (arith, leb-false (bid S xs n) r.cost e))
      least m (List-Memᴰ-tail i) = h.least m i

  pub cheapest_is : (ns : List ℕ) → Cheapest ns (cheapest S xs ns)
  unfolding cheapest
  cheapest_is [] = record { bound = le_refl never; least = λ n m. elim m [ ]; made = λ h. absurd (omega arith) }
  cheapest_is (n ∷ ns) =
      cheapest-more n ns (cheapest S xs ns) (cheapest_is ns) (leb (bid S xs n) (cheapest S xs ns).cost) refl (dec_lt (at xs n) never)

  -- ---- no plan of a node that is not fixed costs less than the cheapest bid

  module _
      (ns : List ℕ)
      (size : ℕ)
      (among : Enclosed S ns size)
      (exact : (n : ℕ) → Fixed xs n → (p : Plan S n) → at xs n ≤ capped (cost p))
      (c : ℕ)
      (bound : c ≤ never)
      (bids : (n : ℕ) → List-as-Memᴰ n ns → c ≤ bid S xs n)
    where
      -- Plans for what a way needs: together they cost at least what their nodes do, or at least `c`.
      abbrev Reaches : List ℕ → ℕ → Type 0
      Reaches ms k = (c ≤ k) ⊎ (sums xs ms ≤ k)

      plan-offer : (n : ℕ) → List-as-Memᴰ n ns → (Fixed xs n → ⊥) → c ≤ offer S xs n
      plan-offer n m f = rw (← bid_open n f) (bids n m)

      open_chosen : (n : ℕ) → List-as-Memᴰ n ns → (Fixed xs n → ⊥) → (w : Way) → Offers S.visits n w → (k : ℕ) → Reaches w.needs k → c ≤ capped w.depth ⊕ k
      unfolding way
      open_chosen n m f w o k (inl h) = omega (arith, sum-right (capped w.depth) k)
      open_chosen n m f w o k (inr h) =
          le_trans (plan-offer n m f)
          (le_trans (offer-way n w o)
          (sum_mono (capped w.depth) (sums xs w.needs) (capped w.depth) k (le_refl (capped w.depth)) h))

      open_also : (n : ℕ) (ms : List ℕ) (j k : ℕ) → (c ≤ j) ⊎ (at xs n ≤ j) → Reaches ms k → Reaches (n ∷ ms) (j ⊕ k)
      unfolding sums
      open_also n ms j k (inl h) r = inl (omega (arith, sum_left j k))
      open_also n ms j k (inr h) (inl g) = inl (omega (arith, sum-right j k))
      open_also n ms j k (inr h) (inr g) = inr (sum_mono (at xs n) (sums xs ms) j k h g)

      one : (n : ℕ) (p : Plan S n) → ((Fixed xs n → ⊥) → c ≤ capped (cost p)) → Dec (Fixed xs n) → (c ≤ capped (cost p)) ⊎ (at xs n ≤ capped (cost p))
      one n p h (yes f) = inr (exact n f p)
      one n p h (no f) = inl (h f)

      mutual
        unfolding cost sums

        pub open_bound : {n : ℕ} (p : Plan S n) → List-as-Memᴰ n ns → (Fixed xs n → ⊥) → c ≤ capped (cost p)
        open_bound {n} (priced d e) m f = le_trans (plan-offer n m f) (offer-price n d e)
        open_bound {n} (chosen w o ps) m f =
            rw (capped-sum w.depth (costs ps))
            (open_chosen n m f w o (capped (costs ps)) (open_all ps (λ j i. among.needs n w m o j i)))

        open_all : {ms : List ℕ} (ps : Plans S ms) → ((j : ℕ) → List-as-Memᴰ j ms → List-as-Memᴰ j ns) → Reaches ms (capped (costs ps))
        open_all done i = inr (omega arith)
        open_all (also {n = n} {ns = ms} p ps) i =
            rw (capped-sum (cost p) (costs ps))
            (open_also n ms (capped (cost p)) (capped (costs ps)) (one n p (λ f. open_bound p (i n (List-Memᴰ-head refl)) f) (dec_lt (at xs n) never))
            (open_all ps (λ j m. i j (List-Memᴰ-tail m))))

bid-bound : (S : System) (xs : List ℕ) (n : ℕ) → bid S xs n ≤ never
unfolding bid
bid-bound S xs n = test (fixed xs n)
  where
    test : (b : Bool) → pick b never (offer S xs n) ≤ never
    test true = unfold pick in le_refl never
    test false = unfold pick in offer-bound S xs n

-- ---- a run

set-attained : (S : System) (xs : List ℕ) (n a : ℕ) → AllAttained S xs → n < length xs → Attained S n a → AllAttained S (set xs n a)
set-attained S xs n a h i k m = place (ℕ_discrete m n)
  where
    place : Dec (m ≡ n) → Attained S m (at (set xs n a) m)
    place (yes e) = rw (e, at_set_same xs n a i) k
    place (no e) = rw (at_set_other xs n a m e) (h m)

pub at_none : (k n : ℕ) → at (replicate k never) n ≡ never
unfolding at
at_none zero n = refl
at_none (suc k) zero = refl
at_none (suc k) (suc n) = at_none k n

-- How many of the nodes are fixed.
among-fixed : (xs ns : List ℕ) (n : ℕ) → Fixed xs n → fixed_among xs (n ∷ ns) ≡ suc (fixed_among xs ns)
unfolding fixed_among fixed pick
among-fixed xs ns n h = rw (lt-ltb (at xs n) never h) (omega arith)

among_open : (xs ns : List ℕ) (n : ℕ) → (Fixed xs n → ⊥) → fixed_among xs (n ∷ ns) ≡ fixed_among xs ns
unfolding fixed_among fixed pick
among_open xs ns n h = rw (le-ltb (at xs n) never (omega arith)) (omega arith)

among_none : (k : ℕ) (ns : List ℕ) → fixed_among (replicate k never) ns ≡ 0
among_none k [] = unfold fixed_among in refl
among_none k (n ∷ ns) = among_open (replicate k never) ns n (λ f. omega (arith, at_none k n)) ∙ among_none k ns

pub among-most : (xs ns : List ℕ) → fixed_among xs ns ≤ length ns
among-most xs [] = unfold fixed_among in omega arith
among-most xs (n ∷ ns) = test (dec_lt (at xs n) never) (among-most xs ns)
  where
    test : Dec (Fixed xs n) → fixed_among xs ns ≤ length ns → fixed_among xs (n ∷ ns) ≤ suc (length ns)
    test (yes d) r = omega (arith, among-fixed xs ns n d)
    test (no d) r = omega (arith, among_open xs ns n d)

-- Where that many are, each is.
among-all : (xs ns : List ℕ) (n : ℕ) → List-as-Memᴰ n ns → length ns ≤ fixed_among xs ns → Fixed xs n
among-all xs [] n i h = elim i [ ]
among-all xs (m ∷ ns) n i h = test i (dec_lt (at xs m) never) (λ j. among-all xs ns n j)
  where
    test : List-as-Memᴰ n (m ∷ ns) → Dec (Fixed xs m) → (List-as-Memᴰ n ns → length ns ≤ fixed_among xs ns → Fixed xs n) → Fixed xs n
    test (List-Memᴰ-head e) (yes d) r = rw e d
    test (List-Memᴰ-tail j) (yes d) r = r j (omega (arith, among-fixed xs ns m d))
    test j (no d) r = absurd (omega (arith, among_open xs ns m d, among-most xs ns))

-- A number that is stored makes one more of the nodes fixed, since they ascend.
module _ (xs : List ℕ) (n a : ℕ) (inside : n < length xs) (unfixed : Fixed xs n → ⊥) (below : a < never) where
  abbrev ys : List ℕ
  ys = set xs n a

  among-step : (m : ℕ) (ns : List ℕ) → (m ≡ n → ⊥) → (k : ℕ) → fixed_among ys ns ≡ k + fixed_among xs ns → fixed_among ys (m ∷ ns) ≡ k + fixed_among xs (m ∷ ns)
  unfolding fixed_among fixed
  among-step m ns d k e =
      rw (at_set_other xs n a m d, e)
      (omega arith)

  among-other : (ns : List ℕ) → ((m : ℕ) → List-as-Memᴰ m ns → m ≡ n → ⊥) → fixed_among ys ns ≡ 0 + fixed_among xs ns
  among-other [] h = unfold fixed_among in omega arith
  among-other (m ∷ ns) h = among-step m ns (h m (List-Memᴰ-head refl)) 0 (among-other ns (λ j i. h j (List-Memᴰ-tail i)))

  among-set : (ns : List ℕ) → Ascending ns → List-as-Memᴰ n ns → fixed_among ys ns ≡ 1 + fixed_among xs ns
  among-set [] asc i = elim i [ ]
  among-set (m ∷ ns) asc (List-Memᴰ-head e) =
      let f : Fixed ys m = rw (← e) (rw (at_set_same xs n a inside) below) in
      omega (
        arith,
        among-fixed ys ns m f,
        among_open xs ns m (λ g. unfixed (rw e g)),
        among-other ns (λ j i q. let h : m < j = asc.0 j i in omega (arith, e)),
      )
  among-set (m ∷ ns) asc (List-Memᴰ-tail i) =
      among-step m ns (λ q. let h : m < n = asc.0 n i in omega arith) 1 (among-set ns asc.1 i)

module _ (S : System) (ns : List ℕ) (size : ℕ) where
  -- Where a run stands.
  pub record Midway (b : Budgeted) : Type 0 where
    pub long : length b.numbers ≡ size
    pub attained : AllAttained S b.numbers
    pub exact : (n : ℕ) → Fixed b.numbers n → (p : Plan S n) → at b.numbers n ≤ capped (cost p)
    pub others : (n : ℕ) → List-as-Memᴰ n ns → (Fixed b.numbers n → ⊥) → (p : Plan S n) → b.last ≤ capped (cost p)
    pub bounded : b.last ≤ never
    pub counted : b.steps ≡ fixed_among b.numbers ns

  -- A step fixes a node that was not, or there is nothing on offer.
  pub record Fixes (b : Budgeted) (c : Bid) : Type 0 where
    pub same : step S ns b ≡ fix b c
    pub below : c.cost < never
    pub listed : List-as-Memᴰ c.node ns
    pub unfixed : Fixed b.numbers c.node → ⊥
    pub offers : c.cost ≡ offer S b.numbers c.node
    pub least : (n : ℕ) → List-as-Memᴰ n ns → c.cost ≤ bid S b.numbers n

  pub record Done (b : Budgeted) : Type 0 where
    pub same : step S ns b ≡ b
    pub none : (n : ℕ) → List-as-Memᴰ n ns → never ≤ bid S b.numbers n

  pub step_cases : (b : Budgeted) → Fixes b (cheapest S b.numbers ns) ⊎ Done b
  unfolding step pick
  step_cases b = test (ltb (cheapest S b.numbers ns).cost never) refl (cheapest_is S b.numbers ns)
    where
      c : Bid
      c = cheapest S b.numbers ns

      test : (t : Bool) → ltb c.cost never ≡ t → Cheapest S b.numbers ns c → Fixes b c ⊎ Done b
      test true e h =
          let l : c.cost < never = ltb-true c.cost never e in
          inl (record { same = rw e; below = l; listed = (h.made l).0; unfixed = (h.made l).1; offers = (h.made l).2; least = h.least })
      test false e h =
          inr (record { same = rw e; none = λ n m. le_trans (ltb-false c.cost never e) (h.least n m) })

  -- A fixed node keeps its number.
  step_keeps : (b : Budgeted) (n : ℕ) → Fixed b.numbers n → at (step S ns b).numbers n ≡ at b.numbers n
  unfolding fix
  step_keeps b n f = split (step_cases b)
    where
      split : Fixes b (cheapest S b.numbers ns) ⊎ Done b → at (step S ns b).numbers n ≡ at b.numbers n
      split (inl t) =
          rw t.same
          (at_set_other b.numbers (cheapest S b.numbers ns).node (cheapest S b.numbers ns).cost n
          (λ e. t.unfixed (rw e at f)))
      split (inr t) = rw t.same

  -- Nothing on offer stays so.
  abbrev Stopped : ℕ → Budgeted → Type 0
  Stopped budget b = (b.steps ≡ budget) ⊎ ((n : ℕ) → List-as-Memᴰ n ns → bid S b.numbers n ≡ never)

  stops-on : (budget : ℕ) (b : Budgeted) → Fixes b (cheapest S b.numbers ns) ⊎ Done b → Stopped budget b → Stopped (suc budget) (step S ns b)
  unfolding fix
  stops-on budget b (inr d) h = inr (rw d.same (λ n m. le_antisymm (bid-bound S b.numbers n) (d.none n m)))
  stops-on budget b (inl t) (inl e) = inl (rw (t.same, e))
  stops-on budget b (inl t) (inr g) =
      absurd (omega (arith, t.below, g (cheapest S b.numbers ns).node t.listed, t.offers, bid_open S b.numbers (cheapest S b.numbers ns).node t.unfixed))

  pub budget-stopped : (budget : ℕ) → Stopped budget (budgeted S ns size budget)
  unfolding budgeted unbegun
  budget-stopped zero = inl refl
  budget-stopped (suc budget) = stops-on budget (budgeted S ns size budget) (step_cases (budgeted S ns size budget)) (budget-stopped budget)

  module _ (among : Enclosed S ns size) where
    stands-start : Midway (unbegun size)
    unfolding unbegun
    stands-start =
        record {
          long = length-replicate size never;
          attained = λ n. inl (at_none size n);
          exact = λ n f p. absurd (omega (arith, at_none size n));
          others = λ n m f p. omega arith;
          bounded = omega arith;
          counted = sym (among_none size ns);
        }

    stands-fix : (b : Budgeted) (c : Bid) → Midway b → Fixes b c → Midway (fix b c)
    unfolding fix
    stands-fix b c s t =
        record {
          long = length-set b.numbers c.node c.cost ∙ s.long;
          attained =
              set-attained S b.numbers c.node c.cost s.attained here
              (rw t.offers (offer-attained S b.numbers s.attained c.node));
          exact = λ n f p. exact n f p (ℕ_discrete n c.node);
          others = λ n m f p. bound m (λ g. f (kept n g)) p;
          bounded = omega (arith, t.below);
          counted = omega (arith, s.counted, among-set b.numbers c.node c.cost here t.unfixed t.below ns among.ascending t.listed);
        }
      where
        here : c.node < length b.numbers
        here = rw s.long (among.inside c.node t.listed)

        bound : {n : ℕ} → List-as-Memᴰ n ns → (Fixed b.numbers n → ⊥) → (p : Plan S n) → c.cost ≤ capped (cost p)
        bound m f p = open_bound S b.numbers ns size among s.exact c.cost (omega (arith, t.below)) t.least p m f

        kept : (n : ℕ) → Fixed b.numbers n → Fixed (set b.numbers c.node c.cost) n
        kept n g = rw (at_set_other b.numbers c.node c.cost n (λ e. t.unfixed (rw e at g))) g

        exact : (n : ℕ) → Fixed (set b.numbers c.node c.cost) n → (p : Plan S n) → Dec (n ≡ c.node) → at (set b.numbers c.node c.cost) n ≤ capped (cost p)
        exact n f p (yes e) =
            le_trans
            (le_of_eq (ap (at (set b.numbers c.node c.cost)) e ∙ at_set_same b.numbers c.node c.cost here))
            (bound (rw e t.listed) (λ g. t.unfixed (rw e at g)) p)
        exact n f p (no e) =
            let q : at (set b.numbers c.node c.cost) n ≡ at b.numbers n = at_set_other b.numbers c.node c.cost n e in
            rw q (s.exact n (rw q at f) p)

    stands-step : (b : Budgeted) → Midway b → Midway (step S ns b)
    stands-step b s = split (step_cases b)
      where
        split : Fixes b (cheapest S b.numbers ns) ⊎ Done b → Midway (step S ns b)
        split (inl t) = rw t.same (stands-fix b (cheapest S b.numbers ns) s t)
        split (inr t) = rw t.same s

    pub stands : (budget : ℕ) → Midway (budgeted S ns size budget)
    unfolding budgeted
    stands zero = stands-start
    stands (suc budget) = stands-step (budgeted S ns size budget) (stands budget)

    -- ---- an unlimited budget

    all-fixed : (b : Budgeted) → length ns ≤ fixed_among b.numbers ns → (n : ℕ) → List-as-Memᴰ n ns → bid S b.numbers n ≡ never
    all-fixed b h n m = bid-fixed S b.numbers n (among-all b.numbers ns n m h)

    -- Where so many steps were made as there are nodes, all are fixed.
    pub spent : (budget : ℕ) → length ns ≤ budget → (n : ℕ) → List-as-Memᴰ n ns → bid S (budgeted S ns size budget).numbers n ≡ never
    spent budget h = split (budget-stopped budget)
      where
        split : ((budgeted S ns size budget).steps ≡ budget) ⊎ ((n : ℕ) → List-as-Memᴰ n ns → bid S (budgeted S ns size budget).numbers n ≡ never)
            → (n : ℕ) → List-as-Memᴰ n ns → bid S (budgeted S ns size budget).numbers n ≡ never
        split (inl e) = all-fixed (budgeted S ns size budget) (omega (arith, (stands budget).counted))
        split (inr g) = g

-- ---- the theorems

pub fixed-exact : FixedExact
fixed-exact S ns size budget among n f =
    let s : Midway S ns size (budgeted S ns size budget) = stands S ns size among budget in
    Exactness.exact S n (at (budgeted S ns size budget).numbers n) (s.attained n) (s.exact n f)

attained-least : (S : System) (n x y : ℕ) → Attained S n x → y ≤ never → ((p : Plan S n) → y ≤ capped (cost p)) → y ≤ x
attained-least S n x y (inl e) h b = omega arith
attained-least S n x y (inr t) h b = omega (arith, b t.0)

pub other-between : OtherBetween
other-between S ns size budget among n x m f e =
    let s : Midway S ns size (budgeted S ns size budget) = stands S ns size among budget in
    let a : Attained S n x = exact-attained S n x e in (
      attained-least S n x (budgeted S ns size budget).last a s.bounded (s.others n m f),
      attained-least S n (offer S (budgeted S ns size budget).numbers n) x
          (offer-attained S (budgeted S ns size budget).numbers s.attained n) (attained-bound S n x a) (exact_below S n x e),
    )

pub steps-counted : StepsCounted
steps-counted S ns size budget among = (stands S ns size among budget).counted

pub more-budget : MoreBudget
unfolding budgeted
more-budget S ns size budget zero h n f =
    let e : budget ≡ 0 = omega arith in
    ap (λ (k : ℕ). at (budgeted S ns size k).numbers n) (sym e)
more-budget S ns size budget (suc larger) h n f = split (ℕ_discrete budget (suc larger)) (λ g. more-budget S ns size budget larger g n f)
  where
    split : Dec (budget ≡ suc larger) → (budget ≤ larger → at (budgeted S ns size larger).numbers n ≡ at (budgeted S ns size budget).numbers n) → at (budgeted S ns size (suc larger)).numbers n ≡ at (budgeted S ns size budget).numbers n
    split (yes e) r = ap (λ (k : ℕ). at (budgeted S ns size k).numbers n) (sym e)
    split (no e) r =
        let q : at (budgeted S ns size larger).numbers n ≡ at (budgeted S ns size budget).numbers n = r (omega arith) in
        step_keeps S ns size (budgeted S ns size larger) n (rw q f) ∙ q

pub budget-ends : BudgetEnds
budget-ends S ns size budget among h n m =
    let s : Midway S ns size (budgeted S ns size budget) = stands S ns size among budget in (
      Exactness.exact S n (at (budgeted S ns size budget).numbers n) (s.attained n) (below s (dec_lt (at (budgeted S ns size budget).numbers n) never)),
      spent S ns size among budget h n m,
    )
  where
    below : Midway S ns size (budgeted S ns size budget) → Dec (Fixed (budgeted S ns size budget).numbers n) → (p : Plan S n) → at (budgeted S ns size budget).numbers n ≤ capped (cost p)
    below s (yes f) p = s.exact n f p
    below s (no f) p =
        le_trans (attained-bound S n (at (budgeted S ns size budget).numbers n) (s.attained n))
        (open_bound S (budgeted S ns size budget).numbers ns size among s.exact never (le_refl never) (λ j i. le_of_eq (sym (spent S ns size among budget h j i))) p m f)

pub budget-stops : BudgetStops
budget-stops S ns size budget = budget-stopped S ns size budget

pub idle-same : IdleSame
unfolding budgeted
idle-same S ns size budget zero e h = let z : budget ≡ 0 = omega arith in rw z
idle-same S ns size budget (suc larger) e h = split (ℕ_discrete budget (suc larger)) (λ g. idle-same S ns size budget larger e g)
  where
    split : Dec (budget ≡ suc larger) → (budget ≤ larger → budgeted S ns size larger ≡ budgeted S ns size budget) → budgeted S ns size (suc larger) ≡ budgeted S ns size budget
    split (yes q) r = ap (budgeted S ns size) (sym q)
    split (no q) r = ap (step S ns) (r (omega arith)) ∙ e

-- What the cheapest of the rest costs is some bid, or never.
rest-least : (S : System) (xs ns : List ℕ) (b : ℕ) → b ≤ never → ((m : ℕ) → List-as-Memᴰ m ns → b ≤ bid S xs m) → b ≤ (cheapest S xs ns).cost
rest-least S xs ns b h l = test (cheapest_is S xs ns) (dec_lt (cheapest S xs ns).cost never)
  where
    test : Cheapest S xs ns (cheapest S xs ns) → Dec ((cheapest S xs ns).cost < never) → b ≤ (cheapest S xs ns).cost
    test c (no d) = omega arith
    test c (yes d) =
        let t : List-as-Memᴰ (cheapest S xs ns).node ns × (Fixed xs (cheapest S xs ns).node → ⊥) × ((cheapest S xs ns).cost ≡ offer S xs (cheapest S xs ns).node) =
        c.made d in
        rw (t.2 ∙ sym (bid_open S xs (cheapest S xs ns).node t.1)) (l (cheapest S xs ns).node t.0)

pub step-none : StepNone
unfolding step pick
step-none S ns b h = rw (le-ltb (cheapest S b.numbers ns).cost never (rest-least S b.numbers ns never (le_refl never) h))

pub budget-same : BudgetSame
budget-same S ns size budget larger among h l =
    idle-same S ns size budget larger
    (step-none S ns (budgeted S ns size budget) (λ n m. le_of_eq (sym (spent S ns size among budget h n m)))) l

-- ---- for the code

pub first_cheapest : FirstCheapest
unfolding cheapest pick
first_cheapest S xs [] asc n f = elim f.listed [ ]
first_cheapest S xs (m ∷ ns) asc n f = split f.listed (λ i. first_cheapest S xs ns asc.1 n (record { listed = i; least = λ k j. f.least k (List-Memᴰ-tail j); lowest = λ k j. f.lowest k (List-Memᴰ-tail j) }))
  where
    split : List-as-Memᴰ n (m ∷ ns) → (List-as-Memᴰ n ns → cheapest S xs ns ≡ record { node = n; cost = bid S xs n }) → cheapest S xs (m ∷ ns) ≡ record { node = n; cost = bid S xs n }
    split (List-Memᴰ-head e) r =
        let l : bid S xs m ≤ (cheapest S xs ns).cost =
        rest-least S xs ns (bid S xs m) (bid-bound S xs m) (λ k j. rw (← e) (f.least k (List-Memᴰ-tail j))) in
        rw (le-leb (bid S xs m) (cheapest S xs ns).cost l, e)
    split (List-Memᴰ-tail i) r =
        let q : cheapest S xs ns ≡ record { node = n; cost = bid S xs n } = r i in
        let a : m < n = asc.0 n i in
        let l : bid S xs n < bid S xs m = lower (f.least m (List-Memᴰ-head refl)) (f.lowest m (List-Memᴰ-head refl)) a in
        rw (q, lt-leb (bid S xs m) (bid S xs n) l)
      where
        lower : bid S xs n ≤ bid S xs m → (bid S xs m ≡ bid S xs n → n ≤ m) → m < n → bid S xs n < bid S xs m
        lower a b c = test (ℕ_discrete (bid S xs m) (bid S xs n))
          where
            test : Dec (bid S xs m ≡ bid S xs n) → bid S xs n < bid S xs m
            test (yes e) = absurd (omega (arith, b e))
            test (no e) = omega arith

pub step_first : StepFirst
unfolding step pick
step_first S ns b asc n f h = rw (first_cheapest S b.numbers ns asc n f, lt-ltb (bid S b.numbers n) never h)

least-same : (ys xs : List ℕ) (ws : List Way) → ((w : Way) → List-as-Memᴰ w ws → way ys w ≡ way xs w) → least ys ws ≡ least xs ws
unfolding least
least-same ys xs [] h = refl
least-same ys xs (w ∷ ws) h = rw (h w (List-Memᴰ-head refl), least-same ys xs ws (λ u m. h u (List-Memᴰ-tail m)))

offered-same : (vs : List Visit) (ys xs : List ℕ) (n : ℕ) → ((w : Way) → Offers vs n w → way ys w ≡ way xs w) → offered vs ys n ≡ offered vs xs n
unfolding offered
offered-same [] ys xs n h = refl
offered-same (v ∷ vs) ys xs n h =
    rw (
      here (eqb v.node n) refl,
      offered-same vs ys xs n (λ w o. h w (record { visit = o.visit; listed = List-Memᴰ-tail o.listed; same = o.same; among = o.among })),
    )
  where
    here : (b : Bool) → eqb v.node n ≡ b → pick b (least ys v.ways) never ≡ pick b (least xs v.ways) never
    here true e =
        unfold pick in
        least-same ys xs v.ways (λ w i. h w (record { visit = v; listed = List-Memᴰ-head refl; same = eqb-true v.node n e; among = i }))
    here false e = unfold pick in refl

pub bid-kept : BidKept
unfolding bid fixed offer
bid-kept S xs n a m d h =
    rw (
      at_set_other xs n a m d,
      offered-same S.visits (set xs n a) xs m
          (λ w o. way_same (set xs n a) xs w (λ k i. at_set_other xs n a k (λ e. h w o (rw e at i)))),
    )

pub offered-none : OfferedNone
unfolding offered
offered-none [] xs n h = refl
offered-none (v ∷ vs) xs n h =
    rw (
      ne_eqb v.node n (λ e. h (record { visit = v; listed = List-Memᴰ-head refl; same = e })),
      offered-none vs xs n (λ t. h (record { visit = t.visit; listed = List-Memᴰ-tail t.listed; same = t.same })),
    )
    (unfold pick lesser counted in refl)

-- No offer is above the least of a visit ..
offered-least : (vs : List Visit) (xs : List ℕ) (v : Visit) → List-as-Memᴰ v vs → offered vs xs v.node ≤ least xs v.ways
unfolding offered pick
offered-least [] xs v i = elim i [ ]
offered-least (u ∷ vs) xs v (List-Memᴰ-head e) =
    rw (e, eq-eqb u.node u.node refl) (lesser-left (least xs u.ways) (offered vs xs u.node))
offered-least (u ∷ vs) xs v (List-Memᴰ-tail i) =
    le_trans (lesser-right (pick (eqb u.node v.node) (least xs u.ways) never) (offered vs xs v.node)) (offered-least vs xs v i)

-- .. nor below it, where every visit to the node has the same ways.
offered-above : (vs : List Visit) (xs : List ℕ) (v : Visit) → ((u : Visit) → List-as-Memᴰ u vs → u.node ≡ v.node → u.ways ≡ v.ways) → least xs v.ways ≤ offered vs xs v.node
unfolding offered
offered-above [] xs v once = least-bound xs v.ways
offered-above (u ∷ vs) xs v once =
    lesser-most (pick (eqb u.node v.node) (least xs u.ways) never) (offered vs xs v.node) (least xs v.ways)
    (least-bound xs v.ways) (here (eqb u.node v.node) refl) (offered-above vs xs v (λ t i. once t (List-Memᴰ-tail i)))
  where
    here : (b : Bool) → eqb u.node v.node ≡ b → least xs v.ways ≤ pick b (least xs u.ways) never
    here true e =
        unfold pick in
        le_of_eq (ap (least xs) (sym (once u (List-Memᴰ-head refl) (eqb-true u.node v.node e))))
    here false e = unfold pick in least-bound xs v.ways

pub offered-one : OfferedOne
offered-one vs xs v m once = le_antisymm (offered-least vs xs v m) (offered-above vs xs v once)
