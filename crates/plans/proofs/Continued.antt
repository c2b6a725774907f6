-- Runs that go on from numbers that stand.
use Rattle.common_laws.proofs.Base.{List, [], ◌∷◌, List-as-Memᴰ, List-Memᴰ-head, List-Memᴰ-tail, inl, inr, ◌≡◌, refl, sym, ◌∙◌, ap, ℕ, zero, suc, ◌+◌, ◌-◌, ◌≤◌, ◌<◌, ℕ_discrete}
use Rattle.common_laws.proofs.Base.{dec_lt, le_refl, le_trans, le_of_eq, arith, length, set, set_out}
use Rattle.cost.specs.Cost.{capped}
use Rattle.cost.proofs.Laws.{sum_mono, capped-sum}
use Rattle.plans.specs.System.{Way, Visit, System, Offers, Plan, Plan.priced, Plan.chosen, Plans, Plans.done, Plans.also, cost, costs}
use Rattle.plans.specs.Sweep.{at, sums, way, least, Rule, lower, sweep, sweeps, Rests, Settles}
use Rattle.plans.specs.Exact.{Attained}
use Rattle.plans.specs.Stages.{Stages.ended, Stages.stage}
use Rattle.plans.proofs.BothRules.{lowers_settle}
use Rattle.plans.specs.Continued.{AllExact, ExactTable, StandingStart, StandingAbove, Continued, SettledStays, LowerStart, BetweenSettles, PadSettles, PadIdle, LoweredStages, LoweredUnder}
use Rattle.plans.proofs.Numbers.{at_set_same, at_set_other, Under, under_refl, under_trans, under_antisym, under_set, at_ext}
use Rattle.plans.proofs.Lowered.{lesser-left, lesser-right, lesser-bound, lesser-most, least-bound, least-below, least_mono, lower-here, lower-past, rests-head, rests-tail}
use Rattle.plans.proofs.Kept.{lower-stores, rule-length, rule-other}
use Rattle.plans.proofs.Idle.{idle_stays}
use Rattle.plans.proofs.Stages.{settles_under, stages-left, stages-exact}
use Rattle.plans.proofs.Comparison.{exact-once, exact-attained, exact_below, attained-more}

-- ---- by plans

pub exact-table : ExactTable
exact-table S xs ys e h k = at_ext xs ys e (λ n. exact-once S n (at xs n) (at ys n) (h n) (k n))

pub standing-start : StandingStart
unfolding cost
standing-start S T m xs h =
    record {
      attained = λ n.
          attained-more S T (λ i c e. sym (m.prices i) ∙ e) m.ways n (at xs n) (exact-attained S n (at xs n) (h n));
      prices = λ n c e. exact_below S n (at xs n) (h n) (priced c (m.prices n ∙ e));
    }

module _ (S : System) (xs : List ℕ) (exact : AllExact S xs) where
  -- Plans of the nodes that a row needs cost at least its sum.
  sums-below : {ns : List ℕ} (ps : Plans S ns) → sums xs ns ≤ capped (costs ps)
  unfolding sums costs
  sums-below done = omega arith
  sums-below (also {n = n} {ns = ns} p ps) =
      rw (capped-sum (cost p) (costs ps))
      (sum_mono (at xs n) (sums xs ns) (capped (cost p)) (capped (costs ps)) (exact_below S n (at xs n) (exact n) p) (sums-below ps))

  way-below : (w : Way) (ps : Plans S w.needs) {n : ℕ} (o : Offers S.visits n w) → way xs w ≤ capped (cost (chosen w o ps))
  unfolding way cost
  way-below w ps o =
      rw (capped-sum w.depth (costs ps))
      (sum_mono (capped w.depth) (sums xs w.needs) (capped w.depth) (capped (costs ps)) (le_refl (capped w.depth)) (sums-below ps))

pub standing-above : StandingAbove
standing-above S vs xs exact unpriced ways v m = join (exact-attained S v.node (at xs v.node) (exact v.node))
  where
    plan : (p : Plan S v.node) → least xs v.ways ≤ capped (cost p)
    plan (priced c e) = absurd (unpriced v m c e)
    plan (chosen w o ps) = le_trans (least-below xs v.ways w (ways v m w o)) (way-below S xs exact w ps o)

    join : Attained S v.node (at xs v.node) → least xs v.ways ≤ at xs v.node
    join (inl e) = rw e (least-bound xs v.ways)
    join (inr t) = rw t.1 (plan t.0)

pub continued : Continued
continued S T ss standing first zs fresh counts others more exact e apart long inside works fresh-works start run new =
    exact-table T zs fresh
    ((stages-left ss standing zs counts apart works run).0 ∙ long ∙ sym (stages-left ss first fresh others apart fresh-works new).0)
    (stages-exact T ss standing zs counts e (λ v m. rw long (inside v m)) apart works (standing-start S T more standing exact) run)
    (stages-exact T ss first fresh others e inside apart fresh-works start new)

-- ---- more sweeps than are needed

rest_stays : (rule : Rule) (vs : List Visit) (xs : List ℕ) (k : ℕ) → Rests rule vs xs → sweeps rule vs k xs ≡ xs
unfolding sweeps
rest_stays rule vs xs zero e = refl
rest_stays rule vs xs (suc k) e = rw e (rest_stays rule vs xs k e)

sweeps-add : (rule : Rule) (vs : List Visit) (j k : ℕ) (xs : List ℕ) → sweeps rule vs (j + k) xs ≡ sweeps rule vs k (sweeps rule vs j xs)
unfolding sweeps
sweeps-add rule vs zero k xs = let e : 0 + k ≡ k = omega arith in rw e refl
sweeps-add rule vs (suc j) k xs = let e : suc j + k ≡ suc (j + k) = omega arith in rw e (sweeps-add rule vs j k (sweep rule vs xs))

pub settled_stays : SettledStays
settled_stays rule vs xs ys k n s h =
    let e : n ≡ s.changes + (n - s.changes) = omega (arith, s.counted) in
    ap (λ (m : ℕ). sweeps rule vs m xs) e
    ∙ sweeps-add rule vs s.changes (n - s.changes) xs
    ∙ rw s.reached (rest_stays rule vs ys (n - s.changes) s.rests)

-- ---- by order

lower_mono : {xs ys : List ℕ} → Under ys xs → (v : Visit) → Under (lower ys v) (lower xs v)
lower_mono {xs} {ys} u v =
    record {
      long = rule-length lower lower-stores ys v ∙ u.long ∙ sym (rule-length lower lower-stores xs v);
      below = λ n. place n (ℕ_discrete v.node n) (dec_lt v.node (length xs));
    }
  where
    place : (n : ℕ) → Dec (v.node ≡ n) → Dec (v.node < length xs) → at (lower ys v) n ≤ at (lower xs v) n
    place n (yes e) (yes b) =
        rw (← e, lower-here ys v (rw u.long b), lower-here xs v b)
        (lesser-most (at xs v.node) (least xs v.ways) _ (lesser-bound (at ys v.node) (least ys v.ways))
        (le_trans (lesser-left (at ys v.node) (least ys v.ways)) (u.below v.node))
        (le_trans (lesser-right (at ys v.node) (least ys v.ways)) (least_mono ys xs v.ways u.below)))
    place n (yes e) (no b) = rw (lower-past xs v (omega arith), lower-past ys v (omega (arith, u.long))) (u.below n)
    place n (no e) d = rw (rule-other lower lower-stores ys v n e, rule-other lower lower-stores xs v n e) (u.below n)

pub sweep_mono : {xs ys : List ℕ} → Under ys xs → (vs : List Visit) → Under (sweep lower vs ys) (sweep lower vs xs)
unfolding sweep
sweep_mono u [] = u
sweep_mono {xs} {ys} u (v ∷ vs) = sweep_mono {xs = lower xs v} {ys = lower ys v} (lower_mono u v) vs

pub sweeps_mono : {xs ys : List ℕ} → Under ys xs → (vs : List Visit) (k : ℕ) → Under (sweeps lower vs k ys) (sweeps lower vs k xs)
unfolding sweeps
sweeps_mono u vs zero = u
sweeps_mono {xs} {ys} u vs (suc k) = sweeps_mono {xs = sweep lower vs xs} {ys = sweep lower vs ys} (sweep_mono u vs) vs k

-- Numbers at rest under a table stay under all that its sweeps come to.
rest_under : (vs : List Visit) {ys zs : List ℕ} (k : ℕ) → Rests lower vs zs → Under zs ys → Under zs (sweeps lower vs k ys)
rest_under vs {ys} {zs} k e u = rw (rest_stays lower vs zs k e) at (sweeps_mono u vs k)

pub lower-start : LowerStart
lower-start vs xs ys zs ws k l u s t =
    under_trans
    (rest_under vs s.changes t.rests (settles_under t))
    (rw s.reached at (sweeps_mono u vs s.changes))

pub between-settles : BetweenSettles
between-settles vs xs ys zs ws k l s above below t =
    under_antisym (lower-start vs xs ys zs ws k l below s t) (rw t.reached at (rest_under vs t.changes s.rests above))

pub pad-settles : PadSettles
pad-settles vs first old new tried n a k l m low s t r =
    between-settles vs (set first n a) (set old n a) new tried l m t above below r
  where
    fallen : Under old first
    fallen = settles_under s

    lowered : Under (set first n a) first
    lowered = under_set first n a (le_trans low (fallen.below n))

    less : Under new old
    less = lower-start vs first (set first n a) old new k l lowered s t

    above : Under new (set old n a)
    above = record { long = less.long ∙ sym (under_set old n a low).long; below = λ i. place i (ℕ_discrete i n) (dec_lt n (length old)) }
      where
        place : (i : ℕ) → Dec (i ≡ n) → Dec (n < length old) → at new i ≤ at (set old n a) i
        place i (yes e) (yes b) =
            rw (e, at_set_same old n a b)
            (le_trans ((settles_under t).below n) (le_of_eq (at_set_same first n a (rw (← fallen.long) b))))
        place i (yes e) (no b) = rw (set_out old n a (omega arith)) (less.below i)
        place i (no e) d = rw (at_set_other old n a i e) (less.below i)

    below : Under (set old n a) (set first n a)
    below =
        record {
          long = (under_set old n a low).long ∙ fallen.long ∙ sym lowered.long;
          below = λ i. place i (ℕ_discrete i n) (dec_lt n (length old));
        }
      where
        place : (i : ℕ) → Dec (i ≡ n) → Dec (n < length old) → at (set old n a) i ≤ at (set first n a) i
        place i (yes e) (yes b) = rw (e, at_set_same old n a b, at_set_same first n a (rw (← fallen.long) b)) (le_refl a)
        place i (yes e) (no b) =
            rw (set_out old n a (omega arith), set_out first n a (omega (arith, fallen.long))) (fallen.below i)
        place i (no e) d = rw (at_set_other old n a i e, at_set_other first n a i e) (fallen.below i)

rests-visit : (vs : List Visit) (xs : List ℕ) → Rests lower vs xs → (v : Visit) → List-as-Memᴰ v vs → lower xs v ≡ xs
rests-visit [] xs e v i = elim i [ ]
rests-visit (u ∷ vs) xs e v (List-Memᴰ-head q) = rw q (rests-head u vs xs e)
rests-visit (u ∷ vs) xs e v (List-Memᴰ-tail m) = rests-visit vs xs (rests-tail u vs xs e) v m

pub pad-idle : PadIdle
pad-idle vs xs n a low rest v m spared =
    idle_stays xs (set xs n a) v (under_set xs n a low)
    (λ i d other. at_set_other xs n a i (λ e. spared (rw e at d)))
    (rests-visit vs xs rest v m)

pub lowered_under : LoweredUnder
lowered_under [] xs zs counts (ended e) = rw e (under_refl xs)
lowered_under (s ∷ ss) xs zs counts (stage {ys = ys} {counts = ks} t r) = under_trans (lowered_under ss ys zs ks r) (settles_under t)

pub lowered-stages : LoweredStages
lowered-stages [] xs zs counts a (ended e) = ended e
lowered-stages (s ∷ ss) xs zs counts a (stage {ys = ys} {counts = ks} {count = k} t r) =
    let u : Settles s.rule s.visits xs k ys = lowers_settle a.2 t in
    stage u (lowered-stages ss ys zs ks (a.1 ys k u) r)
