-- Runs one after the other: each stage works on what those before it leave, and what an earlier stage settled stays settled.
use Rattle.common_laws.proofs.Base.{List, [], ◌∷◌, List-as-Memᴰ, List-Memᴰ-not-nil, List-Memᴰ-append-cases, Memᴰ-append-left, Memᴰ-append-right, ◌⊎◌, inl, inr, ⊎_elim, Option, none}
use Rattle.common_laws.proofs.Base.{some, ◌≡◌, refl, sym, ◌∙◌, ap, ap₂, ℕ, ◌≤◌, le_trans, le_of_eq, arith}
use Rattle.plans.specs.System.{Way, Visit, System, Offers, Plan.priced, cost}
use Rattle.plans.specs.Sweep.{at, way, lower, Rests, Settles, Inside, Visited}
use Rattle.plans.specs.Exact.{Attained, first}
use Rattle.plans.specs.Statements.{FirstStart}
use Rattle.plans.specs.Stages.{
  Stage,
  all_visits,
  Stages,
  Stages.ended,
  Stages.stage,
  Needed,
  Apart,
  Left,
  Works,
  AllWork,
  Ranked,
  RankedApart,
  StagesWithin,
  StagesOnce,
  StagesAppend,
  StagesLeft,
  StagesExact,
}
use Rattle.plans.proofs.Numbers.{Under, under_refl, under_trans}
use Rattle.plans.proofs.Lowered.{least-below, rests-least, sweeps_under, way_same}
use Rattle.plans.proofs.Kept.{lower-stores, settles-other}
use Rattle.plans.proofs.Settled.{settles-once}
use Rattle.plans.proofs.BothRules.{settles-lowers}
use Rattle.plans.proofs.Exactness.{AllAttained, Closed, lower_attains, sweeps-attained, plan-bound, exact}

pub settles_under : {vs : List Visit} {xs ys : List ℕ} {k : ℕ} → Settles lower vs xs k ys → Under ys xs
settles_under {vs} {xs} s = rw s.reached at (sweeps_under vs s.changes xs)

offer-visited : {vs : List Visit} {n : ℕ} {w : Way} → Offers vs n w → Visited vs n
offer-visited o = record { visit = o.visit; listed = o.listed; same = o.same }

module _ (s : Stage) (ss : List Stage) (n : ℕ) where
  visited_first : Visited s.visits n → Visited (all_visits (s ∷ ss)) n
  visited_first v = record { visit = v.visit; listed = Memᴰ-append-left (all_visits ss) v.listed; same = v.same }

  visited_later : Visited (all_visits ss) n → Visited (all_visits (s ∷ ss)) n
  visited_later v = record { visit = v.visit; listed = Memᴰ-append-right s.visits v.listed; same = v.same }

  visited_cases : Visited (all_visits (s ∷ ss)) n → Visited s.visits n ⊎ Visited (all_visits ss) n
  visited_cases v = side (List-Memᴰ-append-cases s.visits v.listed)
    where
      side : List-as-Memᴰ v.visit s.visits ⊎ List-as-Memᴰ v.visit (all_visits ss) → Visited s.visits n ⊎ Visited (all_visits ss) n
      side (inl m) = inl (record { visit = v.visit; listed = m; same = v.same })
      side (inr m) = inr (record { visit = v.visit; listed = m; same = v.same })

  offers_cases : (w : Way) → Offers (all_visits (s ∷ ss)) n w → Offers s.visits n w ⊎ Offers (all_visits ss) n w
  offers_cases w o = side (List-Memᴰ-append-cases s.visits o.listed)
    where
      side : List-as-Memᴰ o.visit s.visits ⊎ List-as-Memᴰ o.visit (all_visits ss) → Offers s.visits n w ⊎ Offers (all_visits ss) n w
      side (inl m) = inl (record { visit = o.visit; listed = m; same = o.same; among = o.among })
      side (inr m) = inr (record { visit = o.visit; listed = m; same = o.same; among = o.among })

-- ---- stages apart by ranks

later_ranks : (rank : ℕ → ℕ) (low : ℕ) (ss : List Stage) → Ranked rank low ss → (n : ℕ) → Visited (all_visits ss) n → low ≤ rank n
later_ranks rank low [] r n v = absurd (List-Memᴰ-not-nil v.listed)
later_ranks rank low (s ∷ ss) r n v =
    ⊎_elim (λ u. (r.2 n u).0) (λ u. le_trans r.1 (later_ranks rank r.0 ss r.4 n u)) (visited_cases s ss n v)

pub ranked-apart : RankedApart
ranked-apart rank low [] r = tt
ranked-apart rank low (s ∷ ss) r = (
  λ n v.
      let h : r.0 ≤ rank n = later_ranks rank r.0 ss r.4 n v in
      (λ u. omega (arith, (r.2 n u).1), λ u. omega (arith, r.3 n u)),
  ranked-apart rank r.0 ss r.4,
)

-- ---- each stage works on what those before it leave

pub left_here : (vs : List Visit) (xs : List ℕ) → Left vs xs xs
left_here vs xs = record { long = refl; below = λ n. le_of_eq refl; kept = λ n v. refl }

left_trans : {vs : List Visit} {xs ys zs : List ℕ} → Left vs xs ys → Left vs ys zs → Left vs xs zs
left_trans a b =
    record {
      long = b.long ∙ a.long;
      below = λ n. le_trans (b.below n) (a.below n);
      kept = λ n v. b.kept n v ∙ a.kept n v;
    }

works-left : {s : Stage} {xs ys : List ℕ} → Works s xs → Left s.visits xs ys → Works s ys
works-left w l =
    record {
      within = λ zs m. w.within zs (left_trans l m);
      lowering = λ zs m. w.lowering zs (left_trans l m);
    }

all_left : (ss : List Stage) (xs ys : List ℕ) → Left (all_visits ss) xs ys → AllWork ss xs → AllWork ss ys
all_left [] xs ys l w = tt
all_left (s ∷ ss) xs ys l w = (
  works-left w.0 (record { long = l.long; below = l.below; kept = λ n v. l.kept n (visited_first s ss n v) }),
  all_left ss xs ys (record { long = l.long; below = l.below; kept = λ n v. l.kept n (visited_later s ss n v) }) w.1,
)

-- Where a stage has settled, the later ones work on what it leaves.
module _ (s : Stage) (ss : List Stage) (xs : List ℕ) (apart : Apart (s ∷ ss)) (works : AllWork (s ∷ ss) xs) where
  settles-lower : (ys : List ℕ) (k : ℕ) → Settles s.rule s.visits xs k ys → Settles lower s.visits xs k ys
  settles-lower ys k t = settles-lowers (works.0.lowering xs (left_here s.visits xs)) t

  later_work : (ys : List ℕ) (k : ℕ) → Settles s.rule s.visits xs k ys → AllWork ss ys
  later_work ys k t =
      let l : Settles lower s.visits xs k ys = settles-lower ys k t in
      let u : Under ys xs = settles_under l in
      all_left ss xs ys
      (record { long = u.long; below = u.below; kept = λ n v. settles-other lower lower-stores l n (apart.0 n v).0 })
      works.1

pub stages-within : StagesWithin
stages-within [] xs apart works = tt
stages-within (s ∷ ss) xs apart works = (
  works.0.within xs (left_here s.visits xs),
  λ ys k t. stages-within ss ys apart.1 (later_work s ss xs apart works ys k t),
  works.0.lowering xs (left_here s.visits xs),
)

pub stages-once : StagesOnce
stages-once [] xs ys zs counts others (ended e) (ended f) = (refl, e ∙ sym f)
stages-once (s ∷ ss) xs ys zs counts others (stage {ys = us} {counts = ks} {count = k} a p) (stage {ys = vs} {counts = ls} {count = l} b q) =
    let t : (k ≡ l) × (us ≡ vs) = settles-once s.rule s.visits a b in
    let r : (ks ≡ ls) × (ys ≡ zs) = stages-once ss vs ys zs ks ls (rw t.1 at p) q in
    (ap₂ (λ (x : ℕ) (l : List ℕ). x ∷ l) t.0 r.0, r.1)

-- ---- stages that keep the lesser

data Lowered : List Stage → List ℕ → List ℕ → Type 0 where
  unchanged : {xs zs : List ℕ} → zs ≡ xs → Lowered [] xs zs
  then : {s : Stage} {ss : List Stage} {xs ys zs : List ℕ} {k : ℕ} → Settles lower s.visits xs k ys → Lowered ss ys zs → Lowered (s ∷ ss) xs zs

lowered : (ss : List Stage) (xs zs counts : List ℕ) → Apart ss → AllWork ss xs → Stages ss xs counts zs → Lowered ss xs zs
lowered [] xs zs counts apart works (ended e) = unchanged e
lowered (s ∷ ss) xs zs counts apart works (stage {ys = ys} {counts = ks} {count = k} t r) =
    then (settles-lower s ss xs apart works ys k t) (lowered ss ys zs ks apart.1 (later_work s ss xs apart works ys k t) r)

lowered_under : {ss : List Stage} {xs zs : List ℕ} → Lowered ss xs zs → Under zs xs
lowered_under {xs = xs} (unchanged e) = rw e (under_refl xs)
lowered_under (then t r) = under_trans (lowered_under r) (settles_under t)

pub stages-append : StagesAppend
stages-append [] ts xs ys zs counts others (ended e) t = rw e at t
stages-append (s ∷ ss) ts xs ys zs counts others (stage {ys = us} {counts = ks} u r) t = stage u (stages-append ss ts us ys zs ks others r t)

pub stages-left : StagesLeft
stages-left ss xs zs counts apart works t =
    let u : Under zs xs = lowered_under (lowered ss xs zs counts apart works t) in
    (u.long, u.below)

lowered-other : {ss : List Stage} {xs zs : List ℕ} → Lowered ss xs zs → (n : ℕ) → (Visited (all_visits ss) n → ⊥) → at zs n ≡ at xs n
lowered-other (unchanged e) n h = ap (λ (ys : List ℕ). at ys n) e
lowered-other (then {s = s} {ss = ss} t r) n h =
    lowered-other r n (λ v. h (visited_later s ss n v)) ∙ settles-other lower lower-stores t n (λ v. h (visited_first s ss n v))

-- ---- at the end every number is at most the sum of each of its ways

ways-kept : (vs later : List Visit) (ys zs : List ℕ) → Inside vs ys → Rests lower vs ys → ((n : ℕ) → Visited later n → (Visited vs n → ⊥) × (Needed vs n → ⊥)) → ((n : ℕ) → (Visited later n → ⊥) → at zs n ≡ at ys n) → (n : ℕ) (w : Way) → Offers vs n w → at zs n ≤ way zs w
ways-kept vs later ys zs inside rest apart kept n w o =
    rw (kept n (λ v. (apart n v).0 (offer-visited o)))
    (le_trans (rw (← o.same) (rests-least vs ys inside rest o.visit o.listed))
    (le_trans (least-below ys o.visit.ways w o.among)
    (le_of_eq (sym (way_same zs ys w (λ m i. kept m (λ v. (apart m v).1 (record { node = n; way = w; offers = o; among = i }))))))))

lowered-ways : (ss : List Stage) (xs zs : List ℕ) → Inside (all_visits ss) xs → Apart ss → Lowered ss xs zs → (n : ℕ) (w : Way) → Offers (all_visits ss) n w → at zs n ≤ way zs w
lowered-ways [] xs zs inside apart (unchanged e) n w o = absurd (List-Memᴰ-not-nil o.listed)
lowered-ways (s ∷ ss) xs zs inside apart (then {ys = ys} t r) n w o =
    side (lowered-ways ss ys zs later apart.1 r n w) (offers_cases s ss n w o)
  where
    now : Inside s.visits ys
    now v m = rw (settles_under t).long (inside v (Memᴰ-append-left (all_visits ss) m))

    later : Inside (all_visits ss) ys
    later v m = rw (settles_under t).long (inside v (Memᴰ-append-right s.visits m))

    side : (Offers (all_visits ss) n w → at zs n ≤ way zs w) → Offers s.visits n w ⊎ Offers (all_visits ss) n w → at zs n ≤ way zs w
    side f (inl p) = ways-kept s.visits (all_visits ss) ys zs now t.rests apart.0 (lowered-other r) n w p
    side f (inr p) = f p

-- ---- and every number stays attained

lowered-attained : (S : System) (ss : List Stage) (xs zs : List ℕ) → ((v : Visit) → List-as-Memᴰ v (all_visits ss) → List-as-Memᴰ v S.visits) → AllAttained S xs → Lowered ss xs zs → AllAttained S zs
lowered-attained S [] xs zs i h (unchanged e) = rw e h
lowered-attained S (s ∷ ss) xs zs i h (then {ys = ys} t r) = lowered-attained S ss ys zs (λ v m. i v (Memᴰ-append-right s.visits m)) settled r
  where
    settled : AllAttained S ys
    settled =
        rw t.reached at
        (sweeps-attained S lower (lower_attains S) s.visits t.changes xs (λ v m. i v (Memᴰ-append-left (all_visits ss) m)) h)

-- ---- so every number is exact

pub stages-exact : StagesExact
stages-exact S ss xs zs counts e inside apart works start run n =
    exact S n (at zs n) (lowered-attained S ss xs zs (λ v m. rw e m) start.attained low n) (plan-bound S zs closed)
  where
    low : Lowered ss xs zs
    low = lowered ss xs zs counts apart works run

    closed : Closed S zs
    closed =
        record {
          prices = λ m c q. le_trans ((lowered_under low).below m) (start.prices m c q);
          ways = λ m w o. lowered-ways ss xs zs inside apart low m w (rw e at o);
        }

-- ---- the first start

pub first_start : FirstStart
unfolding first
first_start S xs h =
    record {
      attained = λ n. given n (S.price n) refl;
      prices = λ n c e. le_of_eq (h n ∙ ap first e);
    }
  where
    given : (n : ℕ) (o : Option ℕ) → S.price n ≡ o → Attained S n (at xs n)
    given n none e = inl (h n ∙ ap first e)
    given n (some c) e = inr (priced c e, unfold cost in h n ∙ ap first e)
