-- Why the numbers are exact: each is attained by a plan, no plan costs less at rest, and so Exact.
use Rattle.common_laws.proofs.Base.{List, [], ◌∷◌, List-as-Memᴰ, List-Memᴰ-head, List-Memᴰ-tail, ◌⊎◌, inl, inr, some, ◌≡◌, refl, sym, ℕ, zero, suc, ◌≤◌, ◌<◌, ℕ_discrete, dec_lt}
use Rattle.common_laws.proofs.Base.{le_refl, le_trans, le_of_eq, arith, length, set, set_out}
use Rattle.cost.specs.Cost.{most, over, never, ◌⊕◌, capped, lesser}
use Rattle.cost.proofs.Laws.{sum-never, sum_mono, capped-sum}
use Rattle.plans.specs.System.{
  Way,
  Visit,
  System,
  Offers,
  Plan,
  Plan.priced,
  Plan.chosen,
  Plans,
  Plans.done,
  Plans.also,
  cost,
  costs,
}
use Rattle.plans.specs.Sweep.{at, sums, way, least, Rule, lower, sweep, sweeps}
use Rattle.plans.specs.Exact.{Stands, Exact, AttainedBy, Attained}
use Rattle.plans.proofs.Numbers.{at_set_same, at_set_other}
use Rattle.plans.proofs.Lowered.{lesser_case, least-of, LeastOf, least-bound}

-- ---- attained

abbrev pub AllAttained : System → List ℕ → Type 0
AllAttained S xs = (n : ℕ) → Attained S n (at xs n)

module _ (S : System) where
  -- The sum of a list of nodes is never, or some plans for them cost that, capped.
  abbrev SumsAttained : List ℕ → ℕ → Type 0
  SumsAttained ns x = (x ≡ never) ⊎ ((ps : Plans S ns) × (x ≡ capped (costs ps)))

  sums_join : (n : ℕ) (ns : List ℕ) (a b : ℕ) → Attained S n a → SumsAttained ns b → SumsAttained (n ∷ ns) (a ⊕ b)
  unfolding costs
  sums_join n ns a b (inl e) q = inl (sum-never a b (inl (le_of_eq (sym e))))
  sums_join n ns a b (inr t) (inl e) = inl (sum-never a b (inr (le_of_eq (sym e))))
  sums_join n ns a b (inr t) (inr s) = inr (also t.0 s.0, rw (t.1, s.1, capped-sum (cost t.0) (costs s.0)))

  sums-attained : (xs ns : List ℕ) → AllAttained S xs → SumsAttained ns (sums xs ns)
  unfolding sums costs capped
  sums-attained xs [] h = inr (done, refl)
  sums-attained xs (n ∷ ns) h = sums_join n ns (at xs n) (sums xs ns) (h n) (sums-attained xs ns h)

  way-attained : (xs : List ℕ) (n : ℕ) (w : Way) → Offers S.visits n w → AllAttained S xs → Attained S n (way xs w)
  unfolding way cost
  way-attained xs n w o h = join (sums-attained xs w.needs h)
    where
      join : SumsAttained w.needs (sums xs w.needs) → Attained S n (way xs w)
      join (inl e) = inl (sum-never (capped w.depth) (sums xs w.needs) (inr (le_of_eq (sym e))))
      join (inr t) = inr (chosen w o t.0, rw (t.1, capped-sum w.depth (costs t.0)))

  pub least-attained : (xs : List ℕ) (v : Visit) → List-as-Memᴰ v S.visits → AllAttained S xs → Attained S v.node (least xs v.ways)
  least-attained xs v m h = join (least-of xs v.ways)
    where
      join : LeastOf xs v.ways → Attained S v.node (least xs v.ways)
      join (inl e) = inl e
      join (inr t) =
          rw t.2
          (way-attained xs v.node t.0 (record { visit = v; listed = m; same = refl; among = t.1 }) h)

  pub attained-bound : (n x : ℕ) → Attained S n x → x ≤ never
  unfolding capped
  attained-bound n x (inl e) = omega arith
  attained-bound n x (inr t) = omega arith

  set-attained : (xs : List ℕ) (n a : ℕ) → AllAttained S xs → Attained S n a → AllAttained S (set xs n a)
  set-attained xs n a h k m = place (ℕ_discrete m n) (dec_lt n (length xs))
    where
      place : Dec (m ≡ n) → Dec (n < length xs) → Attained S m (at (set xs n a) m)
      place (yes e) (yes b) = rw (e, at_set_same xs n a b) k
      place (yes e) (no b) = rw (set_out xs n a (omega arith)) (h m)
      place (no e) d = rw (at_set_other xs n a m e) (h m)

  -- A visit of the system, by this rule, keeps every number attained.
  abbrev pub Attains : Rule → Type 0
  Attains rule = (xs : List ℕ) (v : Visit) → List-as-Memᴰ v S.visits → AllAttained S xs → AllAttained S (rule xs v)

  pub lower_attains : Attains lower
  unfolding lower
  lower_attains xs v m h =
      set-attained xs v.node (lesser (at xs v.node) (least xs v.ways)) h
      (join (lesser_case (at xs v.node) (least xs v.ways) (attained-bound v.node (at xs v.node) (h v.node)) (least-bound xs v.ways)))
    where
      join : (lesser (at xs v.node) (least xs v.ways) ≡ at xs v.node) ⊎ (lesser (at xs v.node) (least xs v.ways) ≡ least xs v.ways) → Attained S v.node (lesser (at xs v.node) (least xs v.ways))
      join (inl e) = rw e (h v.node)
      join (inr e) = rw e (least-attained xs v m h)

  module _ (rule : Rule) (attains : Attains rule) where
    pub sweep-attained : (vs : List Visit) (xs : List ℕ) → ((v : Visit) → List-as-Memᴰ v vs → List-as-Memᴰ v S.visits) → AllAttained S xs → AllAttained S (sweep rule vs xs)
    unfolding sweep
    sweep-attained [] xs i h = h
    sweep-attained (v ∷ vs) xs i h =
        sweep-attained vs (rule xs v) (λ u m. i u (List-Memᴰ-tail m)) (attains xs v (i v (List-Memᴰ-head refl)) h)

    pub sweeps-attained : (vs : List Visit) (k : ℕ) (xs : List ℕ) → ((v : Visit) → List-as-Memᴰ v vs → List-as-Memᴰ v S.visits) → AllAttained S xs → AllAttained S (sweeps rule vs k xs)
    unfolding sweeps
    sweeps-attained vs zero xs i h = h
    sweeps-attained vs (suc k) xs i h = sweeps-attained vs k (sweep rule vs xs) i (sweep-attained vs xs i h)

-- ---- no plan costs less

-- No number is above its price or above the sum of a way.
pub record Closed (S : System) (xs : List ℕ) : Type 0 where
  pub prices : (n c : ℕ) → S.price n ≡ some c → at xs n ≤ capped c
  pub ways : (n : ℕ) (w : Way) → Offers S.visits n w → at xs n ≤ way xs w

module _ (S : System) (xs : List ℕ) (closed : Closed S xs) where
  mutual
    unfolding cost way sums

    pub plan-bound : {n : ℕ} (p : Plan S n) → at xs n ≤ capped (cost p)
    plan-bound {n} (priced c e) = closed.prices n c e
    plan-bound {n} (chosen w o ps) =
        le_trans (closed.ways n w o)
        (rw (capped-sum w.depth (costs ps))
        (sum_mono (capped w.depth) (sums xs w.needs) (capped w.depth) (capped (costs ps)) (le_refl (capped w.depth)) (plans-bound ps)))

    plans-bound : {ns : List ℕ} (ps : Plans S ns) → sums xs ns ≤ capped (costs ps)
    plans-bound done = omega arith
    plans-bound (also {n = n} {ns = ns} p ps) =
        rw (capped-sum (cost p) (costs ps))
        (sum_mono (at xs n) (sums xs ns) (capped (cost p)) (capped (costs ps)) (plan-bound p) (plans-bound ps))

-- ---- exact

-- A number that is attained and above no plan's cost stands, whatever the plans are.
module _ {P : Type 0} (c : P → ℕ) (x : ℕ) (attained : AttainedBy P c x) (bound : (p : P) → x ≤ capped (c p)) where
  abbrev Least : ℕ → Type 0
  Least k = ((p : P) × (c p ≡ k)) × ((p : P) → k ≤ c p)

  figure-stands : (k : ℕ) → k ≤ most → x ≡ k → Least k
  unfolding capped
  figure-stands k h e = (from attained, below)
    where
      from : AttainedBy P c x → (p : P) × (c p ≡ k)
      from (inl f) = absurd (omega arith)
      from (inr t) = (t.0, omega (arith, t.1))

      below : (p : P) → k ≤ c p
      below p = omega (arith, bound p)

  figure_only : (k : ℕ) → k ≤ most → Least k → x ≡ k
  unfolding capped
  figure_only k h l = from attained
    where
      from : AttainedBy P c x → x ≡ k
      from (inl f) = absurd (omega (arith, bound l.0.0, l.0.1))
      from (inr t) = omega (arith, bound l.0.0, l.0.1, l.1 t.0, t.1)

  over-stands : x ≡ over → P × ((p : P) → most < c p)
  unfolding capped
  over-stands e = (from attained, λ p. omega (arith, bound p))
    where
      from : AttainedBy P c x → P
      from (inl f) = absurd (omega arith)
      from (inr t) = t.0

  over_only : P × ((p : P) → most < c p) → x ≡ over
  unfolding capped
  over_only l = from attained
    where
      from : AttainedBy P c x → x ≡ over
      from (inl f) = absurd (omega (arith, bound l.0))
      from (inr t) = omega (arith, l.1 t.0, t.1)

  never-stands : x ≡ never → P → ⊥
  unfolding capped
  never-stands e p = omega (arith, bound p)

  never_only : (P → ⊥) → x ≡ never
  never_only h = from attained
    where
      from : AttainedBy P c x → x ≡ never
      from (inl f) = f
      from (inr t) = absurd (h t.0)

  pub stands : Stands P c x
  stands =
      record {
        figure = λ k h. (figure-stands k h, figure_only k h);
        is_over = (over-stands, over_only);
        is_never = (never-stands, never_only);
      }

pub exact : (S : System) (n x : ℕ) → Attained S n x → ((p : Plan S n) → x ≤ capped (cost p)) → Exact S n x
exact S n x attained bound = stands (λ p. cost p) x attained bound
