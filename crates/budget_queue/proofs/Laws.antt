-- The tree of a queue: what a store leaves of it, and what its root tells.
use Rattle.common_laws.proofs.Base.{List, ◌≡◌, refl, ◌∙◌, ap, ℕ, zero, suc, ◌+◌, ◌*◌, ◌-◌, ◌/◌, ◌%◌, ◌≤◌, ◌<◌, min, ℕ_discrete, dec_le, le_refl, le_trans, le_of_eq, arith, length}
use Rattle.common_laws.proofs.Base.{get_or, set, replicate, length-replicate, get_or-replicate, get_or-set_same, get_or-set_other}
use Rattle.sizes.specs.Sizes as Size
use Rattle.cost.specs.Cost.{never}
use Rattle.budget_queue.specs.Queue.{key, cost_at, leaf_at, Least, Queue, NoCost, Put, Front}

-- ---- a store

-- A store at a place leaves the inner places as they are, but for itself and the one above it.
least_kept : (q : List ℕ) (h a i : ℕ) → (i ≡ h → ⊥) → (i ≡ h / 2 → ⊥) → Least q i → Least (set q h a) i
unfolding Least
least_kept q h a i d e l =
    rw (
      get_or-set_other q h i a 0 d,
      get_or-set_other q h (2 * i) a 0 (λ f. e (omega arith)),
      get_or-set_other q h (2 * i + 1) a 0 (λ f. e (omega arith)),
    )
    l

-- All inner places but the one above `at` have the lower key of the two below them.
abbrev pub Above : List ℕ → ℕ → Type 0
Above q at = (i : ℕ) → 1 ≤ i → i < Size.leaves → (i ≡ at / 2 → ⊥) → Least q i

pub above_store : (q : List ℕ) (at a : ℕ) → Size.leaves ≤ at → ((i : ℕ) → 1 ≤ i → i < Size.leaves → Least q i) → Above (set q at a) at
above_store q at a h l i low high d = least_kept q at a i (λ e. omega arith) d (l i low high)

-- One step up.
pub above_step : (q : List ℕ) (at : ℕ) → 1 < at → at < Size.queue → length q ≡ Size.queue → Above q at → Above (set q (at / 2) (min (get_or q (2 * (at / 2)) 0) (get_or q (2 * (at / 2) + 1) 0))) (at / 2)
above_step q at low high size l i a b d = place (ℕ_discrete i (at / 2))
  where
    m : ℕ
    m = min (get_or q (2 * (at / 2)) 0) (get_or q (2 * (at / 2) + 1) 0)

    here : Least (set q (at / 2) m) (at / 2)
    here =
        unfold Least in
        rw (
          get_or-set_same q (at / 2) m 0 (omega arith),
          get_or-set_other q (at / 2) (2 * (at / 2)) m 0 (λ f. omega arith),
          get_or-set_other q (at / 2) (2 * (at / 2) + 1) m 0 (λ f. omega arith),
        )
        refl

    place : Dec (i ≡ at / 2) → Least (set q (at / 2) m) i
    place (yes e) = rw e here
    place (no e) = least_kept q (at / 2) m i e d (l i a b e)

-- The lower key of a place and the one beside it is that of the two below the place above.
pub beside_lower : (q : List ℕ) (at : ℕ) → 1 < at → min (get_or q at 0) (get_or q (at + 1 - at % 2 * 2) 0) ≡ min (get_or q (2 * (at / 2)) 0) (get_or q (2 * (at / 2) + 1) 0)
beside_lower q at low = place (ℕ_discrete (at % 2) 0)
  where
    place : Dec (at % 2 ≡ 0) → min (get_or q at 0) (get_or q (at + 1 - at % 2 * 2) 0) ≡ min (get_or q (2 * (at / 2)) 0) (get_or q (2 * (at / 2) + 1) 0)
    place (yes e) =
        let a : at ≡ 2 * (at / 2) = omega arith in
        let b : at + 1 - at % 2 * 2 ≡ 2 * (at / 2) + 1 = omega arith in
        let x : get_or q at 0 ≡ get_or q (2 * (at / 2)) 0 = ap (λ (k : ℕ). get_or q k 0) a in
        let y : get_or q (at + 1 - at % 2 * 2) 0 ≡ get_or q (2 * (at / 2) + 1) 0 = ap (λ (k : ℕ). get_or q k 0) b in
        omega arith
    place (no e) =
        let a : at ≡ 2 * (at / 2) + 1 = omega arith in
        let b : at + 1 - at % 2 * 2 ≡ 2 * (at / 2) = omega arith in
        let x : get_or q at 0 ≡ get_or q (2 * (at / 2) + 1) 0 = ap (λ (k : ℕ). get_or q k 0) a in
        let y : get_or q (at + 1 - at % 2 * 2) 0 ≡ get_or q (2 * (at / 2)) 0 = ap (λ (k : ℕ). get_or q k 0) b in
        omega arith

-- The leaves are those of another array.
abbrev pub SameLeaves : List ℕ → List ℕ → Type 0
SameLeaves q p = (i : ℕ) → i < Size.leaves → get_or q (Size.leaves + i) 0 ≡ get_or p (Size.leaves + i) 0

pub leaves-step : (q p : List ℕ) (at a : ℕ) → at < Size.leaves → SameLeaves q p → SameLeaves (set q at a) p
leaves-step q p at a h s i l = get_or-set_other q at (Size.leaves + i) a 0 (λ f. omega arith) ∙ s i l

-- What a put leaves.
module _ (q p : List ℕ) (leaf cost : ℕ) (queue : Queue p) (inside : leaf < Size.leaves) (most : cost ≤ never)
    (size : length q ≡ Size.queue) (above : Above q 1) (same : SameLeaves q (set p (Size.leaves + leaf) (key cost leaf))) where
  here-key : get_or q (Size.leaves + leaf) 0 ≡ key cost leaf
  here-key = same leaf inside ∙ get_or-set_same p (Size.leaves + leaf) (key cost leaf) 0 (omega (arith, inside, queue.size))

  other_key : (i : ℕ) → i < Size.leaves → (i ≡ leaf → ⊥) → get_or q (Size.leaves + i) 0 ≡ get_or p (Size.leaves + i) 0
  other_key i h d = same i h ∙ get_or-set_other p (Size.leaves + leaf) (Size.leaves + i) (key cost leaf) 0 (λ e. d (omega arith))

  here-cost : cost_at q leaf ≡ cost
  here-cost = unfold cost_at in rw here-key (omega (arith, inside))

  other-cost : (i : ℕ) → i < Size.leaves → (i ≡ leaf → ⊥) → cost_at q i ≡ cost_at p i
  other-cost i h d = unfold cost_at in rw (other_key i h d)

  bounded : (i : ℕ) → i < Size.leaves → Dec (i ≡ leaf) → cost_at q i ≤ never
  bounded i h (yes e) = rw (e, here-cost) most
  bounded i h (no e) = rw (other-cost i h e) (queue.bounded i h)

  own : (i : ℕ) → i < Size.leaves → cost_at q i < never → Dec (i ≡ leaf) → leaf_at q i ≡ i
  own i h l (yes e) = rw e (unfold leaf_at in rw here-key (omega (arith, inside)))
  own i h l (no e) = unfold leaf_at in rw (other_key i h e) (unfold leaf_at in queue.own i h (rw (other-cost i h e) at l))

  pub put_queue : Queue q
  put_queue =
      record {
        size = size;
        inner = λ i a b. above i a b (λ e. omega arith);
        bounded = λ i h. bounded i h (ℕ_discrete i leaf);
        own = λ i h l. own i h l (ℕ_discrete i leaf);
      }

  pub put_done : Put leaf cost p q
  put_done = record { here = here-cost; others = λ i h d. other-cost i h d }

-- ---- the root

module _ (q : List ℕ) (queue : Queue q) where
  -- No key is below the one above it, ..
  up : (i : ℕ) → 2 ≤ i → i < Size.queue → get_or q (i / 2) 0 ≤ get_or q i 0
  up i a b = place (ℕ_discrete (i % 2) 0) (unfold Least in queue.inner (i / 2) (omega arith) (omega arith))
    where
      place : Dec (i % 2 ≡ 0) → get_or q (i / 2) 0 ≡ min (get_or q (2 * (i / 2)) 0) (get_or q (2 * (i / 2) + 1) 0) → get_or q (i / 2) 0 ≤ get_or q i 0
      place (yes e) m =
          let f : 2 * (i / 2) ≡ i = omega arith in
          let g : get_or q (2 * (i / 2)) 0 ≡ get_or q i 0 = ap (λ (k : ℕ). get_or q k 0) f in
          omega arith
      place (no e) m =
          let f : 2 * (i / 2) + 1 ≡ i = omega arith in
          let g : get_or q (2 * (i / 2) + 1) 0 ≡ get_or q i 0 = ap (λ (k : ℕ). get_or q k 0) f in
          omega arith

  -- .. so none is below the root.
  root_least : (fuel i : ℕ) → i ≤ fuel → 1 ≤ i → i < Size.queue → get_or q 1 0 ≤ get_or q i 0
  root_least zero i h a b = absurd (omega arith)
  root_least (suc fuel) i h a b = place (dec_le 2 i) (λ g. root_least fuel (i / 2) (omega arith) (omega arith) (omega arith))
    where
      place : Dec (2 ≤ i) → (2 ≤ i → get_or q 1 0 ≤ get_or q (i / 2) 0) → get_or q 1 0 ≤ get_or q i 0
      place (yes g) r = le_trans (r g) (up i g b)
      place (no g) r = let e : i ≡ 1 = omega arith in rw e (le_refl (get_or q 1 0))

  -- A key is that of a leaf.
  abbrev FromLeaf : ℕ → Type 0
  FromLeaf i = (j : ℕ) × (j < Size.leaves) × (get_or q i 0 ≡ get_or q (Size.leaves + j) 0)

  from_leaf : (fuel i : ℕ) → Size.queue ≤ fuel + i → 1 ≤ i → i < Size.queue → FromLeaf i
  from_leaf zero i h a b = absurd (omega arith)
  from_leaf (suc fuel) i h a b = place (dec_le Size.leaves i) (λ g. from_leaf fuel (2 * i) (omega arith) (omega arith) (omega arith)) (λ g. from_leaf fuel (2 * i + 1) (omega arith) (omega arith) (omega arith))
    where
      lower : i < Size.leaves → FromLeaf (2 * i) → FromLeaf (2 * i + 1) → Dec (get_or q (2 * i) 0 ≤ get_or q (2 * i + 1) 0) → FromLeaf i
      lower g s t (yes l) =
          let e : get_or q i 0 ≡ min (get_or q (2 * i) 0) (get_or q (2 * i + 1) 0) = unfold Least in queue.inner i a g in
          (s.0, s.1, omega (arith, s.2))
      lower g s t (no l) =
          let e : get_or q i 0 ≡ min (get_or q (2 * i) 0) (get_or q (2 * i + 1) 0) = unfold Least in queue.inner i a g in
          (t.0, t.1, omega (arith, t.2))

      place : Dec (Size.leaves ≤ i) → (i < Size.leaves → FromLeaf (2 * i)) → (i < Size.leaves → FromLeaf (2 * i + 1)) → FromLeaf i
      place (yes g) s t = let e : i ≡ Size.leaves + (i - Size.leaves) = omega arith in (i - Size.leaves, omega arith, ap (λ (k : ℕ). get_or q k 0) e)
      place (no g) s t = lower (omega arith) (s (omega arith)) (t (omega arith)) (dec_le (get_or q (2 * i) 0) (get_or q (2 * i + 1) 0))

  root-leaf : FromLeaf 1
  root-leaf = from_leaf Size.queue 1 (omega arith) (omega arith) (omega arith)

  below : (i : ℕ) → i < Size.leaves → get_or q 1 0 ≤ get_or q (Size.leaves + i) 0
  below i h = root_least (Size.leaves + i) (Size.leaves + i) (le_refl (Size.leaves + i)) (omega arith) (omega arith)

  pub root-bounded : get_or q 1 0 / Size.leaves ≤ never
  root-bounded = let t = root-leaf in rw t.2 (unfold cost_at in queue.bounded t.0 t.1)

  root-cost : (i : ℕ) → i < Size.leaves → get_or q 1 0 / Size.leaves ≤ cost_at q i
  root-cost i h = unfold cost_at in omega (arith, below i h)

  pub front_none : never ≤ get_or q 1 0 / Size.leaves → NoCost q
  front_none n i h = omega (arith, root-cost i h, queue.bounded i h)

  pub front_some : get_or q 1 0 / Size.leaves < never → Front q (get_or q 1 0 % Size.leaves) (get_or q 1 0 / Size.leaves)
  front_some l =
      record {
        inside = omega arith;
        bounded = l;
        least = root-cost;
        here = rw root_own (unfold cost_at in rw (← t.2));
        first = first;
      }
    where
      t : FromLeaf 1
      t = root-leaf

      root_own : get_or q 1 0 % Size.leaves ≡ t.0
      root_own = rw t.2 (unfold leaf_at in queue.own t.0 t.1 (unfold cost_at in rw t.2 at l))

      first : (i : ℕ) → i < Size.leaves → cost_at q i ≡ get_or q 1 0 / Size.leaves → get_or q 1 0 % Size.leaves ≤ i
      first i h e =
          let o : get_or q (Size.leaves + i) 0 % Size.leaves ≡ i = unfold leaf_at in queue.own i h (rw e l) in
          let d : get_or q (Size.leaves + i) 0 / Size.leaves ≡ get_or q 1 0 / Size.leaves = unfold cost_at in e in
          omega (arith, below i h)

-- ---- no costs

abbrev none : ℕ
none = key never 0

-- Over any size, so that no list is written out.
module _ (n x : ℕ) where
  least-alike : (i : ℕ) → 2 * i + 1 < n → Least (replicate n x) i
  unfolding Least
  least-alike i h = rw (get_or-replicate n i x 0 (omega arith), get_or-replicate n (2 * i) x 0 (omega arith), get_or-replicate n (2 * i + 1) x 0 h) (omega arith)

  cost-alike : (i : ℕ) → Size.leaves + i < n → cost_at (replicate n x) i ≡ x / Size.leaves
  unfolding cost_at
  cost-alike i h = rw (get_or-replicate n (Size.leaves + i) x 0 h) refl

cost : (i : ℕ) → i < Size.leaves → cost_at (replicate Size.queue none) i ≡ never
cost i h = cost-alike Size.queue none i (omega arith)

-- The length is a variable, so that no list is computed.
alike : (P : List ℕ → Type 0) (n : ℕ) {x y : ℕ} → x ≡ y → P (replicate n y) → P (replicate n x)
alike P n e h = rw e h

-- The same of a key that is that of never.
pub empty-queue : {x : ℕ} → x ≡ none → Queue (replicate Size.queue x)
empty-queue e =
    alike Queue Size.queue e
    (record {
      size = length-replicate Size.queue none;
      inner = λ i a b. least-alike Size.queue none i (omega arith);
      bounded = λ i h. le_of_eq (cost i h);
      own = λ i h l. absurd (omega (arith, cost i h));
    })

pub empty_costs : {x : ℕ} → x ≡ none → NoCost (replicate Size.queue x)
empty_costs e = alike NoCost Size.queue e cost
