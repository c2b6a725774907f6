-- Exact numbers of one node, and of two systems.
use Rattle.common_laws.proofs.Base.{List, ◌⊎◌, inl, inr, some, ◌≡◌, refl, sym, ◌∙◌, ap, ℕ, zero, suc, ◌+◌, ◌≤◌, ◌<◌, min, ℕ_discrete, dec_le, le_refl, arith}
use Rattle.cost.specs.Cost.{most, over, never, capped}
use Rattle.plans.specs.System.{
  Way,
  System,
  Offers,
  Plan,
  Plan.priced,
  Plan.chosen,
  Plans,
  Plans.done,
  Plans.also,
  cost,
  costs,
}
use Rattle.plans.specs.Exact.{Stands, AttainedBy, Exact, Attained}
use Rattle.plans.proofs.Exactness.{stands}
use Rattle.plans.specs.Statements.{AttainedMore, ExactOnce}

-- ---- a number that stands is attained, and no plan costs less

module _ {P : Type 0} (c : P → ℕ) (x : ℕ) (e : Stands P c x) where
  -- Were it above never, no plan would cost any figure, ..
  none_upto : never < x → (k : ℕ) → k ≤ over → (p : P) → k ≤ c p
  none_upto h zero l p = omega arith
  none_upto h (suc k) l p = test (ℕ_discrete (c p) k) (none_upto h k (omega arith))
    where
      test : Dec (c p ≡ k) → ((q : P) → k ≤ c q) → suc k ≤ c p
      test (yes f) below = absurd (omega (arith, (e.figure k (omega arith)).1 ((p, f), below)))
      test (no f) below = omega (arith, below p)

  -- .. so that there would be none, and the number would be never.
  pub stands-cost : x ≤ never
  stands-cost = split (dec_le x never)
    where
      split : Dec (x ≤ never) → x ≤ never
      split (yes h) = h
      split (no h) =
          let none : P → ⊥ = λ p. omega (arith, e.is_over.1 (p, λ q. none_upto (omega arith) over (le_refl over) q)) in
          omega (arith, e.is_never.1 none)

  stands_cases : (x ≤ most) ⊎ ((x ≡ over) ⊎ (x ≡ never))
  stands_cases = split (dec_le x most) (ℕ_discrete x over)
    where
      split : Dec (x ≤ most) → Dec (x ≡ over) → (x ≤ most) ⊎ ((x ≡ over) ⊎ (x ≡ never))
      split (yes a) b = inl a
      split (no a) (yes b) = inr (inl b)
      split (no a) (no b) = inr (inr (omega (arith, stands-cost)))

  pub stands-attained : AttainedBy P c x
  unfolding capped
  stands-attained = split stands_cases
    where
      split : (x ≤ most) ⊎ ((x ≡ over) ⊎ (x ≡ never)) → AttainedBy P c x
      split (inl a) =
          let t : ((p : P) × (c p ≡ x)) × ((p : P) → x ≤ c p) = (e.figure x a).0 refl in
          inr (t.0.0, omega (arith, t.0.1))
      split (inr (inl a)) =
          let t : P × ((p : P) → most < c p) = e.is_over.0 a in
          inr (t.0, omega (arith, t.1 t.0))
      split (inr (inr a)) = inl a

  pub stands-below : (p : P) → x ≤ capped (c p)
  unfolding capped
  stands-below p = split stands_cases
    where
      split : (x ≤ most) ⊎ ((x ≡ over) ⊎ (x ≡ never)) → x ≤ capped (c p)
      split (inl a) = omega (arith, ((e.figure x a).0 refl).1 p)
      split (inr (inl a)) = omega (arith, (e.is_over.0 a).1 p)
      split (inr (inr a)) = absurd (e.is_never.0 a p)

-- .. of plans of a system.
pub exact-attained : (S : System) (n x : ℕ) → Exact S n x → Attained S n x
exact-attained S n x e = stands-attained (λ p. cost p) x e

pub exact_below : (S : System) (n x : ℕ) → Exact S n x → (p : Plan S n) → x ≤ capped (cost p)
exact_below S n x e = stands-below (λ p. cost p) x e

-- Where each of one's plans has one of the other's that costs no more, the other's number is no higher.
pub stands-least : {P Q : Type 0} (c : P → ℕ) (d : Q → ℕ) → ((p : P) → (q : Q) × (d q ≤ c p))
    → (x y : ℕ) → Stands P c x → Stands Q d y → y ≤ x
unfolding capped
stands-least {P} {Q} c d carry x y e f = split (stands-attained c x e)
  where
    split : AttainedBy P c x → y ≤ x
    split (inl a) = omega (arith, stands-cost d y f)
    split (inr t) =
        let q : (q : Q) × (d q ≤ c t.0) = carry t.0 in
        omega (arith, stands-below d y f q.0, t.1, q.1)

-- Where each has one of the other's at the same cost, what stands of one stands of the other.
pub stands_carried : {P Q : Type 0} (c : P → ℕ) (d : Q → ℕ) → ((p : P) → (q : Q) × (d q ≡ c p)) → ((q : Q) → (p : P) × (c p ≡ d q))
    → (x : ℕ) → Stands P c x → Stands Q d x
stands_carried {P} {Q} c d to from x e = stands d x (there (stands-attained c x e)) (λ q. rw (← (from q).1) (stands-below c x e (from q).0))
  where
    there : AttainedBy P c x → AttainedBy Q d x
    there (inl a) = inl a
    there (inr t) = inr ((to t.0).0, t.1 ∙ ap capped (sym (to t.0).1))

-- Where each of one's plans has one of two others' that costs no more, and each of theirs one of it, its number is the lesser of
-- the two.
pub stands-lesser : {P Q R : Type 0} (c : P → ℕ) (d : Q → ℕ) (f : R → ℕ)
    → ((p : P) → ((q : Q) × (d q ≤ c p)) ⊎ ((r : R) × (f r ≤ c p))) → ((q : Q) → (p : P) × (c p ≤ d q)) → ((r : R) → (p : P) × (c p ≤ f r))
    → (x y z : ℕ) → Stands P c x → Stands Q d y → Stands R f z → x ≡ min y z
unfolding capped
stands-lesser {P} {Q} {R} c d f part left right x y z e g h =
    let a : x ≤ y = stands-least d c left y x g e in
    let b : x ≤ z = stands-least f c right z x h e in
    let m : min y z ≤ x = split (stands-attained c x e) in
    omega arith
  where
    split : AttainedBy P c x → min y z ≤ x
    split (inl a) = omega (arith, stands-cost d y g)
    split (inr t) = side (part t.0)
      where
        side : ((q : Q) × (d q ≤ c t.0)) ⊎ ((r : R) × (f r ≤ c t.0)) → min y z ≤ x
        side (inl q) = omega (arith, stands-below d y g q.0, t.1, q.1)
        side (inr r) = omega (arith, stands-below f z h r.0, t.1, r.1)

-- Where one number stands of both, each of one's plans has one of the other's that costs no more by the order of costs, in which
-- all that is over is one.
pub stands-none-less : {P Q : Type 0} (c : P → ℕ) (d : Q → ℕ) (x : ℕ) → Stands P c x → Stands Q d x → (p : P) → (q : Q) × (capped (d q) ≤ capped (c p))
stands-none-less {P} {Q} c d x e f p = split (stands-attained d x f)
  where
    split : AttainedBy Q d x → (q : Q) × (capped (d q) ≤ capped (c p))
    split (inl a) = absurd (e.is_never.0 a p)
    split (inr t) = (t.0, rw (← t.1) (stands-below c x e p))

pub exact-once : ExactOnce
exact-once S n x y e f =
    let a : y ≤ x = stands-least (λ p. cost p) (λ p. cost p) (λ p. (p, le_refl (cost p))) x y e f in
    let b : x ≤ y = stands-least (λ p. cost p) (λ p. cost p) (λ p. (p, le_refl (cost p))) y x f e in
    omega arith

-- ---- two systems

-- A plan of `S` is one of `T` at the same cost, node by node.
module _
    (S T : System)
    (prices : (n c : ℕ) → S.price n ≡ some c → T.price n ≡ some c)
    (ways : (n : ℕ) (w : Way) → Offers S.visits n w → Offers T.visits n w)
  where
    mutual
      unfolding cost

      carry : {n : ℕ} (p : Plan S n) → (q : Plan T n) × (cost q ≡ cost p)
      carry {n} (priced c e) = (priced c (prices n c e), refl)
      carry {n} (chosen w o ps) =
          let t : (qs : Plans T w.needs) × (costs qs ≡ costs ps) = carry-all ps in
          (chosen w (ways n w o) t.0, ap (λ (c : ℕ). w.depth + c) t.1)

      carry-all : {ns : List ℕ} (ps : Plans S ns) → (qs : Plans T ns) × (costs qs ≡ costs ps)
      carry-all done = (done, refl)
      carry-all (also {n = n} {ns = ns} p ps) =
          let t : (q : Plan T n) × (cost q ≡ cost p) = carry p in
          let s : (qs : Plans T ns) × (costs qs ≡ costs ps) = carry-all ps in
          (also t.0 s.0, rw (t.1, s.1) refl)

pub attained-more : AttainedMore
attained-more S T prices ways n x (inl e) = inl e
attained-more S T prices ways n x (inr t) =
    let q : (q : Plan T n) × (cost q ≡ cost t.0) = carry S T prices ways t.0 in
    inr (q.0, t.1 ∙ ap capped (sym q.1))
