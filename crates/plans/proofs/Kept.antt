-- What both rules keep: a visit stores one number, at most never, at its own node.
use Rattle.common_laws.proofs.Base.{List, [], ◌∷◌, ◌++◌, List-Memᴰ-head, List-Memᴰ-tail, ◌≡◌, refl, sym, ◌∙◌, ℕ, zero, suc, ◌≤◌, ◌<◌, ℕ_discrete, dec_lt, arith, length, set}
use Rattle.common_laws.proofs.Base.{length-set, set_out}
use Rattle.cost.specs.Cost.{never, lesser}
use Rattle.plans.specs.System.{Visit}
use Rattle.plans.specs.Sweep.{at, least, Rule, renew, lower, sweep, sweeps, Settles, Inside, Bounded, Visited}
use Rattle.plans.proofs.Numbers.{at_set_same, at_set_other}
use Rattle.plans.proofs.Lowered.{lesser-bound, least-bound}

abbrev pub Stores : Rule → Type 0
Stores rule = (xs : List ℕ) (v : Visit) → (a : ℕ) × (a ≤ never) × (rule xs v ≡ set xs v.node a)

pub lower-stores : Stores lower
unfolding lower
lower-stores xs v =
    (lesser (at xs v.node) (least xs v.ways), lesser-bound (at xs v.node) (least xs v.ways), refl)

pub renew-stores : Stores renew
unfolding renew
renew-stores xs v = (least xs v.ways, least-bound xs v.ways, refl)

pub sweep-append : (rule : Rule) (us vs : List Visit) (xs : List ℕ) → sweep rule (us ++ vs) xs ≡ sweep rule vs (sweep rule us xs)
unfolding sweep
sweep-append rule [] vs xs = refl
sweep-append rule (u ∷ us) vs xs = sweep-append rule us vs (rule xs u)

module _ (rule : Rule) (stores : Stores rule) where
  pub rule-length : (xs : List ℕ) (v : Visit) → length (rule xs v) ≡ length xs
  rule-length xs v =
      let t : (a : ℕ) × (a ≤ never) × (rule xs v ≡ set xs v.node a) = stores xs v in
      rw t.2 (length-set xs v.node t.0)

  pub rule-other : (xs : List ℕ) (v : Visit) (n : ℕ) → (v.node ≡ n → ⊥) → at (rule xs v) n ≡ at xs n
  rule-other xs v n h =
      let t : (a : ℕ) × (a ≤ never) × (rule xs v ≡ set xs v.node a) = stores xs v in
      rw t.2 (at_set_other xs v.node t.0 n (λ e. h (sym e)))

  pub rule-bounded : (xs : List ℕ) (v : Visit) → Bounded xs → Bounded (rule xs v)
  rule-bounded xs v b n = place (stores xs v) (ℕ_discrete n v.node) (dec_lt v.node (length xs))
    where
      place : (a : ℕ) × (a ≤ never) × (rule xs v ≡ set xs v.node a) → Dec (n ≡ v.node) → Dec (v.node < length xs) → at (rule xs v) n ≤ never
      place t (yes e) (yes h) = rw (t.2, e, at_set_same xs v.node t.0 h) t.1
      place t (yes e) (no h) = rw (t.2, set_out xs v.node t.0 (omega arith)) (b n)
      place t (no e) d = rw (t.2, at_set_other xs v.node t.0 n e) (b n)

  pub sweep-length : (vs : List Visit) (xs : List ℕ) → length (sweep rule vs xs) ≡ length xs
  unfolding sweep
  sweep-length [] xs = refl
  sweep-length (v ∷ vs) xs = sweep-length vs (rule xs v) ∙ rule-length xs v

  -- A node that no visit of the sweep is to keeps its number.
  pub sweep-other : (vs : List Visit) (xs : List ℕ) (n : ℕ) → (Visited vs n → ⊥) → at (sweep rule vs xs) n ≡ at xs n
  unfolding sweep
  sweep-other [] xs n h = refl
  sweep-other (v ∷ vs) xs n h =
      sweep-other vs (rule xs v) n (λ s. h (record { visit = s.visit; listed = List-Memᴰ-tail s.listed; same = s.same }))
      ∙ rule-other xs v n (λ e. h (record { visit = v; listed = List-Memᴰ-head refl; same = e }))

  pub sweeps-length : (vs : List Visit) (k : ℕ) (xs : List ℕ) → length (sweeps rule vs k xs) ≡ length xs
  unfolding sweeps
  sweeps-length vs zero xs = refl
  sweeps-length vs (suc k) xs = sweeps-length vs k (sweep rule vs xs) ∙ sweep-length vs xs

  pub sweeps-other : (vs : List Visit) (k : ℕ) (xs : List ℕ) (n : ℕ) → (Visited vs n → ⊥) → at (sweeps rule vs k xs) n ≡ at xs n
  unfolding sweeps
  sweeps-other vs zero xs n h = refl
  sweeps-other vs (suc k) xs n h = sweeps-other vs k (sweep rule vs xs) n h ∙ sweep-other vs xs n h

  pub sweeps-inside : (vs us : List Visit) (k : ℕ) (xs : List ℕ) → Inside vs xs → Inside vs (sweeps rule us k xs)
  sweeps-inside vs us k xs h v m = rw (sweeps-length us k xs) (h v m)

  -- The same of what sweeps settle on.
  pub settles-length : {vs : List Visit} {xs ys : List ℕ} {k : ℕ} → Settles rule vs xs k ys → length ys ≡ length xs
  settles-length {vs} {xs} s = rw s.reached at (sweeps-length vs s.changes xs)

  pub settles-other : {vs : List Visit} {xs ys : List ℕ} {k : ℕ} → Settles rule vs xs k ys → (n : ℕ) → (Visited vs n → ⊥) → at ys n ≡ at xs n
  settles-other {vs} {xs} s n h = rw s.reached at (sweeps-other vs s.changes xs n h)
