-- What the numbers are held against: demand 3 of the minutes, for plans of any kind, and for one node.
use Rattle.std.specs.Prelude.{List, ◌↔◌, ◌⊎◌, ◌≡◌, ℕ, ◌≤◌, ◌<◌}
use Rattle.std.proofs.Math.Option.{Option, none, some}
use Rattle.cost.specs.Cost.{most, over, never, capped}
use Rattle.plans.specs.System.{System, Plan, cost}
use Rattle.plans.specs.Sweep.{at}

-- Demand 3, of a number `x` and plans of any kind for one purpose, each with its cost.
pub record Stands (P : Type 0) (c : P → ℕ) (x : ℕ) : Type 0 where
  -- "A figure up to 999,999,999 stands exactly when some such plan costs just that and none costs less."
  pub figure : (k : ℕ) → k ≤ most → (x ≡ k) ↔ (((p : P) × (c p ≡ k)) × ((p : P) → k ≤ c p))
  -- ""Over" stands exactly when such plans exist and every one of them costs more than 999,999,999."
  pub is_over : (x ≡ over) ↔ (P × ((p : P) → most < c p))
  -- ""Never" stands exactly when there is no such plan."
  pub is_never : (x ≡ never) ↔ (P → ⊥)

-- The number `x` is that of the node `n`.
abbrev pub Exact : System → ℕ → ℕ → Type 0
Exact S n x = Stands (Plan S n) (λ p. cost p) x

-- A number that some of these plans attains: it is never, or the cost of a plan, capped.
abbrev pub AttainedBy : (P : Type 0) → (P → ℕ) → ℕ → Type 0
AttainedBy P c x = (x ≡ never) ⊎ ((p : P) × (x ≡ capped (c p)))

abbrev pub Attained : System → ℕ → ℕ → Type 0
Attained S n x = AttainedBy (Plan S n) (λ p. cost p) x

-- Each number of the table is attained, and none is above its price: so it is at the start that document 01 gives
-- (`first_start` of proofs/Laws.antt), and so it stays.
pub record Start (S : System) (xs : List ℕ) : Type 0 where
  pub attained : (n : ℕ) → Attained S n (at xs n)
  pub prices : (n c : ℕ) → S.price n ≡ some c → at xs n ≤ capped c

-- "Start: inputs CC 1 and SC 0 for both values, all other controllabilities never", "CO and SO start at 0 for outputs, never
-- elsewhere": a price, or never.
unfoldable pub first : Option ℕ → ℕ
first none = never
first (some c) = capped c
