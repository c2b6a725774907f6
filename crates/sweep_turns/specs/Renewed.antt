-- What the calls that visit leave in the numbers and say.
use Rattle.std.specs.Prelude.{Bool, not, ◌≡◌, ℕ, eqb, set}
use mathlib.Core.List.{List, Memᴰ}
use Rattle.plans.specs.System.{Way, Visit}
use Rattle.plans.specs.Sweep.{at, lower, sweep}
use Rattle.calculation.specs.Changes.{alters, changes}

-- In the numbers `xs` a number was stored at a place, which left `ys`, and it was said whether another stood there.
pub record Stored (place number : ℕ) (xs ys : List ℕ) (changed : Bool) : Type 0 where
  pub numbers : ys ≡ set xs place number
  pub flag : changed ≡ not (eqb number (at xs place))

-- Where lines are observed, each way of a visit needs a node that has this number: its gate's output observed.
abbrev pub Led : ℕ → ℕ → List ℕ → Visit → Type 0
Led role number xs v = (role ≡ 0 → ⊥) → (o : ℕ) × (number ≡ at xs o) × ((w : Way) → Memᴰ w v.ways → Memᴰ o w.needs)

-- From the numbers `xs`, a visit left `ys`, and said whether it changed a number. Every visit keeps the lesser: where lines are
-- set, "becomes the least row sum" comes to the same (`lowers_settle` of crate `plans`).
pub record Renewed (v : Visit) (xs ys : List ℕ) (changed : Bool) : Type 0 where
  pub numbers : ys ≡ lower xs v
  pub flag : changed ≡ alters lower v xs

-- The same of a sweep over these visits.
pub record Swept (vs : List Visit) (xs ys : List ℕ) (changed : Bool) : Type 0 where
  pub numbers : ys ≡ sweep lower vs xs
  pub flag : changed ≡ changes lower vs xs
