-- Whether a sweep changes a number: what the loop of a run asks after each sweep, "Sweeps stop after the first that changes
-- nothing". Document 01, "Sweeps".
use Rattle.std.specs.Prelude.{Bool, false, not, ◌||◌, List, [], ◌∷◌, ◌≡◌, ℕ, ◌<◌, eqb}
use Rattle.plans.specs.System.{Visit}
use Rattle.plans.specs.Sweep.{at, Rule, sweeps, Rests}

-- The visit stores a number other than the one that stood there.
unfoldable pub alters : Rule → Visit → List ℕ → Bool
alters rule v xs = not (eqb (at (rule xs v) v.node) (at xs v.node))

-- Some visit of the sweep does.
unfoldable pub changes : Rule → List Visit → List ℕ → Bool
changes rule [] xs = false
changes rule (v ∷ vs) xs = alters rule v xs || changes rule vs (rule xs v)

-- From the numbers `xs`, `count` sweeps left `ys`, and each of them changed something: where a run stands before its next
-- sweep.
pub record Going (rule : Rule) (vs : List Visit) (xs : List ℕ) (count : ℕ) (ys : List ℕ) : Type 0 where
  pub reached : sweeps rule vs count xs ≡ ys
  pub changed : (i : ℕ) → i < count → Rests rule vs (sweeps rule vs i xs) → ⊥
