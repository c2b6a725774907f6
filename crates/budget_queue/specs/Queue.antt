-- A queue of costs: a tree in an array, where each inner place has the lower key of the two below it, places 2i and 2i + 1. The
-- leaves stand behind the inner places, and every place but the first comes to place 1 by halving. A key is a cost and the leaf
-- that it stands at, so that the lowest key tells the cheapest leaf, and of equal ones the first.
use Rattle.std.specs.Prelude.{List, ◌≡◌, ℕ, ◌+◌, ◌*◌, ◌/◌, ◌%◌, ◌≤◌, ◌<◌, min, length, get_or}
use Rattle.sizes.specs.Sizes as Size
use Rattle.cost.specs.Cost.{never}

-- The key of a cost at a leaf.
abbrev pub key : ℕ → ℕ → ℕ
key cost i = cost * Size.leaves + i

-- What stands at a leaf: its cost, and the leaf that its key tells.
unfoldable pub cost_at : List ℕ → ℕ → ℕ
cost_at q i = get_or q (Size.leaves + i) 0 / Size.leaves

unfoldable pub leaf_at : List ℕ → ℕ → ℕ
leaf_at q i = get_or q (Size.leaves + i) 0 % Size.leaves

-- An inner place has the lower key of the two below it.
unfoldable pub Least : List ℕ → ℕ → Type 0
Least q i = get_or q i 0 ≡ min (get_or q (2 * i) 0) (get_or q (2 * i + 1) 0)

-- A queue, which every `CostQueue` is: all inner places have the lower key, no cost is above never, and a key whose cost is below never tells its own leaf.
pub record Queue (q : List ℕ) : Type 0 where
  pub size : length q ≡ Size.queue
  pub inner : (i : ℕ) → 1 ≤ i → i < Size.leaves → Least q i
  pub bounded : (i : ℕ) → i < Size.leaves → cost_at q i ≤ never
  pub own : (i : ℕ) → i < Size.leaves → cost_at q i < never → leaf_at q i ≡ i

-- No leaf has a cost below never.
abbrev pub NoCost : List ℕ → Type 0
NoCost q = (i : ℕ) → i < Size.leaves → cost_at q i ≡ never

-- A cost was put at a leaf, and no other changed.
pub record Put (leaf cost : ℕ) (before after : List ℕ) : Type 0 where
  pub here : cost_at after leaf ≡ cost
  pub others : (i : ℕ) → i < Size.leaves → (i ≡ leaf → ⊥) → cost_at after i ≡ cost_at before i

-- The cheapest leaf and its cost, which is below never; of equal ones the first.
pub record Front (q : List ℕ) (leaf cost : ℕ) : Type 0 where
  pub inside : leaf < Size.leaves
  pub bounded : cost < never
  pub least : (i : ℕ) → i < Size.leaves → cost ≤ cost_at q i
  pub here : cost_at q leaf ≡ cost
  pub first : (i : ℕ) → i < Size.leaves → cost_at q i ≡ cost → leaf ≤ i
