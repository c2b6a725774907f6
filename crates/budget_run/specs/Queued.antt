-- A queue that has the bids of a netlist's values, what a step leaves of it, and what a run does.
use Rattle.std.specs.Prelude.{List, ◌≡◌, ℕ, suc, ◌≤◌, ◌<◌, Option, Some, None, length, get_or, replicate}
use Rattle.sizes.specs.Sizes as Size
use Rattle.sizes.specs.Places.{leaf_place}
use Rattle.cost.specs.Cost.{never}
use Rattle.plans.specs.Budget.{bid, Budgeted, step}
use Rattle.library_table.specs.Cells.{Cell}
use Rattle.netlist_table.specs.Netlist.{Statement}
use Rattle.calculation.specs.Systems.{system}
use Rattle.calculation.specs.Budget.{values, best_within}
use Rattle.calculation.specs.Stored.{Holds}
use Rattle.budget_queue.specs.Queue.{cost_at, NoCost}
use Rattle.sweep_groups.specs.Fits.{TablesFit}

-- What the value of a leaf is on offer for.
abbrev pub leaf_bid : List Cell → List Statement → List ℕ → ℕ → ℕ
leaf_bid cells ss xs i = bid (system cells ss) xs (leaf_place i)

-- The queue has the bids at these numbers.
pub record Matches (cells : List Cell) (ss : List Statement) (xs q : List ℕ) : Type 0 where
  pub bids : (i : ℕ) → i < Size.leaves → cost_at q i ≡ leaf_bid cells ss xs i
  pub size : length xs ≡ Size.numbers

-- The tables hold accepted cells and statements, and the queue has the bids.
pub record StepFits (library netlist numbers q : List ℕ) : Type 0 where
  pub tables_fit : TablesFit library netlist
  pub cells : List Cell
  pub statements : List Statement
  pub holds : Holds library netlist cells statements
  pub matches : Matches cells statements numbers q

-- One step from where a run stands, `b`, made `b'`: the cost that was fixed, or none where nothing was on offer.
abbrev pub Made : Budgeted → Budgeted → Option ℕ → Type 0
Made b b' (Some cost) = (b'.steps ≡ suc b.steps) × (b'.last ≡ cost)
Made b b' None = b' ≡ b

-- The numbers `ys` and the rest are those after a step.
pub record Stepped (cells : List Cell) (ss : List Statement) (xs : List ℕ) (cost : Option ℕ) (ys q : List ℕ) : Type 0 where
  pub matches : Matches cells ss ys q
  pub numbers : (b : Budgeted) → b.numbers ≡ xs → (step (system cells ss) values b).numbers ≡ ys
  pub made : (b : Budgeted) → b.numbers ≡ xs → Made b (step (system cells ss) values b) cost

-- ---- the start and the run

-- Prices, of which none is above never, and a queue without costs.
pub record PricesFit (prices q : List ℕ) : Type 0 where
  pub size : length prices ≡ Size.numbers
  pub bounded : (n : ℕ) → get_or prices n 0 ≤ never
  pub empty : NoCost q

-- The queue has the prices.
pub record Priced (prices q : List ℕ) : Type 0 where
  pub lines : (i : ℕ) → i < Size.leaves → cost_at q i ≡ get_or prices (leaf_place i) 0

-- Before any step.
pub record Unbegun (library netlist numbers q : List ℕ) : Type 0 where
  pub cells : List Cell
  pub statements : List Statement
  pub holds : Holds library netlist cells statements
  pub none : numbers ≡ replicate Size.numbers never
  pub empty : NoCost q

-- What a run within a budget leaves: its numbers, and the bids that stand.
pub record RanWithin (cells : List Cell) (ss : List Statement) (budget steps last : ℕ) (numbers q : List ℕ) : Type 0 where
  pub size : length numbers ≡ Size.numbers
  pub numbers_are : numbers ≡ (best_within cells ss budget).numbers
  pub steps_are : steps ≡ (best_within cells ss budget).steps
  pub last_is : last ≡ (best_within cells ss budget).last
  pub bids : (i : ℕ) → i < Size.leaves → cost_at q i ≡ leaf_bid cells ss (best_within cells ss budget).numbers i

-- The last step has a cost just where a step was made.
abbrev pub LastOf : ℕ → Option ℕ → Type 0
LastOf steps None = steps ≡ 0
LastOf steps (Some cost) = 1 ≤ steps
