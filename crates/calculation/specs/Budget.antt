-- Best numbers within a budget. Document 02, K12, over the cells and the statements as they were read; the steps are those of
-- specs/Budget.antt of crate `plans`, where what K12 calls settled is called fixed.
use Rattle.std.specs.Prelude.{List, [], ◌∷◌, ◌⊎◌, ◌≡◌, ℕ, zero, suc, ◌+◌, ◌≤◌, ◌<◌, get_or, drop}
use Rattle.sizes.specs.Sizes as Size
use Rattle.sizes.specs.Places.{leaf_of, flag_place}
use Rattle.reading.specs.Choice.{pick}
use Rattle.cost.specs.Cost.{never}
use Rattle.plans.specs.System.{System}
use Rattle.plans.specs.Sweep.{at}
use Rattle.plans.specs.Budget.{fixed, offer, Budgeted, budgeted}
use Rattle.library_table.specs.Cells.{Cell}
use Rattle.netlist_table.specs.Netlist.{Statement}
use Rattle.netlist_table.specs.Sound.{InRange}
use Rattle.calculation.specs.Nodes.{combinational, set, node}
use Rattle.calculation.specs.Prices.{prices_of}
use Rattle.calculation.specs.Systems.{system}
use Rattle.calculation.specs.LinePlans.{Exact}
use Rattle.calculation.specs.Between.{number_at}

-- ---- the run

-- "lowest line first, 0 before 1": the values of `count` lines from `first` on, in CC.
unfoldable pub values_from : ℕ → ℕ → List ℕ
values_from zero first = []
values_from (suc count) first =
    node combinational (set first 0) ∷ node combinational (set first 1) ∷ values_from count (suc first)

unfoldable pub values : List ℕ
values = values_from Size.lines 1

-- "a run for CC that settles values one at a time": where it stands after `budget` steps, or when nothing is on offer. An input
-- is on offer at the low end of its range: "the numbers table and every other request take LOW" (K10).
unfoldable pub best_within : List Cell → List Statement → ℕ → Budgeted
best_within cells ss budget = budgeted (system cells ss) values Size.numbers budget

-- ---- what is handed out of it

-- Whether a value is fixed, 1 or 0; and its number, or "For each other it gives the present offer, or never".
unfoldable pub flagged : List ℕ → ℕ → ℕ
flagged xs n = pick (fixed xs n) 1 0

unfoldable pub handed : System → List ℕ → ℕ → ℕ
handed S xs n = pick (fixed xs n) (at xs n) (offer S xs n)

-- Both, of each value.
unfoldable pub values_words : System → List ℕ → List ℕ → List ℕ
values_words S xs [] = []
values_words S xs (n ∷ ns) = flagged xs n ∷ handed S xs n ∷ values_words S xs ns

-- First "the last settled cost (0 before any)".
unfoldable pub best_words : List Cell → List Statement → ℕ → List ℕ
best_words cells ss budget =
    (best_within cells ss budget).last ∷ values_words (system cells ss) (best_within cells ss budget).numbers values

-- ---- what it is worth, to who has the words alone

abbrev pub last_of : List ℕ → ℕ
last_of words = get_or words 0 0

-- 1 where a line's value is fixed, 0 where it is not; its number, or its offer.
abbrev pub flag_of : List ℕ → ℕ → ℕ → ℕ
flag_of words l v = get_or words (flag_place (leaf_of l v)) 0

abbrev pub handed_of : List ℕ → ℕ → ℕ → ℕ
handed_of words l v = get_or words (flag_place (leaf_of l v) + 1) 0

-- How many of the first `count` values are fixed, by the words behind the first.
unfoldable pub flag_sum : ℕ → List ℕ → ℕ
flag_sum zero words = 0
flag_sum (suc count) words = get_or words 0 0 + flag_sum count (drop Size.flag_words words)

-- The number that an analysis reports for a line at a value, in CC: demand 2's.
abbrev pub reported : List Cell → List Statement → ℕ → ℕ → ℕ
reported cells ss l v = number_at (prices_of ss) cells ss combinational (set l v)

-- Of one value:
pub record ValueWithin (cells : List Cell) (ss : List Statement) (budget : ℕ) (words : List ℕ) (l v : ℕ) : Type 0 where
  pub flag : (flag_of words l v ≡ 1) ⊎ (flag_of words l v ≡ 0)
  -- "A settled value is exactly the reported number.", which is not never,
  pub is_reported : flag_of words l v ≡ 1 → (handed_of words l v ≡ reported cells ss l v) × (handed_of words l v < never)
  -- and with which no plan competes: demand 3.
  pub exact : Exact cells ss combinational (set l v) (reported cells ss l v)
  -- "For each other it gives the present offer, or never, and the last settled cost (0 before any), and the true number lies
  -- between."
  pub between : flag_of words l v ≡ 0 → (last_of words ≤ reported cells ss l v) × (reported cells ss l v ≤ handed_of words l v)
  -- "A larger budget never changes a settled value",
  pub larger :
      (more : ℕ) → budget ≤ more →
      flag_of words l v ≡ 1 →
      (flag_of (best_words cells ss more) l v ≡ 1) × (handed_of (best_words cells ss more) l v ≡ handed_of words l v)
  -- "and an unlimited one ends in demand 2's numbers."
  pub ends : Size.leaves ≤ budget → handed_of words l v ≡ reported cells ss l v

-- Of all:
pub record WithinBudget (cells : List Cell) (ss : List Statement) (budget steps : ℕ) (words : List ℕ) : Type 0 where
  pub each : (l v : ℕ) → InRange l → v ≤ 1 → ValueWithin cells ss budget words l v
  -- "The answer carries the number of steps, equal to the number of settled values."
  pub counted : steps ≡ flag_sum Size.leaves (drop Size.flags_at words)
  pub few : steps ≤ Size.leaves
  -- "It stops after a given number of steps or when nothing is on offer."
  pub at_most : steps ≤ budget
  pub stops :
      (steps ≡ budget) ⊎ ((l v : ℕ) → InRange l → v ≤ 1 → flag_of words l v ≡ 0 → handed_of words l v ≡ never)
  -- "an unlimited one" is any that has a step for each value: a larger one comes to the same run.
  pub unlimited : (more : ℕ) → Size.leaves ≤ budget → budget ≤ more → best_within cells ss more ≡ best_within cells ss budget
