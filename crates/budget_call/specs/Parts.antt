-- What the parts of the call ask and leave.
use Rattle.std.specs.Prelude.{List, ◌++◌, ◌≡◌, ℕ, ◌+◌, ◌≤◌, ◌<◌, ltb, length, get_or, set, drop}
use Rattle.sizes.specs.Sizes as Size
use Rattle.sizes.specs.Places.{leaf_place, flag_place}
use Rattle.reading.specs.Choice.{pick}
use Rattle.cost.specs.Cost.{never}
use Rattle.library_table.specs.Cells.{Cell}
use Rattle.netlist_table.specs.Netlist.{Statement}
use Rattle.calculation.specs.Budget.{best_within, best_words}
use Rattle.calculation.specs.Stored.{Holds}
use Rattle.budget_queue.specs.Queue.{cost_at}

-- ---- one value, from its number and the queue

-- The number of a leaf's value, as it stands in the numbers table.
abbrev pub number_at : List ℕ → ℕ → ℕ
number_at numbers i = get_or numbers (leaf_place i) 0

unfoldable pub flag_at : List ℕ → ℕ → ℕ
flag_at numbers i = pick (ltb (number_at numbers i) never) 1 0

unfoldable pub handed_at : List ℕ → List ℕ → ℕ → ℕ
handed_at numbers q i = pick (ltb (number_at numbers i) never) (number_at numbers i) (cost_at q i)

-- Both words at their places.
abbrev pub two_words : ℕ → ℕ → ℕ → List ℕ → List ℕ
two_words i flag word best = set (set best (flag_place i) flag) (flag_place i + 1) word

unfoldable pub with_value : List ℕ → List ℕ → ℕ → List ℕ → List ℕ
with_value numbers q i best = two_words i (flag_at numbers i) (handed_at numbers q i) best

-- ---- the first `count` values

pub record Handed (numbers q : List ℕ) (count : ℕ) (before after : List ℕ) : Type 0 where
  pub long : length after ≡ length before
  pub flags : (i : ℕ) → i < count → get_or after (flag_place i) 0 ≡ flag_at numbers i
  pub shown : (i : ℕ) → i < count → get_or after (flag_place i + 1) 0 ≡ handed_at numbers q i
  pub first : get_or after 0 0 ≡ get_or before 0 0
  pub rest : (n : ℕ) → flag_place count ≤ n → get_or after n 0 ≡ get_or before n 0

-- ---- the run, and all of it

-- The tables hold accepted cells and statements, and there is room.
pub record FillFits (library netlist best : List ℕ) : Type 0 where
  pub cells : List Cell
  pub statements : List Statement
  pub holds : Holds library netlist cells statements
  pub room : Size.best ≤ length best

pub record Filled (cells : List Cell) (ss : List Statement) (budget : ℕ) (before after : List ℕ) (steps : ℕ) : Type 0 where
  pub steps_are : steps ≡ (best_within cells ss budget).steps
  pub words_stand : after ≡ best_words cells ss budget ++ drop Size.best before
