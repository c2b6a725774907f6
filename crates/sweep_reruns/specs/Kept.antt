-- What the runs from numbers that stand ask and leave, whatever the numbers are. Document 02, K11 and K14.
use Rattle.std.specs.Prelude.{Bool, List, map, ◌≡◌, ℕ, min, ◌%◌, ◌≤◌, ◌<◌, ltb, length, get_or, take}
use Rattle.sizes.specs.Sizes as Size
use Rattle.reading.specs.Choice.{pick}
use Rattle.cost.specs.Cost.{never}
use Rattle.plans.specs.Stages.{Stages}
use Rattle.plans.specs.Continued.{all_by_lower}
use Rattle.library_table.specs.Cells.{Cell}
use Rattle.netlist_table.specs.Netlist.{Statement, gates_of}
use Rattle.calculation.specs.declared.Counts.{Counts}
use Rattle.calculation.specs.Prices.{prices_of}
use Rattle.calculation.specs.Calculation.{stages}
use Rattle.calculation.specs.Runs.{relaid, last_runs}
use Rattle.calculation.specs.Settled.{in_order}
use Rattle.sweep_runs.specs.declared.Sweeps.{Sweeps}

-- A number as a cost: none is above never. Of numbers that stand it is the number itself.
abbrev pub as_cost : ℕ → ℕ
as_cost x = min x never

-- The costs in a table's published size.
unfoldable pub held : List ℕ → List ℕ
held standing = map as_cost (take Size.numbers standing)

-- Whether a place is one of the first `end` of its line's numbers.
unfoldable pub is_below : ℕ → ℕ → Bool
is_below end n = ltb (n % Size.costs) end

-- What stands at a place once these are kept.
unfoldable pub kept_at : ℕ → List ℕ → List ℕ → ℕ → ℕ
kept_at end standing before n = pick (is_below end n) (as_cost (get_or standing n 0)) (get_or before n 0)

-- The same of the first `count` places.
pub record Kept (end : ℕ) (standing before : List ℕ) (count : ℕ) (after : List ℕ) : Type 0 where
  pub long : length after ≡ length before
  pub done : (n : ℕ) → n < count → get_or after n 0 ≡ kept_at end standing before n
  pub rest : (n : ℕ) → count ≤ n → get_or after n 0 ≡ get_or before n 0

-- The two runs and their counts, with whatever counts CC and SC had.
pub record ObservedAnew (cells : List Cell) (ss : List Statement) (standing after : List ℕ) (said : Sweeps) : Type 0 where
  pub runs : (counts : Counts) → last_runs cells (gates_of ss) counts (relaid (prices_of ss) ss (held standing))
      ≡ record { numbers = after; counts = record { cc = counts.cc; sc = counts.sc; co = said.combinational; so = said.sequential } }

-- Runs that keep the lesser, from the numbers that stand, one after the other. Where the numbers stand under fewer rows this is
-- the continued run (`goes-on-lower` of crate `calculation`).
pub record GoneOn (cells : List Cell) (ss : List Statement) (standing after : List ℕ) (said : Counts) : Type 0 where
  pub runs : Stages (all_by_lower (stages cells (gates_of ss))) (held standing) (in_order said) after
