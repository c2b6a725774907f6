-- The calculation at whatever prices within the ranges. Document 02, K10: "However the true prices fall within the ranges,
-- each CC and CO number lies between the two printed, and never is printed in both or neither. SC and SO ignore ranges. Demand
-- 3 holds each report's costs against plans at that report's own prices".
use Rattle.std.specs.Prelude.{List, ◌↔◌, ◌≡◌, ℕ, ◌+◌, ◌≤◌, length, get_or}
use Rattle.cost.specs.Cost.{never}
use Rattle.plans.specs.Exact.{Stands}
use Rattle.library_table.specs.Cells.{Cell, Column}
use Rattle.netlist_table.specs.Netlist.{Gate, Statement, gates_of, low_price, high_price}
use Rattle.calculation.specs.Nodes.{Kind, combinational, sequential, Purpose, node}
use Rattle.calculation.specs.Prices.{Pricing, WithinRanges}
use Rattle.calculation.specs.Calculation.{Analysed, analysed_at}
use Rattle.calculation.specs.Settled.{SettledAt, FewSweeps}
use Rattle.calculation.specs.LinePlans.{Plan, Plan.input, Plan.row, Plan.output, Plan.through, Plans, Plans.done, Plans.also, ExactAt}

-- The number of the calculation at these prices.
abbrev pub number_at : Pricing → List Cell → List Statement → Kind → Purpose → ℕ
number_at price cells ss k p = get_or (analysed_at price cells ss).numbers (node k p) 0

-- Demand 2 at these prices: the numbers and counts follow the rule, no others do, and the sweeps are few. "SC and SO ignore
-- ranges.": their sweeps are as many as at LOW.
pub record AnalysisAt (cells : List Cell) (ss : List Statement) (price : Pricing) : Type 0 where
  pub settled : SettledAt price cells ss (analysed_at price cells ss)
  pub settled_once : (a : Analysed) → SettledAt price cells ss a → a ≡ analysed_at price cells ss
  pub few_sweeps : FewSweeps (length (gates_of ss)) (analysed_at price cells ss).counts
  pub same_sc : (analysed_at price cells ss).counts.sc ≡ (analysed_at (low_price ss) cells ss).counts.sc
  pub same_so : (analysed_at price cells ss).counts.so ≡ (analysed_at (low_price ss) cells ss).counts.so

-- Demand 3 at these prices, of one purpose, and where its numbers lie.
pub record Between (cells : List Cell) (ss : List Statement) (price : Pricing) (p : Purpose) : Type 0 where
  pub exact : (k : Kind) → ExactAt price cells ss k p (number_at price cells ss k p)
  -- "each CC and CO number lies between the two printed"
  pub above : number_at (low_price ss) cells ss combinational p ≤ number_at price cells ss combinational p
  pub below : number_at price cells ss combinational p ≤ number_at (high_price ss) cells ss combinational p
  -- "never is printed in both or neither"
  pub both_never : (k : Kind) → (number_at price cells ss k p ≡ never) ↔ (number_at (low_price ss) cells ss k p ≡ never)
  -- "SC and SO ignore ranges."
  pub same : number_at price cells ss sequential p ≡ number_at (low_price ss) cells ss sequential p

-- ---- the two values of an input at prices of their own

-- "a combinational price somewhere from LOW to HIGH for both values": above, one price for both. Here each value has its own,
-- `price l v`. What a plan then costs:
unfoldable mutual
  pub cost_each : (ℕ → ℕ → ℕ) → {cells : List Cell} {ss : List Statement} {p : Purpose} → Plan cells ss combinational p → ℕ
  cost_each price (input {l = l} {v = v} h e) = price l v
  cost_each price (row g m e r q u ps) = r.depth + costs_each price ps
  cost_each price (output e) = 0
  cost_each price (through g m i b h e r q ps) = r.depth + costs_each price ps

  pub costs_each : (ℕ → ℕ → ℕ) → {cells : List Cell} {ss : List Statement} {g : Gate} {cs : List Column} → Plans cells ss combinational g cs → ℕ
  costs_each price done = 0
  costs_each price (also p ps) = cost_each price p + costs_each price ps

-- Each value's prices are within the ranges.
abbrev pub EachWithin : List Statement → (ℕ → ℕ → ℕ) → Type 0
EachWithin ss price = (v : ℕ) → WithinRanges ss (λ l. price l v)

-- Demand 3 of a number, in combinational terms, against plans at such prices.
abbrev pub ExactEach : (ℕ → ℕ → ℕ) → List Cell → List Statement → Purpose → ℕ → Type 0
ExactEach price cells ss p x = Stands (Plan cells ss combinational p) (λ d. cost_each price d) x

-- Such a number "lies between the two printed, and never is printed in both or neither".
pub record BetweenEach (cells : List Cell) (ss : List Statement) (p : Purpose) (x : ℕ) : Type 0 where
  pub above : number_at (low_price ss) cells ss combinational p ≤ x
  pub below : x ≤ number_at (high_price ss) cells ss combinational p
  pub both_never : (x ≡ never) ↔ (number_at (low_price ss) cells ss combinational p ≡ never)
