-- What inputs cost. Document 01, "Plans" and "Sweeps"; document 02, K10. The calculation, the cost of a plan and demand 3 are
-- said at any prices; the names without `At` are those at the netlist's own prices.
use Rattle.std.specs.Prelude.{Bool, true, false, ◌≡◌, ℕ, ◌≤◌}
use mathlib.Core.List.{List, Memᴰ}
use Rattle.cost.specs.Cost.{most}
use Rattle.netlist_table.specs.Netlist.{Range, Statement, ranges_of, is_input, has_range, low_price, high_price}
use Rattle.calculation.specs.Nodes.{Kind, combinational, sequential}

-- What it costs in combinational terms to set a line to either value, where the line is an input.
abbrev pub Pricing : Type 0
Pricing = ℕ → ℕ

-- "An input is set to either value at combinational cost 1, sequential cost 0": its price in the place of the 1.
unfoldable pub input_cost : Pricing → Kind → ℕ → ℕ
input_cost price combinational l = price l
input_cost price sequential l = 0

-- What the theorems ask of prices: each input's is a figure.
abbrev pub Figures : Pricing → List Statement → Type 0
Figures price ss = (l : ℕ) → is_input l ss ≡ true → price l ≤ most

-- "all inputs at LOW and all at HIGH" (02, K10): the prices at the high end of the ranges, or at the low one.
abbrev pub prices_at : Bool → List Statement → Pricing
prices_at false ss = low_price ss
prices_at true ss = high_price ss

-- "the numbers table and every other request take LOW"
abbrev pub prices_of : List Statement → Pricing
prices_of ss = prices_at false ss

-- "However the true prices fall within the ranges": each input that has a range at a price from LOW to HIGH, and "Inputs
-- without one cost 1."
pub record WithinRanges (ss : List Statement) (price : Pricing) : Type 0 where
  pub ranged : (r : Range) → Memᴰ r (ranges_of ss) → (r.low ≤ price r.line) × (price r.line ≤ r.high)
  pub others : (l : ℕ) → is_input l ss ≡ true → has_range l ss ≡ false → price l ≡ 1
