-- The plan that is written out. Document 02, K3: "The text is a plan in document 01's sense and costs exactly the reported
-- number." Request E1 (D196) asks the same of an observing plan and the CO or SO reported.
use Rattle.std.specs.Prelude.{List, ◌≡◌, ℕ, ◌≤◌, get_or}
use Rattle.library_table.specs.Cells.{Cell}
use Rattle.netlist_table.specs.Netlist.{Statement}
use Rattle.calculation.specs.Nodes.{Kind, Purpose, set, observe, node}
use Rattle.calculation.specs.Calculation.{analysed}
use Rattle.calculation.specs.LinePlans.{Plan, cost}
use Rattle.plan_text.specs.PlanText.{plan_text, LastLowered, text_for}

-- Of a kind and a purpose: a plan in document 01's own sense for just that,
pub record Told (cells : List Cell) (ss : List Statement) (k : Kind) (p : Purpose) : Type 0 where
  pub plan : Plan cells ss k p
  -- "At each gate the row is the one by which the sweeps last lowered the number, the first in library order among equals at
  -- that visit."
  pub lowered : LastLowered plan
  -- whose text is the one that is computed,
  pub text : text_for k cells ss p ≡ plan_text 0 plan
  -- whose exact cost is the number reported.
  pub costs : cost plan ≡ get_or (analysed cells ss).numbers (node k p) 0
  -- Demand 3: nobody has it "by any finite plan that the library allows, for less".
  pub least : (q : Plan cells ss k p) → cost plan ≤ cost q

-- A line set to a value (K3), and a line observed (E1).
abbrev pub Cheapest : List Cell → List Statement → Kind → ℕ → ℕ → Type 0
Cheapest cells ss k l v = Told cells ss k (set l v)

abbrev pub Seen : List Cell → List Statement → Kind → ℕ → Type 0
Seen cells ss k l = Told cells ss k (observe l)
