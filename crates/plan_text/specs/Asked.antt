-- What putting a plan asks and leaves.
use Rattle.std.specs.Prelude.{List, ◌≡◌, ℕ, ◌≤◌, get_or}
use Rattle.sizes.specs.Sizes as Size
use Rattle.cost.specs.Cost.{most}
use Rattle.writer.specs.Put.{Put}
use Rattle.library_table.specs.Cells.{Cell}
use Rattle.netlist_table.specs.Netlist.{Statement}
use Rattle.calculation.specs.Nodes.{Kind, kind_number, set, node}
use Rattle.calculation.specs.Calculation.{analysed}
use Rattle.calculation.specs.Stored.{Holds}
use Rattle.plan_text.specs.PlanText.{cheapest_text}
use Rattle.plan_text.specs.Plan.{Cheapest}

-- The tables hold accepted cells and statements; line, value and kind are such as have a number.
pub record Askable (library netlist : List ℕ) (line value kind : ℕ) : Type 0 where
  pub cells : List Cell
  pub statements : List Statement
  pub holds : Holds library netlist cells statements
  pub kind_fits : kind ≤ 1
  pub least : 1 ≤ line
  pub most : line ≤ Size.lines
  pub value_fits : value ≤ 1

-- Where the number is a figure, the text of the plan is put at the buffer's start.
pub record PlanPut (cells : List Cell) (ss : List Statement) (k : Kind) (line value : ℕ) (before after : List ℕ) (end : ℕ) : Type 0 where
  pub put : Put 0 (cheapest_text k cells ss line value) before after end
  pub plan : Cheapest cells ss k line value

abbrev pub PutWhere : List ℕ → List ℕ → ℕ → ℕ → ℕ → List ℕ → List ℕ → ℕ → Type 0
PutWhere library netlist line value kind before after end =
    (k : Kind) (cells : List Cell) (ss : List Statement) → kind_number k ≡ kind → Holds library netlist cells ss
    → get_or (analysed cells ss).numbers (node k (set line value)) 0 ≤ most
    → PlanPut cells ss k line value before after end
