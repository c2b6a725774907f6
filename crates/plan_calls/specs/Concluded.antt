-- What is written of an accepted library and netlist. Document 02, K3.
use Rattle.std.specs.Prelude.{Bool, true, false, ◌&&◌, List, [], ◌∷◌, ◌++◌, ◌≡◌, refl, ℕ, zero, suc, ◌≤◌, ◌<◌, leb, ltb, length, get_or, take, drop}
use Rattle.sizes.specs.Sizes as Size
use Rattle.sizes.specs.Places.{setting_place}
use Rattle.reading.specs.Choice.{pick}
use Rattle.reading.specs.Numbers as No
use Rattle.reading.specs.Refusal.{Read, refused, read, ◌>>◌, weigh}
use Rattle.cost.specs.Cost.{most, never}
use Rattle.writer.specs.Buffer.{text_within, length_read, left_by}
use Rattle.library_table.specs.Cells.{Cell}
use Rattle.netlist_table.specs.Netlist.{Statement}
use Rattle.calculation.specs.Nodes.{Kind, combinational, sequential, set}
use Rattle.calculation.specs.Calculation.{analysed}
use Rattle.calculation.specs.LinePlans.{Plan, cost}
use Rattle.plan_text.specs.PlanText.{cheapest_text}
use Rattle.plan_text.specs.Plan.{Cheapest}
use Rattle.demands.specs.Demands.{Reported}

-- "A line outside 1 to 1,000, or an unknown value or kind, counts as never."
unfoldable pub known : ℕ → ℕ → ℕ → Bool
known l v kind = (leb 1 l && leb l Size.lines) && (leb v 1 && leb kind 1)

-- "Line numbers run from 1 to 1,000.": the first and the last are lines, and those beside them are none.
known-ends : (known 0 1 1 ≡ false) × (known 1 1 1 ≡ true) × (known Size.lines 1 1 ≡ true) × (known (suc Size.lines) 1 1 ≡ false)
unfolding known
known-ends = (refl, refl, refl, refl)

unfoldable pub asked_number : List ℕ → ℕ → ℕ → ℕ → ℕ
asked_number numbers l v kind = pick (known l v kind) (get_or numbers (setting_place kind l v) 0) never

-- "a kind of cost (0 combinational, 1 sequential)"
unfoldable pub kind_of : ℕ → Kind
kind_of zero = combinational
kind_of (suc n) = sequential

-- The text of a line, a value and a kind, in a buffer that has room for `space` bytes: "18 ..; then 19", both at line 0.
unfoldable pub plan_read : List Cell → List Statement → ℕ → ℕ → ℕ → ℕ → Read (List ℕ)
plan_read cells ss l v kind space =
    weigh 0 ((No.no_figure, ltb most (asked_number (analysed cells ss).numbers l v kind)) ∷ [])
    >> text_within No.plan_long space (cheapest_text (kind_of kind) cells ss l v)

-- ---- what holds of it

-- Of tables that hold an accepted library and netlist with the numbers of their analysis:
pub record PlanConcluded (cells : List Cell) (ss : List Statement) (l v kind : ℕ) (before after : List ℕ) (said : Read ℕ) : Type 0 where
  pub answers : said ≡ length_read (plan_read cells ss l v kind (length before))
  pub leaves : after ≡ left_by (plan_read cells ss l v kind (length before)) before
  -- Wherever the number is a figure there is a plan in document 01's own sense for just that line, value and kind, whose rows
  -- are those by which the sweeps last lowered each number, whose exact cost is the number, than which no plan costs less, and
  -- whose text is the one written. So it is when a text is written, and when 19 says that it is longer than the buffer.
  pub plan : asked_number (analysed cells ss).numbers l v kind ≤ most → Cheapest cells ss (kind_of kind) l v
  pub written : (n : ℕ) → said ≡ read n
      → (asked_number (analysed cells ss).numbers l v kind ≤ most) × (n ≡ length (cheapest_text (kind_of kind) cells ss l v))
      × (take n after ≡ cheapest_text (kind_of kind) cells ss l v)
  -- 18: the number is over or never, or there is none;
  pub no_number : (line : ℕ) → said ≡ refused No.no_figure line → most < asked_number (analysed cells ss).numbers l v kind
  -- by demand 3, whatever plan sets the line to the value costs more than 999,999,999.
  pub no_plan : (line : ℕ) → said ≡ refused No.no_figure line → Reported (set l v) → kind ≤ 1
      → (q : Plan cells ss (kind_of kind) (set l v)) → most < cost q
  -- 19: the number is a figure, and the plan's text is longer than the buffer.
  pub too_long : (line : ℕ) → said ≡ refused No.plan_long line
      → (asked_number (analysed cells ss).numbers l v kind ≤ most) × (length before < length (cheapest_text (kind_of kind) cells ss l v))

-- From tables that hold accepted cells and statements: their numbers, and the plan.
pub record PlanMade (cells : List Cell) (ss : List Statement) (l v kind : ℕ) (numbers text numbers' text' : List ℕ) (said : Read ℕ) : Type 0 where
  pub numbers_stand : numbers' ≡ (analysed cells ss).numbers ++ drop Size.numbers numbers
  pub concluded : PlanConcluded cells ss l v kind text text' said
