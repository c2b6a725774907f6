-- What one more pad does to the CO and SO of a line, at whatever prices within the ranges. By `falls_spread` pads on trial are put
-- back (`advice_calls::lines`); the other laws no code cites yet: request E3, which counts the protected lines that a pad
-- touches, is to (D198).
use Rattle.std.specs.Prelude.{Bool, true, false, ◌||◌, ◌≡◌, ℕ, ◌≤◌, ◌<◌, min, ltb}
use mathlib.Core.List.{List, [], ◌∷◌, Memᴰ}
use Rattle.cost.specs.Cost.{capped}
use Rattle.library_table.specs.Cells.{Cell}
use Rattle.netlist_table.specs.Netlist.{Gate, Statement, gates_of, is_output, mark, gate, priced, input, output, opened, some_range, low_price, high_price}
use Rattle.netlist_table.specs.Sound.{InRange}
use Rattle.calculation.specs.Nodes.{Kind, combinational, sequential, observe}
use Rattle.calculation.specs.Prices.{Pricing, Figures, WithinRanges}
use Rattle.calculation.specs.Ways.{cell_of, pin_line}
use Rattle.calculation.specs.Acceptance.{BothSound}
use Rattle.calculation.specs.Added.{OutputsAdded}
use Rattle.calculation.specs.LinePlans.{Plan, cost_at}
use Rattle.calculation.specs.Pads.{takes_none}
use Rattle.calculation.specs.Advice.{with_pad}
use Rattle.calculation.specs.Between.{number_at}

-- ---- were the pad's line the only output

-- The statements but for the marks of outputs.
unfoldable pub unmarked : List Statement → List Statement
unmarked [] = []
unmarked (mark input l ∷ ss) = mark input l ∷ unmarked ss
unmarked (mark output l ∷ ss) = unmarked ss
unmarked (mark opened l ∷ ss) = mark opened l ∷ unmarked ss
unmarked (gate g ∷ ss) = gate g ∷ unmarked ss
unmarked (priced r ∷ ss) = priced r ∷ unmarked ss

abbrev pub alone : List Statement → ℕ → List Statement
alone ss l = with_pad (unmarked ss) l

-- The CO or SO of a line at these prices.
abbrev pub seen_at : Pricing → List Cell → List Statement → Kind → ℕ → ℕ
seen_at price cells ss k m = number_at price cells ss k (observe m)

-- ---- whether a pad on line l may lower a number of line m

-- Its SO falls, or its CO without the pad, at HIGH, is above the CO that it would have at LOW were the pad's line the only output.
-- E3's own relation is tighter: each line on the way is below its own CO at HIGH (D198).
unfoldable pub may_fall : List Cell → List Statement → ℕ → ℕ → Bool
may_fall cells ss l m =
    ltb (seen_at (low_price ss) cells (with_pad ss l) sequential m) (seen_at (low_price ss) cells ss sequential m)
    || ltb (seen_at (low_price ss) cells (alone ss l) combinational m) (seen_at (high_price ss) cells ss combinational m)

-- Its CO or SO falls, at these prices.
unfoldable pub falls_at : Pricing → List Cell → List Statement → ℕ → ℕ → Bool
falls_at price cells ss l m =
    ltb (seen_at price cells (with_pad ss l) sequential m) (seen_at price cells ss sequential m)
    || ltb (seen_at price cells (with_pad ss l) combinational m) (seen_at price cells ss combinational m)

-- ---- where a pad's effect spreads

-- From new outputs back through gates, each line behind one whose number falls: a walk from the pad that goes on behind each line
-- that fell finds all that fell.
pub data Spread (price : Pricing) (cells : List Cell) (ss ts : List Statement) (k : Kind) : ℕ → Type 0 where
  new : {m : ℕ} → is_output m ss ≡ false → is_output m ts ≡ true → Spread price cells ss ts k m
  behind : {m : ℕ} (g : Gate) → Memᴰ g (gates_of ss) → (i : ℕ) → 1 ≤ i → i ≤ (cell_of cells g).pins → pin_line g i ≡ m
      → seen_at price cells ts k g.line < seen_at price cells ss k g.line → Spread price cells ss ts k g.line → Spread price cells ss ts k m

-- ---- what is shown of it, under the names of proofs/Effects.antt

-- `pad-lesser`: a plan with the pad goes to an old output, and then it is a plan without the pad, or it goes to the pad.
abbrev pub PadLesser : Type 0
PadLesser =
    (cells : List Cell) (ss : List Statement) → BothSound cells ss → (l : ℕ) → takes_none ss l ≡ false →
    (price : Pricing) → Figures price ss → (k : Kind) (m : ℕ) → InRange m →
    seen_at price cells (with_pad ss l) k m ≡ min (seen_at price cells ss k m) (seen_at price cells (alone ss l) k m)

-- The pad changes neither number of the line at these prices; and no plan observes it with the pad for less than one without it,
-- by document 01's order of costs, in which all costs above 999,999,999 are one.
pub record Untouched (cells : List Cell) (ss : List Statement) (l m : ℕ) (price : Pricing) : Type 0 where
  pub same : (k : Kind) → seen_at price cells (with_pad ss l) k m ≡ seen_at price cells ss k m
  pub none_less : (k : Kind) (d : Plan cells (with_pad ss l) k (observe m)) → (e : Plan cells ss k (observe m)) × (capped (cost_at price e) ≤ capped (cost_at price d))

-- `never_falls`: a line that may not fall has the same CO and SO with the pad as without, at all prices within the ranges.
abbrev pub NeverFalls : Type 0
NeverFalls =
    (cells : List Cell) (ss : List Statement) → BothSound cells ss → (l : ℕ) → takes_none ss l ≡ false →
    (m : ℕ) → InRange m → may_fall cells ss l m ≡ false →
    (price : Pricing) → WithinRanges ss price → Untouched cells ss l m price

-- `falls_spread`: every line that falls is found so, at any prices and for any outputs added.
abbrev pub FallsSpread : Type 0
FallsSpread =
    (cells : List Cell) (ss ts : List Statement) → BothSound cells ss → BothSound cells ts → OutputsAdded ss ts →
    (price : Pricing) → Figures price ss → (k : Kind) (m : ℕ) → InRange m →
    seen_at price cells ts k m < seen_at price cells ss k m → Spread price cells ss ts k m

-- `falls_just`: without ranges the test is whether CO or SO falls.
abbrev pub FallsJust : Type 0
FallsJust =
    (cells : List Cell) (ss : List Statement) → BothSound cells ss → (l : ℕ) → takes_none ss l ≡ false →
    (m : ℕ) → InRange m → some_range ss ≡ false → may_fall cells ss l m ≡ falls_at (low_price ss) cells ss l m
