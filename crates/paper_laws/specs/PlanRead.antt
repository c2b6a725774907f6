-- A plan's text read back. Document 02, K3: "One text line per node, parents before children, as `depth in tree,line,value,row`."
-- The text is taken apart by its bytes alone: lines, fields, and the tree that the depths tell.
use Rattle.std.specs.Prelude.{List, [], ◌∷◌, map, ◌≡◌, ℕ, zero, suc, ◌^◌, ◌<◌, eqb, length}
use Rattle.std.proofs.Math.Option.{Option, none, some}
use Rattle.reading.specs.Choice.{pick}
use Rattle.text.specs.Bytes.{bytes}
use Rattle.text.specs.Lines.{lines}
use Rattle.text.specs.Numeral.{numeral}
use Rattle.library_table.specs.Cells.{Cell}
use Rattle.library_table.specs.Library.{Fields}
use Rattle.netlist_table.specs.Netlist.{Gate, Statement}
use Rattle.writer.specs.Decimal.{decimal_bytes}
use Rattle.calculation.specs.Nodes.{Kind, Purpose}
use Rattle.calculation.specs.Ways.{cell_of}
use Rattle.calculation.specs.LinePlans.{Plan, Plan.input, Plan.row, Plan.output, Plan.through, Plans, Plans.done, Plans.also}
use Rattle.plan_text.specs.PlanText.{input_text, output_text, row_text, plan_text}

-- ---- trees

-- Nodes beside each other, each with what its line says behind the depth and with the nodes below it.
pub data Forest : Type 0 where
  bare : Forest
  grown : (says : Fields) → (below beside : Forest) → Forest

-- The tree of a plan, in front of others: at each node its line and value and the row or `input`, or, of a line that is observed,
-- `see` and `output` or the gate, the pin and the row; below it the plans of the row's columns, in their order.
module _ {cells : List Cell} {ss : List Statement} {k : Kind} where
  unfoldable mutual
    pub tree_of : {p : Purpose} → Plan cells ss k p → Forest → Forest
    tree_of (input {l = l} {v = v} h e) beside = grown (decimal_bytes l ∷ decimal_bytes v ∷ input_text ∷ []) bare beside
    tree_of (row {l = l} {e = e} g m q r i w ps) beside =
        grown (decimal_bytes l ∷ decimal_bytes e ∷ row_text (cell_of cells g) r ∷ []) (trees_of ps) beside
    tree_of (output {l = l} e) beside = grown (decimal_bytes l ∷ bytes "see" ∷ output_text ∷ []) bare beside
    tree_of (through {l = l} g m i a b q r j ps) beside =
        grown (decimal_bytes l ∷ bytes "see" ∷ decimal_bytes g.line ∷ decimal_bytes i ∷ row_text (cell_of cells g) r ∷ []) (trees_of ps) beside

    pub trees_of : {g : Gate} {cs : List _} → Plans cells ss k g cs → Forest
    trees_of done = bare
    trees_of (also p ps) = tree_of p (trees_of ps)

  unfoldable mutual
    -- Its nodes have depths of at most twenty digits, from `depth` on.
    pub DepthsWritten : {p : Purpose} → ℕ → Plan cells ss k p → Type 0
    DepthsWritten depth (input h e) = depth < 10 ^ 20
    DepthsWritten depth (row g m q r i w ps) = (depth < 10 ^ 20) × AllWritten (suc depth) ps
    DepthsWritten depth (output e) = depth < 10 ^ 20
    DepthsWritten depth (through g m i a b q r j ps) = (depth < 10 ^ 20) × AllWritten (suc depth) ps

    pub AllWritten : {g : Gate} {cs : List _} → ℕ → Plans cells ss k g cs → Type 0
    AllWritten depth done = Unit {0}
    AllWritten depth (also p ps) = DepthsWritten depth p × AllWritten depth ps

-- ---- reading

-- A line by its depth and its other fields; one that has none counts as an empty one at depth 0.
unfoldable pub at_depth : Option ℕ → Fields → ℕ × Fields
at_depth none fs = (0, [])
at_depth (some depth) fs = (depth, fs)

unfoldable pub headed : Option Fields → ℕ × Fields
headed none = (0, [])
headed (some []) = (0, [])
headed (some (f ∷ fs)) = at_depth (numeral 10 20 f) fs

-- The nodes at a depth, each with those one deeper behind it, and the lines that are left; of at most so many lines.
unfoldable pub grow : ℕ → (depth : ℕ) → List (ℕ × Fields) → Forest × List (ℕ × Fields)
grow zero depth xs = (bare, xs)
grow (suc more) depth [] = (bare, [])
grow (suc more) depth (x ∷ xs) =
    let below = grow more (suc depth) xs in
    let beside = grow more depth below.1 in
    pick (eqb x.0 depth) (grown x.1 below.0 beside.0, beside.1) (bare, x ∷ xs)

-- "the root has depth 0"
unfoldable pub read_back : List ℕ → Forest
read_back text = (grow (length (map headed (lines text))) 0 (map headed (lines text))).0

-- `plan-read`: the text of a plan reads as its tree, and so as no other's: a child's depth is its parent's and one, by the bytes.
abbrev pub PlanReadBack : Type 0
PlanReadBack =
    (cells : List Cell) (ss : List Statement) (k : Kind) (p : Purpose) (plan : Plan cells ss k p) →
    DepthsWritten 0 plan →
    read_back (plan_text 0 plan) ≡ tree_of plan bare
