-- Outputs that are added, as pads are, change no setting plan's text: the setting plans of a route are those that K3 writes.
-- No code cites this page yet: request E1 is to (D196).
use Rattle.common_laws.proofs.Base.{List, [], ◌∷◌, ◌++◌, map, List-as-Memᴰ, List-Memᴰ-head, List-Memᴰ-tail, append-nil, append_assoc, Option, none, some, ◌≡◌, refl, ap, ap₂}
use Rattle.common_laws.proofs.Base.{◌∙◌, ℕ, zero, suc, ◌%◌, ◌<◌, dec_lt, arith, length, get_or, List-get_or-eq-default}
use Rattle.plans.specs.Trace.{Mark}
use Rattle.library_table.specs.Cells.{Row, Cell, Column, no_row}
use Rattle.netlist_table.specs.Netlist.{Gate, Statement, mark, output, gates_of}
use Rattle.netlist_table.proofs.Pad.{pad-gates, pad-inputs, pad-outputs, pad-prices}
use Rattle.calculation.specs.Prices.{prices_of}
use Rattle.calculation.specs.Nodes.{Kind, Purpose, set}
use Rattle.calculation.specs.Ways.{cell_of, pin_line, asked, Role, asks, Turn, setting_turns}
use Rattle.calculation.specs.Acceptance.{BothSound}
use Rattle.calculation.specs.Added.{OutputsAdded}
use Rattle.calculation.specs.Pads.{padded}
use Rattle.calculation.proofs.Visits.{getD_listed, Sets, asks_named}
use Rattle.plan_marks.specs.Lowered.{mark_for, turns_for, turn_at}
use Rattle.plan_marks.proofs.Turned.{setting-turn}
use Rattle.plan_marks.proofs.Padded.{set-mark, set-turns}
use Rattle.plan_text.specs.PlanText.{way_rows, joined, line_for, way_text, visit_of, turn_text, node_text, tree_text, stamp_of, text_for, cheapest_text}
use Rattle.plan_text.proofs.ChosenRow.{pin_only}

joined_same : (f g : Column → List ℕ) (cs : List Column) → ((c : Column) → List-as-Memᴰ c cs → f c ≡ g c) → joined f cs ≡ joined g cs
unfolding joined
joined_same f g [] h = refl
joined_same f g (c ∷ cs) h = ap₂ (λ (a b : List ℕ). a ++ b) (h c (List-Memᴰ-head refl)) (joined_same f g cs (λ d m. h d (List-Memᴰ-tail m)))

-- The turns of a sweep that sets lines set lines.
turn-sets : (cells : List Cell) (gs : List Gate) (t : ℕ) → Sets (cell_of cells (turn_at (setting_turns gs) t).gate) (turn_at (setting_turns gs) t).role
unfolding turn_at
turn-sets cells gs t = place (dec_lt (t % length (setting_turns gs)) (length (setting_turns gs)))
  where
    place : Dec (t % length (setting_turns gs) < length (setting_turns gs)) → Sets (cell_of cells (turn_at (setting_turns gs) t).gate) (turn_at (setting_turns gs) t).role
    place (yes h) = (setting-turn cells gs (turn_at (setting_turns gs) t) (getD_listed (setting_turns gs) (t % length (setting_turns gs)) _ h)).1
    place (no h) = rw (List-get_or-eq-default (setting_turns gs) _ {n = t % length (setting_turns gs)} (omega arith)) (omega arith)

module _ (cells : List Cell) (ss ts : List Statement) (old : BothSound cells ss) (added : OutputsAdded ss ts) (prices : prices_of ts ≡ prices_of ss) (k : Kind) where
  -- What a row of a role that sets a line asks for are values.
  columns-same : (f g : Purpose → List ℕ) → ((l v : ℕ) → f (set l v) ≡ g (set l v)) → (h : Gate) (role : Role) → Sets (cell_of cells h) role → (r : Row)
      → joined (λ (c : Column). f (asked h c)) (asks h (cell_of cells h) role r) ≡ joined (λ (c : Column). g (asked h c)) (asks h (cell_of cells h) role r)
  unfolding asked
  columns-same f g same h role s r =
      joined_same (λ (c : Column). f (asked h c)) (λ (c : Column). g (asked h c)) (asks h (cell_of cells h) role r)
      (λ c m.
      let q = pin_only (cell_of cells h) (cell_of cells h).pins role c s (asks_named h (cell_of cells h) role r c m) in
      rw q.2 (same (pin_line h q.0) q.1))

  tree-same : (more depth l v : ℕ) → tree_text k cells ts more depth (set l v) ≡ tree_text k cells ss more depth (set l v)
  unfolding tree_text
  tree-same zero depth l v = refl
  tree-same (suc more) depth l v =
      ap (λ (o : Option Mark). node_text k cells ts depth (set l v) o (tree_text k cells ts more (suc depth))) (set-mark cells ss ts old added prices k l v)
      ∙ by (mark_for k cells ss (set l v)) (tree-same more (suc depth))
    where
      by : (o : Option Mark) → ((j w : ℕ) → tree_text k cells ts more (suc depth) (set j w) ≡ tree_text k cells ss more (suc depth) (set j w))
          → node_text k cells ts depth (set l v) o (tree_text k cells ts more (suc depth)) ≡ node_text k cells ss depth (set l v) o (tree_text k cells ss more (suc depth))
      by none below = unfold node_text in refl
      by (some m) below =
          unfold node_text turn_text in
          rw (set-turns cells ss ts old added prices k l v)
          (let t : Turn = turn_at (turns_for cells ss (set l v)) m.time in
          let r : Row = get_or (way_rows k cells t.gate t.role) m.place no_row in
          ap (λ (f : List ℕ). line_for depth (set l v) (way_text (cell_of cells t.gate) t.gate t.role r) ++ f)
          (columns-same (tree_text k cells ts more (suc depth)) (tree_text k cells ss more (suc depth)) below t.gate t.role
          (unfold turns_for in turn-sets cells (gates_of ss) m.time) r))

  pub text_same : (l v : ℕ) → cheapest_text k cells ts l v ≡ cheapest_text k cells ss l v
  unfolding text_for stamp_of
  text_same l v = rw (set-mark cells ss ts old added prices k l v) (tree-same (suc (visit_of (mark_for k cells ss (set l v)))) 0 l v)

-- ---- a list of pads

module _ (ss : List Statement) (l : ℕ) where
  abbrev more : List Statement
  more = ss ++ (mark output l ∷ [])

  one-added : (ts : List Statement) → OutputsAdded more ts → OutputsAdded ss ts
  one-added ts a =
      record {
        gates = a.gates ∙ pad-gates ss l;
        inputs = λ j. a.inputs j ∙ pad-inputs ss l j;
        outputs = λ j e. a.outputs j (rw (pad-outputs ss l j, e));
      }

list_added : (ss : List Statement) (pads : List ℕ) → OutputsAdded ss (padded ss pads) × (prices_of (padded ss pads) ≡ prices_of ss)
unfolding padded
list_added ss [] = rw (append-nil ss) (record { gates = refl; inputs = λ j. refl; outputs = λ j e. e }, refl)
list_added ss (l ∷ pads) =
    let r : OutputsAdded (more ss l) (more ss l ++ map (mark output) pads) × (prices_of (more ss l ++ map (mark output) pads) ≡ prices_of (more ss l)) = list_added (more ss l) pads in
    rw (← append_assoc ss (mark output l ∷ []) (map (mark output) pads)) (one-added ss l (more ss l ++ map (mark output) pads) r.0, r.1 ∙ pad-prices ss l)

-- E1: the setting plans below a node that observes are those that K3 writes, whatever the pads.
pub padded-text : (cells : List Cell) (ss : List Statement) → BothSound cells ss → (pads : List ℕ) (k : Kind) (l v : ℕ) → cheapest_text k cells (padded ss pads) l v ≡ cheapest_text k cells ss l v
padded-text cells ss sound pads k l v = text_same cells ss (padded ss pads) sound (list_added ss pads).0 (list_added ss pads).1 k l v
