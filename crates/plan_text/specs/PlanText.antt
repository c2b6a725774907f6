-- A plan written out. Document 02, K3: "One text line per node, parents before children, as `depth in tree,line,value,row`."
-- Request E1 (D196): an observing node is `depth in tree,line,see,gate,pin,row`, or `depth in tree,line,see,output` where the line
-- is an output or a pad.
use Rattle.std.specs.Prelude.{List, [], ◌∷◌, ◌++◌, ◌≡◌, ℕ, zero, suc, ◌+◌, ◌<◌, length, get_or}
use Rattle.std.proofs.Math.Option.{Option, none, some}
use Rattle.text.specs.Bytes.{bytes}
use Rattle.writer.specs.Decimal.{decimal_bytes, decimal_open}
use Rattle.writer.specs.Octal.{octal_bytes, octal_open}
use Rattle.plans.specs.Trace.{Mark}
use Rattle.library_table.specs.Cells.{Row, row_value, Group, Cell, Column, no_row}
use Rattle.netlist_table.specs.Netlist.{Gate, Statement}
use Rattle.netlist_table.specs.Gates.{no_gate}
use Rattle.calculation.specs.Nodes.{Kind, Purpose, set, observe}
use Rattle.calculation.specs.Ways.{cell_of, asked, Role, setting, observing, group_of, asks, usable, Turn}
use Rattle.calculation.specs.LinePlans.{Plan, Plan.input, Plan.row, Plan.output, Plan.through, Plans, Plans.done, Plans.also}
use Rattle.plan_marks.specs.Lowered.{setting_trace, mark_for, turns_for, turn_at, lowered_open}

-- "as `depth in tree,line,value,row`", with byte 10 behind it.
unfoldable pub node_line : ℕ → ℕ → ℕ → List ℕ → List ℕ
node_line depth l v text = decimal_bytes depth ++ (44 ∷ (decimal_bytes l ++ (44 ∷ (decimal_bytes v ++ (44 ∷ (text ++ (10 ∷ [])))))))

-- "The row is octal as its entry writes it, or `input`."
unfoldable pub row_text : Cell → Row → List ℕ
row_text c r = octal_bytes (row_value c.heading r)

unfoldable pub input_text : List ℕ
input_text = bytes "input"

-- E1: `depth in tree,line,see,gate,pin,row`, or `output` in the place of the last three.
unfoldable pub see_line : ℕ → ℕ → List ℕ → List ℕ
see_line depth l text = decimal_bytes depth ++ (44 ∷ (decimal_bytes l ++ (44 ∷ (bytes "see" ++ (44 ∷ (text ++ (10 ∷ [])))))))

unfoldable pub output_text : List ℕ
output_text = bytes "output"

-- E1: the line that the chosen gate drives, the pin from 1, the row octal as its entry writes it.
unfoldable pub pin_text : Cell → Gate → ℕ → Row → List ℕ
pin_text c g i r = decimal_bytes g.line ++ (44 ∷ (decimal_bytes i ++ (44 ∷ row_text c r)))

-- ---- the text of a plan in document 01's own sense

module _ {cells : List Cell} {ss : List Statement} {k : Kind} where
  unfoldable mutual
    -- "parents before children", "the root has depth 0".
    pub plan_text : {p : Purpose} → ℕ → Plan cells ss k p → List ℕ
    plan_text depth (input {l = l} {v = v} h e) = node_line depth l v input_text
    plan_text depth (row {l = l} {e = e} g m q r i w ps) = node_line depth l e (row_text (cell_of cells g) r) ++ plans_text (suc depth) ps
    plan_text depth (output {l = l} e) = see_line depth l output_text
    plan_text depth (through {l = l} g m i a b q r j ps) = see_line depth l (pin_text (cell_of cells g) g i r) ++ plans_text (suc depth) ps

    -- "a row to each line it names, lowest column first", so that the plan that observes the gate's output comes last.
    pub plans_text : {g : Gate} {cs : List _} → ℕ → Plans cells ss k g cs → List ℕ
    plans_text depth done = []
    plans_text depth (also p ps) = plan_text depth p ++ plans_text depth ps

-- ---- its rows

-- The rows by which a gate serves in a role: those of its group that are ways there (document 02, K7).
unfoldable pub way_rows : Kind → List Cell → Gate → Role → Group
way_rows k cells g role = usable g (cell_of cells g) role (group_of k (cell_of cells g) role)

-- "the row is the one by which the sweeps last lowered the number", and of a line observed the gate and the pin with it: the mark
-- of the purpose tells them.
pub record LoweredBy (k : Kind) (cells : List Cell) (ss : List Statement) (p : Purpose) (g : Gate) (role : Role) (r : Row) : Type 0 where
  pub mark : Mark
  pub marked : mark_for k cells ss p ≡ some mark
  pub turn : turn_at (turns_for cells ss p) mark.time ≡ record { gate = g; role = role }
  pub within : mark.place < length (way_rows k cells g role)
  pub row : get_or (way_rows k cells g role) mark.place no_row ≡ r

module _ {cells : List Cell} {ss : List Statement} {k : Kind} where
  unfoldable mutual
    -- Every row of the plan is that, and no input's or output's number was ever lowered.
    pub LastLowered : {p : Purpose} → Plan cells ss k p → Type 0
    LastLowered (input {l = l} {v = v} h e) = mark_for k cells ss (set l v) ≡ none
    LastLowered (row {l = l} {e = e} g m q r i w ps) = LoweredBy k cells ss (set l e) g (setting e) r × AllLastLowered ps
    LastLowered (output {l = l} e) = mark_for k cells ss (observe l) ≡ none
    LastLowered (through {l = l} g m i a b q r j ps) = LoweredBy k cells ss (observe l) g (observing i) r × AllLastLowered ps

    pub AllLastLowered : {g : Gate} {cs : List _} → Plans cells ss k g cs → Type 0
    AllLastLowered done = Unit {0}
    AllLastLowered (also p ps) = LastLowered p × AllLastLowered ps

-- ---- the same text by computation

-- One text behind the other.
unfoldable pub joined : {A : Type 0} → (A → List ℕ) → List A → List ℕ
joined text [] = []
joined text (n ∷ ns) = text n ++ joined text ns

-- The text line of a node; what stands there of one that no visit lowered, and of one that a gate serves by a row.
unfoldable pub line_for : ℕ → Purpose → List ℕ → List ℕ
line_for depth (set l v) text = node_line depth l v text
line_for depth (observe l) text = see_line depth l text

unfoldable pub free_text : Purpose → List ℕ
free_text (set l v) = input_text
free_text (observe l) = output_text

unfoldable pub way_text : Cell → Gate → Role → Row → List ℕ
way_text c g (setting e) r = row_text c r
way_text c g (observing i) r = pin_text c g i r

-- The visit at which a number was last lowered, counted from 1; 0 where it never was.
unfoldable pub visit_of : Option Mark → ℕ
visit_of none = 0
visit_of (some m) = suc m.time

module _ (k : Kind) (cells : List Cell) (ss : List Statement) where
  -- A gate in a role, by the row at a place among those that are ways there, and what the row asks for.
  unfoldable pub turn_text : ℕ → Purpose → Turn → Row → (Purpose → List ℕ) → List ℕ
  turn_text depth p t r below =
      line_for depth p (way_text (cell_of cells t.gate) t.gate t.role r)
      ++ joined (λ (c : Column). below (asked t.gate c)) (asks t.gate (cell_of cells t.gate) t.role r)

  unfoldable pub node_text : ℕ → Purpose → Option Mark → (Purpose → List ℕ) → List ℕ
  node_text depth p none below = line_for depth p (free_text p)
  node_text depth p (some m) below =
      let t = turn_at (turns_for cells ss p) m.time in
      turn_text depth p t (get_or (way_rows k cells t.gate t.role) m.place no_row) below

  -- Of at most so many levels.
  unfoldable pub tree_text : ℕ → ℕ → Purpose → List ℕ
  tree_text zero depth p = []
  tree_text (suc more) depth p = node_text depth p (mark_for k cells ss p) (tree_text more (suc depth))

  -- The visit at which the number of a purpose was last lowered, those that observe behind those that set: it falls from level
  -- to level.
  unfoldable pub stamp_of : Purpose → ℕ
  stamp_of (set l v) = visit_of (mark_for k cells ss (set l v))
  stamp_of (observe l) = suc (setting_trace k cells ss).time + visit_of (mark_for k cells ss (observe l))

  unfoldable pub text_for : Purpose → List ℕ
  text_for p = tree_text (suc (stamp_of p)) 0 p

-- "Writing a line turns to writing its row, and a row to each line it names": of a line at a value. The visit falls from level
-- to level, so that there are no more levels than that.
abbrev pub cheapest_text : Kind → List Cell → List Statement → ℕ → ℕ → List ℕ
cheapest_text k cells ss l v = text_for k cells ss (set l v)

-- The same of a line observed.
abbrev pub route_text : Kind → List Cell → List Statement → ℕ → List ℕ
route_text k cells ss l = text_for k cells ss (observe l)

-- Opens the page's definitions, where a figure computes with them.
unfoldable pub text_open : ℕ
unfolding decimal_open octal_open lowered_open node_line row_text input_text see_line output_text pin_text bytes no_row way_rows no_gate joined line_for free_text way_text visit_of turn_text node_text tree_text stamp_of text_for
text_open = 0
