-- A route goes from line to line: a node that observes has the values that its row names below it, and then, last, the node that
-- observes its gate's output. So a writer may go along a route in a loop, and turn to the writer of setting plans for each value.
-- No code cites this page yet: the writer of request E1 is to (D196).
use Rattle.common_laws.proofs.Base.{Bool, true, false, List, [], ◌∷◌, ◌++◌, List-as-Memᴰ, append_assoc, append-nil, some, ◌≡◌, refl, sym, ap, ◌∙◌, ℕ, suc, ◌≤◌, ◌<◌, arith, length}
use Rattle.reading.specs.Choice.{pick}
use Rattle.cost.specs.Cost.{most}
use Rattle.plans.specs.Sweep.{at}
use Rattle.plans.specs.Trace.{Mark}
use Rattle.library_table.specs.Cells.{Row, Cell, no_row, Column, output, bit_of, pin_columns, observing_columns, bit, named}
use Rattle.library_table.specs.Cells as C
use Rattle.netlist_table.specs.Netlist.{Gate, Statement, gates_of}
use Rattle.calculation.specs.Nodes.{Kind, Purpose, set, observe, node}
use Rattle.calculation.specs.Ways.{cell_of, asked, Role, setting, observing, purpose_of, group_of, columns_of, named_by, merges, asks}
use Rattle.calculation.specs.Acceptance.{BothSound}
use Rattle.calculation.proofs.Places.{Placed}
use Rattle.calculation.proofs.Visits.{getD_listed, Has, usable_from}
use Rattle.calculation.proofs.Acceptance.{role_row, row_observes}
use Rattle.plan_marks.specs.Lowered.{mark_for, turns_for, turn_at}
use Rattle.plan_text.specs.PlanText.{see_line, pin_text, way_rows, joined, line_for, way_text, turn_text, node_text, tree_text}
use Rattle.plan_text.proofs.ChosenRow.{row_of, told}
use Rattle.plan_text.proofs.ChosenRow as R

-- ---- what an observing row names

-- The values that it names, lowest column first.
abbrev pub value_columns : Cell → Row → List Column
value_columns c r = named c.pins (pin_columns c.pins ++ (output 1 ∷ output 0 ∷ [])) r.columns

named_append : (n : ℕ) (cs ds : List Column) (x : ℕ) → named n (cs ++ ds) x ≡ named n cs x ++ named n ds x
unfolding named pick
named_append n [] ds x = refl
named_append n (c ∷ cs) ds x = side (bit x (bit_of n c)) (named_append n cs ds x)
  where
    side : (b : Bool) → named n (cs ++ ds) x ≡ named n cs x ++ named n ds x
        → pick b (c ∷ named n (cs ++ ds) x) (named n (cs ++ ds) x) ≡ pick b (c ∷ named n cs x) (named n cs x) ++ named n ds x
    side true e = ap (λ (es : List Column). c ∷ es) e
    side false e = e

one_named : (n x : ℕ) (c : Column) → bit x (bit_of n c) ≡ true → named n (c ∷ []) x ≡ c ∷ []
unfolding named pick
one_named n x c h = rw h refl

-- Lowest column first: "observe the output" comes last.
pub observe-last : (g : Gate) (c : Cell) (i : ℕ) (r : Row) → bit r.columns (bit_of c.pins C.observe) ≡ true → asks g c (observing i) r ≡ value_columns c r ++ (C.observe ∷ [])
unfolding asks merges pick named_by columns_of observing_columns
observe-last g c i r h =
    ap (λ (cs : List Column). named c.pins cs r.columns) (sym (append_assoc (pin_columns c.pins) (output 1 ∷ output 0 ∷ []) (C.observe ∷ [])))
    ∙ named_append c.pins (pin_columns c.pins ++ (output 1 ∷ output 0 ∷ [])) (C.observe ∷ []) r.columns
    ∙ ap (λ (cs : List Column). value_columns c r ++ cs) (one_named c.pins r.columns C.observe h)

joined-last : {A : Type 0} (f : A → List ℕ) (xs : List A) (x : A) → joined f (xs ++ (x ∷ [])) ≡ joined f xs ++ f x
unfolding joined
joined-last f [] x = append-nil (f x)
joined-last f (y ∷ xs) x = ap (λ (l : List ℕ). f y ++ l) (joined-last f xs x) ∙ sym (append_assoc (f y) (joined f xs) (f x))

-- ---- one step of a route

module _ (cells : List Cell) (ss : List Statement) (sound : BothSound cells ss) (k : Kind) where
  -- Of a line whose number a visit lowered: its own text line, the values one level down, and the gate's output one level down.
  pub record Step (l : ℕ) : Type 0 where
    pub gate : Gate
    pub pin : ℕ
    pub row : Row
    pub text : (more depth : ℕ) → tree_text k cells ss (suc more) depth (observe l)
        ≡ see_line depth l (pin_text (cell_of cells gate) gate pin row)
        ++ (joined (λ (c : Column). tree_text k cells ss more (suc depth) (asked gate c)) (value_columns (cell_of cells gate) row)
        ++ tree_text k cells ss more (suc depth) (observe gate.line))

  sets : Purpose → ℕ
  sets (set l v) = 1
  sets (observe l) = 0

  by_role_lem : (l : ℕ) (m : Mark) → mark_for k cells ss (observe l) ≡ some m → (g : Gate) → List-as-Memᴰ g (gates_of ss) → (role : Role) → Has (cell_of cells g) role
      → purpose_of g role ≡ observe l → turn_at (turns_for cells ss (observe l)) m.time ≡ record { gate = g; role = role }
      → m.place < length (way_rows k cells g role) → Step l
  unfolding purpose_of sets
  by_role_lem l m e g listed (setting v) h q turn within = let z : ◌≡◌ {A = ℕ} 1 0 = ap sets q in absurd (omega arith)
  by_role_lem l m e g listed (observing i) h q turn within =
      record { gate = g; pin = i; row = r; text = by_text }
    where
      r : Row
      r = row_of cells ss sound k g (observing i) m

      among : List-as-Memᴰ r (group_of k (cell_of cells g) (observing i))
      among =
          unfold way_rows in
          (usable_from g (cell_of cells g) (observing i) (group_of k (cell_of cells g) (observing i)) r (getD_listed (way_rows k cells g (observing i)) m.place no_row within)).0

      named_last : asks g (cell_of cells g) (observing i) r ≡ value_columns (cell_of cells g) r ++ (C.observe ∷ [])
      named_last = observe-last g (cell_of cells g) i r (row_observes k i (cell_of cells g).pins _ r (role_row sound g listed k (observing i) h r among))

      by_text : (more depth : ℕ) → tree_text k cells ss (suc more) depth (observe l)
          ≡ see_line depth l (pin_text (cell_of cells g) g i r)
          ++ (joined (λ (c : Column). tree_text k cells ss more (suc depth) (asked g c)) (value_columns (cell_of cells g) r)
          ++ tree_text k cells ss more (suc depth) (observe g.line))
      by_text more depth =
          unfold tree_text node_text turn_text line_for way_text asked in
          rw (e, turn)
          (ap (λ (f : List ℕ). see_line depth l (pin_text (cell_of cells g) g i r) ++ f)
          (ap (joined (λ (c : Column). tree_text k cells ss more (suc depth) (asked g c))) named_last
          ∙ joined-last (λ (c : Column). tree_text k cells ss more (suc depth) (asked g c)) (value_columns (cell_of cells g) r) C.observe))

  pub step : (l : ℕ) → Placed (observe l) → (m : Mark) → mark_for k cells ss (observe l) ≡ some m → at (R.xs cells ss sound k) (node k (observe l)) ≤ most → Step l
  step l placed m e small =
      let c = (told cells ss sound k (observe l) placed m e small).chosen in
      by_role_lem l m e c.gate c.listed c.role c.allowed c.serves c.turn c.within
