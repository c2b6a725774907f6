-- What the two writers put from the tables that `trace` and the readers leave is the text of the plan.
use Rattle.common_laws.proofs.Base.{Bool, true, false, ◌&&◌, List, [], ◌∷◌, ◌++◌, List-as-Memᴰ, List-Memᴰ-head, List-Memᴰ-tail, map, append-nil, Option, none, some, ◌≡◌, refl, sym}
use Rattle.common_laws.proofs.Base.{ap, ap₂, subst, ◌∙◌, ℕ, zero, suc, ◌+◌, ◌*◌, ◌-◌, ◌/◌, ◌%◌, ◌^◌, ◌≤◌, ◌<◌, le_trans, pow-le-pow_right, arith, ne_eqb, length, get_or}
use Rattle.sizes.specs.Sizes as Size
use Rattle.sizes.specs.Places.{heading_place, group_place, gate_place}
use Rattle.reading.specs.Choice.{pick}
use Rattle.table.proofs.Places.{getD_fitted}
use Rattle.plans.specs.Trace.{Mark, mark_at}
use Rattle.library_table.specs.Cells.{deepest, depth_bits, Row, row_value, Group, Cell, no_row, Column, pin, output}
use Rattle.library_table.specs.declared.Heading.{Heading}
use Rattle.library_table.specs.declared.Heading.TheVariants.{Plain as plain, Deep as deep}
use Rattle.library_table.specs.Cells as C
use Rattle.library_table.specs.Library.{column_count}
use Rattle.library_table.specs.Layout.{library_words, heading_number}
use Rattle.netlist_table.specs.Netlist.{Gate, Statement, gates_of}
use Rattle.netlist_table.specs.Layout.{gate_line_words, netlist_words}
use Rattle.netlist_table.specs.Sound.{InRange, DrivenOnce}
use Rattle.netlist_table.specs.Gates.{gate_cell, gate_lines, no_gate}
use Rattle.netlist_table.proofs.HeldGates.{cell-held, line-held, lines-held}
use Rattle.netlist_table.proofs.Laws.{driven-once, gate-sound}
use Rattle.library_table.proofs.Places.{cell-heading}
use Rattle.netlist_table.proofs.Places.{netlist-count}
use Rattle.calculation.specs.Nodes.{Kind, combinational, sequential, kind_number, Purpose, set, observe, line_of, node}
use Rattle.calculation.specs.Ways.{no_cell, cell_of, pin_line, asked, Role, setting, observing, purpose_of, group_of, group_index, word_of, both_values, one_wire, asks, is_way, usable}
use Rattle.calculation.specs.Acceptance.{BothSound}
use Rattle.calculation.specs.Calculation.{analysed}
use Rattle.calculation.proofs.Places.{Placed}
use Rattle.cost.specs.Cost.{most}
use Rattle.calculation.proofs.Visits.{getD_listed, Has, MayName, asks_named}
use Rattle.sweep_groups.specs.Tables.{read_row, has_way, gate_pins, visit_group, gate_tied}
use Rattle.sweep_wires.specs.Wires.{once_columns, shares_line}
use Rattle.sweep_groups.proofs.RowWays.{way-told, asking-few, asking_named}
use Rattle.sweep_groups.proofs.Named.{set-node, setting_named}
use Rattle.sweep_groups.proofs.Bridge as B
use Rattle.plan_marks.specs.Rows.{step_row, way_row, as_written, asking_columns}
use Rattle.plan_marks.specs.Marks.{row_place, gate_row, Noted, Unnoted, NotedAs, AllNoted}
use Rattle.plan_text.specs.PlanText.{node_line, row_text, input_text, way_rows, joined, line_for, free_text, way_text, visit_of, stamp_of, cheapest_text}
use Rattle.plan_text.specs.Writers.{visit_at, row_at, columns_at, last_at, goal_at, goals, goal_row, goal_line, line_bytes, row_bytes}
use Rattle.plan_text.proofs.ChosenRow.{trace, Chosen}
use Rattle.writer.specs.Put.{Put}
use Rattle.calculation.specs.Stored.{Holds}
use Rattle.plan_marks.specs.Lowered.{setting_trace, mark_for, turns_for}
use Rattle.plan_text.specs.Plan.{Cheapest}
use Rattle.plan_text.specs.Asked.{PlanPut}
use Rattle.plan_text.proofs.Times.{early}
use Rattle.plan_text.proofs.Planned as P
use Rattle.plan_text.proofs.Figure.{figure-told}
use Rattle.plan_text.proofs.Writers.{line-some, row_none}

-- A row that sets a value has two columns for each pin.
setting-width : (k : Kind) (v n : ℕ) → column_count (word_of k (setting v)) n ≡ 2 * n
unfolding column_count word_of
setting-width combinational v n = refl
setting-width sequential v n = refl

-- ---- the gate that drives a line

one-driver : (gs : List Gate) → DrivenOnce gs → (g h : Gate) → List-as-Memᴰ g gs → List-as-Memᴰ h gs → g.line ≡ h.line → g ≡ h
one-driver (x ∷ gs) once g h (List-Memᴰ-head a) (List-Memᴰ-head b) q = a ∙ sym b
one-driver (x ∷ gs) once g h (List-Memᴰ-head a) (List-Memᴰ-tail j) q = absurd (once.0 h j (ap (λ (y : Gate). y.line) (sym a) ∙ q))
one-driver (x ∷ gs) once g h (List-Memᴰ-tail i) (List-Memᴰ-head b) q = absurd (once.0 g i (ap (λ (y : Gate). y.line) (sym b) ∙ sym q))
one-driver (x ∷ gs) once g h (List-Memᴰ-tail i) (List-Memᴰ-tail j) q = one-driver gs once.1 g h i j q
one-driver [] once g h m _ q = elim m [ ]

-- The role in which a gate sets a line to a value.
value_of : Purpose → ℕ
value_of (set l v) = v
value_of (observe l) = 0

sets : Purpose → ℕ
sets (set l v) = 1
sets (observe l) = 0

set-role : (g : Gate) (role : Role) (l v : ℕ) → purpose_of g role ≡ set l v → (g.line ≡ l) × (setting v ≡ role)
unfolding purpose_of value_of sets
set-role g (setting e) l v q = (ap line_of q, ap setting (sym (ap value_of q)))
set-role g (observing i) l v q = let z : ◌≡◌ {A = ℕ} 0 1 = ap sets q in absurd (omega arith)

-- Which row of the table a way is: the one that is counted so among the rows that are ways.
module _ (g : Gate) (c : Cell) (role : Role) (read : ℕ → Option ℕ) (library : List ℕ) (d : Row) where
  way_row_lem : (rs : Group) (place j : ℕ)
      → ((i : ℕ) → i < length rs → get_or library (place + Size.row_words * i + 1) 0 ≡ (get_or rs i d).columns)
      → ((r : Row) → List-as-Memᴰ r rs → has_way (read r.columns) ≡ is_way g c role r)
      → j < length (usable g c role rs)
      → (way_row read library (length rs) place j < length rs) × (get_or rs (way_row read library (length rs) place j) d ≡ get_or (usable g c role rs) j d)
  unfolding way_row usable has_way step_row pick
  way_row_lem [] place j q p h = absurd (omega arith)
  way_row_lem (r ∷ rs) place j q p h =
      let z : place + Size.row_words * 0 ≡ place = omega arith in
      let first : get_or library (place + 1) 0 ≡ r.columns = rw z at (q 0 (omega arith)) in
      rw first
      (side (way_row read library (length rs) (place + Size.row_words)) (usable g c role rs) (read r.columns) (is_way g c role r) (p r (List-Memᴰ-head refl)) j h
      (λ i f.
      way_row_lem rs (place + Size.row_words) i (λ x b. rw (next x) (q (suc x) (omega arith))) (λ y m. p y (List-Memᴰ-tail m)) f))
    where
      next : (i : ℕ) → place + Size.row_words + Size.row_words * i ≡ place + Size.row_words * suc i
      next i = omega arith

      side : (later : ℕ → ℕ) (ways : Group) (o : Option ℕ) (b : Bool) → has_way o ≡ b → (i : ℕ) → i < length (pick b (r ∷ ways) ways)
          → ((x : ℕ) → x < length ways → (later x < length rs) × (get_or rs (later x) d ≡ get_or ways x d))
          → (step_row o i later < suc (length rs)) × (get_or (r ∷ rs) (step_row o i later) d ≡ get_or (pick b (r ∷ ways) ways) i d)
      side later ways none true e i h f = let z : ◌≡◌ {A = ℕ} 0 1 = cc in absurd (omega arith)
      side later ways none false e i h f = (omega (arith, (f i h).0), (f i h).1)
      side later ways (some x) true e zero h f = (omega arith, refl)
      side later ways (some x) true e (suc i) h f = (omega (arith, (f i (omega arith)).0), (f i (omega arith)).1)
      side later ways (some x) false e i h f = let z : ◌≡◌ {A = ℕ} 0 1 = cc in absurd (omega arith)

-- A row as it is written, within 32 bits.
told : (h : Heading) (depth columns : ℕ) → depth ≤ deepest → columns < 65536 → as_written (heading_number h) depth columns ≡ row_value h (record { depth = depth; columns = columns })
unfolding as_written heading_number row_value depth_bits pick
told plain depth columns d c = omega arith
told deep depth columns d c = omega arith

module _ (cells : List Cell) (ss : List Statement) (sound : BothSound cells ss) (k : Kind) (behind past table : List ℕ) where
  abbrev library : List ℕ
  library = library_words cells ++ behind

  abbrev netlist : List ℕ
  netlist = netlist_words ss ++ past

  abbrev gs : List Gate
  gs = gates_of ss

  -- What the line writer puts of a line at a value.
  pub code : ℕ → ℕ → Purpose → List ℕ
  code before depth (set l v) = line_bytes table netlist before depth (l * 2 + v)
  code before depth (observe l) = []

  abbrev Covered : Purpose → Type 0
  Covered (set l v) = Unit {0}
  Covered (observe l) = ⊥

  module _ (noted : AllNoted (kind_number k) library netlist (trace cells ss sound k).marks table) where
    here : (l v : ℕ) → Placed (set l v) → (o : Option Mark) → mark_at (trace cells ss sound k).marks (node k (set l v)) ≡ o → NotedAs (kind_number k) library netlist o l v table
    unfolding InRange
    here l v placed o e =
        subst (λ (x : Option Mark). NotedAs (kind_number k) library netlist x l v table)
        (ap (mark_at (trace cells ss sound k).marks) (set-node k l v) ∙ e) (noted l v placed.0.0 placed.0.1 placed.1)

    goal-line : (l v : ℕ) → v ≤ 1 → (l * 2 + v) / 2 ≡ l
    goal-line l v h = omega arith

    goal-value : (l v : ℕ) → v ≤ 1 → (l * 2 + v) % 2 ≡ v
    goal-value l v h = omega arith

    -- ---- an input

    unmarked_code_lem : (l v : ℕ) → Placed (set l v) → Unnoted (kind_number k) library netlist l v table → (before depth : ℕ) → 0 < before
        → code before depth (set l v) ≡ node_line depth l v input_text
    unfolding code goal_line goal_row pick
    unmarked_code_lem l v placed u before depth h =
        let goal = l * 2 + v in
        let line : goal_line table depth goal ≡ node_line depth l v input_text =
        rw (u.visit, goal-line l v placed.1, goal-value l v placed.1) refl in
        let rest : row_bytes table netlist (visit_at table goal) (suc depth) (last_at table goal) (columns_at table goal) ≡ [] =
        row_none table netlist (visit_at table goal) (suc depth) (last_at table goal) (columns_at table goal) (omega (arith, u.columns)) in
        line-some table netlist before depth goal (omega (arith, u.visit))
        ∙ ap₂ (λ (a b : List ℕ). a ++ b) line rest
        ∙ append-nil (node_line depth l v input_text)

    -- ---- a row

    module _ (l v : ℕ) (placed : Placed (set l v)) (m : Mark) (e : mark_at (trace cells ss sound k).marks (node k (set l v)) ≡ some m) (nt : Noted (kind_number k) library netlist l v m table) (c : Chosen cells ss sound k Has (turns_for cells ss (set l v)) (set l v) m) where
      abbrev i : ℕ
      i = nt.gate

      inside : i < length gs
      inside = rw (← netlist-count ss past) nt.inside

      abbrev gate : Gate
      gate = get_or gs i no_gate

      drives : gate.line ≡ l
      drives = ap (λ (ls : List ℕ). get_or ls 0 0) (sym (lines-held sound.netlist past i inside)) ∙ nt.drives

      same-gate : gate ≡ c.gate
      same-gate =
          one-driver gs (driven-once cells ss sound.netlist) gate c.gate (getD_listed gs i no_gate inside) c.listed
          (drives ∙ sym (set-role c.gate c.role l v c.serves).0)

      same-role : setting v ≡ c.role
      same-role = (set-role c.gate c.role l v c.serves).1

      abbrev n : ℕ
      n = (cell_of cells gate).pins

      within : m.place < length (way_rows k cells gate (setting v))
      within = rw (same-gate, same-role) c.within

      abbrev r : Row
      r = get_or (way_rows k cells gate (setting v)) m.place no_row

      abbrev rows : Group
      rows = group_of k (cell_of cells gate) (setting v)

      pins-few : n ≤ Size.pins
      pins-few = B.pins-most cells ss sound behind past i inside

      -- ---- which row of the table it is

      few-columns : (x : Row) → List-as-Memᴰ x rows → x.columns < 2 ^ (2 * n)
      few-columns x q = rw (← setting-width k v n) (B.row_sound cells ss sound behind past i inside k (setting v) placed.1 x q).within

      abbrev lone : (x : Row) → List-as-Memᴰ x rows → one_wire (cell_of cells gate) ≡ true → both_values n n x.columns ≡ false
      lone x q = B.lone cells ss sound behind past i inside k (setting v) placed.1 x q

      abbrev read : ℕ → Option ℕ
      read = read_row (gate_tied library netlist i) (gate_lines netlist i) (gate_pins library netlist i)

      ways-told : (x : Row) → List-as-Memᴰ x rows → has_way (read x.columns) ≡ is_way gate (cell_of cells gate) (setting v) x
      ways-told x q =
          rw (B.tied_is cells ss sound behind past i inside, lines-held sound.netlist past i inside, B.pins-number cells ss sound behind past i inside)
          (way-told gate (cell_of cells gate) v pins-few x (few-columns x q) (lone x q))

      abbrev found : ℕ
      found = gate_row (kind_number k) library netlist i v m.place

      found_is : (found < length rows) × (get_or rows found no_row ≡ r)
      unfolding group_index way_rows
      found_is =
          rw (B.group_number cells ss sound behind past i inside k (setting v) placed.1)
          (way_row_lem gate (cell_of cells gate) (setting v) read library no_row rows
          (group_place (gate_cell netlist i) (visit_group 0 (kind_number k) v) + 1) m.place
          (λ x b. B.columns-number cells ss sound behind past i inside k (setting v) placed.1 x b)
          ways-told within)

      same_row_lem : get_or rows found no_row ≡ r
      same_row_lem = found_is.1

      listed : List-as-Memᴰ r rows
      listed = subst (λ (x : Row). List-as-Memᴰ x rows) found_is.1 (getD_listed rows found no_row found_is.0)

      abbrev place : ℕ
      place = row_place (kind_number k) netlist i v found

      depth-word : get_or library place 0 ≡ r.depth
      unfolding group_index
      depth-word = B.depth-number cells ss sound behind past i inside k (setting v) placed.1 found found_is.0 ∙ ap (λ (x : Row). x.depth) same_row_lem

      columns-word : get_or library (place + 1) 0 ≡ r.columns
      unfolding group_index
      columns-word = B.columns-number cells ss sound behind past i inside k (setting v) placed.1 found found_is.0 ∙ ap (λ (x : Row). x.columns) same_row_lem

      heading-word : get_or library (heading_place (gate_cell netlist i)) 0 ≡ heading_number (cell_of cells gate).heading
      unfolding cell_of
      heading-word =
          rw (cell-held sound.netlist past i inside)
          (cell-heading no_cell cells behind sound.library.few gate.cell (gate-sound cells ss sound.netlist gate (getD_listed gs i no_gate inside)).known)

      last-place : last_at table (l * 2 + v) ≡ gate_place i + 1 + n
      last-place = nt.last ∙ ap (λ (x : ℕ). gate_place i + 1 + x) (B.pins-number cells ss sound behind past i inside)

      columns-few : r.columns < 2 ^ (2 * n)
      columns-few = few-columns r listed

      row_word : row_at table (l * 2 + v) ≡ row_value (cell_of cells gate).heading r
      row_word =
          let few : 2 * n ≤ 16 = omega (arith, pins-few) in
          let most : 2 ^ (2 * n) ≤ 2 ^ 16 = pow-le-pow_right {n = 2} (omega arith) few in
          nt.row
          ∙ rw (heading-word, depth-word, columns-word)
          (told (cell_of cells gate).heading r.depth r.columns (B.row_sound cells ss sound behind past i inside k (setting v) placed.1 r listed).depth
          (le_trans columns-few most))

      -- ---- the lines that its columns name

      pin-word : (j : ℕ) → j < n → get_or netlist (gate_place i + 1 + suc j) 0 ≡ pin_line gate (suc j)
      unfolding pin_line
      pin-word j h =
          let z : suc j - 1 ≡ j = omega arith in
          line-held sound.netlist past i inside (suc j) (omega (arith, pins-few))
          ∙ rw z (getD_fitted 0 Size.pins gate.pins j (omega (arith, pins-few)))

      -- Each column as a goal.
      value : Column → ℕ
      value (pin j w) = pin_line gate j * 2 + w
      value (output w) = goal_at netlist (last_at table (l * 2 + v)) (2 * n + (1 - w))
      value C.observe = goal_at netlist (last_at table (l * 2 + v)) (2 * n + 2)

      pin-goal : (j w : ℕ) → j < n → w ≤ 1 → goal_at netlist (last_at table (l * 2 + v)) (2 * (n - suc j) + (1 - w)) ≡ value (pin (suc j) w)
      unfolding value goal_at
      pin-goal j w h b =
          let back : gate_place i + 1 + n - (2 * (n - suc j) + (1 - w)) / 2 ≡ gate_place i + 1 + suc j = omega arith in
          let bit : 1 - (2 * (n - suc j) + (1 - w)) % 2 ≡ w = omega arith in
          rw (last-place, back, bit, pin-word j h) (omega arith)

      -- The columns by which it asks.
      abbrev asking : ℕ
      asking = pick (shares_line (gate_line_words gate) n && one_wire (cell_of cells gate)) (once_columns (gate_line_words gate) n r.columns) r.columns

      asking-word : columns_at table (l * 2 + v) ≡ asking
      unfolding asking_columns
      asking-word =
          nt.columns
          ∙ rw (columns-word, B.tied_is cells ss sound behind past i inside, lines-held sound.netlist past i inside, B.pins-number cells ss sound behind past i inside) refl

      goals-are : goals netlist (last_at table (l * 2 + v)) asking ≡ map value (asks gate (cell_of cells gate) (setting v) r)
      unfolding goals value
      goals-are =
          setting_named n (goal_at netlist (last_at table (l * 2 + v))) value pin-goal (λ w b. refl) refl asking pins-few
          (asking-few gate (cell_of cells gate) v pins-few r columns-few (lone r listed) _)
          ∙ ap (map value) (asking_named gate (cell_of cells gate) v pins-few r columns-few (lone r listed))

      -- What is written of each column.
      abbrev columns : ℕ → ℕ → Gate → List Column → List ℕ
      columns before depth g cs = P.columns_code cells ss sound k Covered code before depth g cs

      joined-columns : (before depth : ℕ) (cs : List Column) → ((d : Column) → List-as-Memᴰ d cs → MayName n (setting v) d)
          → joined (line_bytes table netlist before depth) (map value cs) ≡ columns before depth gate cs
      unfolding joined value code asked
      joined-columns before depth [] h = refl
      joined-columns before depth (pin j w ∷ cs) h =
          ap (λ (f : List ℕ). line_bytes table netlist before depth (pin_line gate j * 2 + w) ++ f) (joined-columns before depth cs (λ d q. h d (List-Memᴰ-tail q)))
      joined-columns before depth (output w ∷ cs) h = absurd (h (output w) (List-Memᴰ-head refl))
      joined-columns before depth (C.observe ∷ cs) h = absurd (h C.observe (List-Memᴰ-head refl))

      row_code : (before depth : ℕ) → row_bytes table netlist before depth (last_at table (l * 2 + v)) (columns_at table (l * 2 + v))
          ≡ columns before depth gate (asks gate (cell_of cells gate) (setting v) r)
      unfolding row_bytes
      row_code before depth =
          rw (asking-word, goals-are)
          (joined-columns before depth (asks gate (cell_of cells gate) (setting v) r) (λ d q. asks_named gate (cell_of cells gate) (setting v) r d q))

      marked-gate : (before depth : ℕ) → suc m.time < before
          → code before depth (set l v) ≡ node_line depth l v (row_text (cell_of cells gate) r) ++ columns (suc m.time) (suc depth) gate (asks gate (cell_of cells gate) (setting v) r)
      unfolding code goal_line goal_row pick row_text
      marked-gate before depth h =
          let goal = l * 2 + v in
          let line : goal_line table depth goal ≡ node_line depth l v (row_text (cell_of cells gate) r) =
          rw (nt.visit, ne_eqb (suc m.time) 0 (λ q. omega arith), goal-line l v placed.1, goal-value l v placed.1, row_word) refl in
          let rest : row_bytes table netlist (visit_at table goal) (suc depth) (last_at table goal) (columns_at table goal)
          ≡ columns (suc m.time) (suc depth) gate (asks gate (cell_of cells gate) (setting v) r) =
          ap (λ (x : ℕ). row_bytes table netlist x (suc depth) (last_at table goal) (columns_at table goal)) nt.visit ∙ row_code (suc m.time) (suc depth) in
          line-some table netlist before depth goal (omega (arith, nt.visit)) ∙ ap₂ (λ (a b : List ℕ). a ++ b) line rest

      stamp_is : stamp_of k cells ss (set l v) ≡ suc m.time
      unfolding stamp_of mark_for visit_of
      stamp_is = rw e refl

      marked_code_lem : (before depth : ℕ) → stamp_of k cells ss (set l v) < before
          → code before depth (set l v)
          ≡ line_for depth (set l v) (way_text (cell_of cells c.gate) c.gate c.role (P.taken cells ss sound k Covered code c.gate c.role m))
          ++ columns (stamp_of k cells ss (set l v)) (suc depth) c.gate (asks c.gate (cell_of cells c.gate) c.role (P.taken cells ss sound k Covered code c.gate c.role m))
      unfolding line_for way_text
      marked_code_lem before depth h =
          rw (← same-gate, ← same-role, stamp_is) (marked-gate before depth (rw stamp_is at h))

    pub codes : P.Codes cells ss sound k Covered code
    unfolding NotedAs mark_for line_for free_text stamp_of visit_of asked purpose_of
    codes = record { unmarked_code = free; marked_code = lowered; covers = covers }
      where
        free : (p : Purpose) → Placed p → Covered p → mark_for k cells ss p ≡ none → (before depth : ℕ) → stamp_of k cells ss p < before
            → code before depth p ≡ line_for depth p (free_text p)
        free (set l v) placed q e before depth h = unmarked_code_lem l v placed (here l v placed none e) before depth (omega arith)
        free (observe l) placed q e before depth h = absurd q

        lowered : (p : Purpose) → Placed p → Covered p → (m : Mark) → mark_for k cells ss p ≡ some m → (c : Chosen cells ss sound k Has (turns_for cells ss p) p m)
            → (before depth : ℕ) → stamp_of k cells ss p < before
            → code before depth p
            ≡ line_for depth p (way_text (cell_of cells c.gate) c.gate c.role (P.taken cells ss sound k Covered code c.gate c.role m))
            ++ P.columns_code cells ss sound k Covered code (stamp_of k cells ss p) (suc depth) c.gate (asks c.gate (cell_of cells c.gate) c.role (P.taken cells ss sound k Covered code c.gate c.role m))
        lowered (set l v) placed q m e c before depth h = marked_code_lem l v placed m e (here l v placed (some m) e) c before depth h
        lowered (observe l) placed q m e c before depth h = absurd q

        covers : (g : Gate) (role : Role) (d : Column) → MayName (cell_of cells g).pins role d → Covered (purpose_of g role) → Covered (asked g d)
        covers g (setting e) (pin i v) h q = tt
        covers g (setting e) (output v) h q = absurd h
        covers g (setting e) C.observe h q = absurd h
        covers g (observing i) d h q = absurd q

    -- What the line writer puts is the text of the plan that the marks tell, where the number is a figure.
    pub cheapest : (l v : ℕ) → Placed (set l v) → get_or (analysed cells ss).numbers (node k (set l v)) 0 ≤ most
        → Cheapest cells ss k l v × (line_bytes table netlist 4294967295 0 (l * 2 + v) ≡ cheapest_text k cells ss l v)
    unfolding code stamp_of mark_for visit_of
    cheapest l v placed small =
        let s = figure-told cells ss sound k Covered code codes (set l v) placed small in
        (s.0, s.1 tt 4294967295 (visit-early l v (mark_at (trace cells ss sound k).marks (node k (set l v))) refl))
      where
        visit-early : (l v : ℕ) (o : Option Mark) → mark_at (trace cells ss sound k).marks (node k (set l v)) ≡ o → stamp_of k cells ss (set l v) < 4294967295
        visit-early l v none e = omega (arith, ap visit_of e)
        visit-early l v (some m) e = omega (arith, ap visit_of e, early cells ss sound k (node k (set l v)) m e)

-- The same of tables that hold accepted cells and statements.
module _ (library netlist table : List ℕ) (k : Kind) (cells : List Cell) (ss : List Statement) (kind : ℕ) (e : kind_number k ≡ kind) (h : Holds library netlist cells ss)
    (noted : AllNoted kind library netlist (setting_trace k cells ss).marks table) where
  pub plan-put : (l v : ℕ) → Placed (set l v) → get_or (analysed cells ss).numbers (node k (set l v)) 0 ≤ most
      → (before after : List ℕ) (end : ℕ) → Put 0 (line_bytes table netlist 4294967295 0 (l * 2 + v)) before after end → PlanPut cells ss k l v before after end
  plan-put l v placed small before after end p =
      let c = cheapest cells ss h.sound k h.behind h.past table (rw (← e, h.cells_stand, h.statements_stand) at noted) l v placed small in
      record { put = subst (λ (f : List ℕ). Put 0 f before after end) (ap (λ (ns : List ℕ). line_bytes table ns 4294967295 0 (l * 2 + v)) h.statements_stand ∙ c.1) p; plan = c.0 }
