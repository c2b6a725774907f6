-- The plan that the marks tell: one for just the purpose and the kind, at the number reported, and its text is the one that is
-- computed and the one that is written. A line set to a value and a line observed go the same way.
use Rattle.common_laws.proofs.Base.{Bool, true, false, List, [], ◌∷◌, ◌++◌, List-as-Memᴰ, List-Memᴰ-head, List-Memᴰ-tail, Option, none, some, ◌≡◌, refl, sym, ap, ap₂, subst, ◌∙◌, ℕ}
use Rattle.common_laws.proofs.Base.{zero, suc, ◌+◌, ◌≤◌, ◌<◌, le_trans, le_refl, arith, length}
use Rattle.reading.specs.Choice.{pick}
use Rattle.cost.specs.Cost.{most, never, capped}
use Rattle.cost.proofs.Laws.{sum-small}
use Rattle.plans.specs.System.{Way}
use Rattle.plans.specs.Sweep.{at, sums, way}
use Rattle.plans.specs.Trace.{Mark}
use Rattle.library_table.specs.Cells.{Row, Cell, Column}
use Rattle.netlist_table.specs.Netlist.{Gate, Statement, gates_of, is_input, is_output}
use Rattle.calculation.specs.Prices.{prices_of}
use Rattle.calculation.specs.Nodes.{Kind, Purpose, set, observe, node}
use Rattle.calculation.specs.Ways.{cell_of, asked, needs, Role, setting, observing, purpose_of, group_of, asks, is_way, way_of}
use Rattle.calculation.specs.Acceptance.{BothSound}
use Rattle.calculation.specs.LinePlans.{Plan, Plan.input, Plan.row, Plan.output, Plan.through, Plans, Plans.done, Plans.also, cost_at, costs_at, cost}
use Rattle.calculation.proofs.Places.{Placed, start-at}
use Rattle.calculation.proofs.Visits.{getD_listed, Has, MayName, asks_named, usable_from}
use Rattle.calculation.proofs.Acceptance.{asked-placed}
use Rattle.plan_marks.specs.Lowered.{mark_for, turns_for, turn_at}
use Rattle.plan_text.specs.PlanText.{
  plan_text,
  plans_text,
  way_rows,
  LoweredBy,
  LastLowered,
  AllLastLowered,
  joined,
  line_for,
  free_text,
  way_text,
  turn_text,
  node_text,
  tree_text,
  stamp_of,
}
use Rattle.plan_text.proofs.ChosenRow.{unmarked, row_of, Chosen, Told, told}
use Rattle.plan_text.proofs.ChosenRow as R

module _ (xs : List ℕ) where
  need_first : (n : ℕ) (ns : List ℕ) → sums xs (n ∷ ns) ≤ most → (sums xs (n ∷ ns) ≡ at xs n + sums xs ns) × (at xs n ≤ most) × (sums xs ns ≤ most)
  unfolding sums
  need_first n ns h =
      let e = sum-small (at xs n) (sums xs ns) h in
      (e, omega (arith, e), omega (arith, e))

  way-exact : (w : Way) → way xs w ≤ most → (way xs w ≡ w.depth + sums xs w.needs) × (sums xs w.needs ≤ most)
  unfolding way capped
  way-exact w h =
      let e = sum-small (capped w.depth) (sums xs w.needs) h in
      (omega (arith, e), omega (arith, e))

-- ---- the plan

-- What is written of a purpose, handed a visit and a depth, is `code`; it is known of the purposes that are `Covered`.
module _ (cells : List Cell) (ss : List Statement) (sound : BothSound cells ss) (k : Kind) (Covered : Purpose → Type 0) (code : ℕ → ℕ → Purpose → List ℕ) where
  abbrev xs : List ℕ
  xs = R.xs cells ss sound k

  abbrev gs : List Gate
  gs = gates_of ss

  abbrev stamp : Purpose → ℕ
  stamp p = stamp_of k cells ss p

  abbrev pub taken : Gate → Role → Mark → Row
  taken g role m = row_of cells ss sound k g role m

  abbrev asking : Gate → Role → Row → List Column
  asking g role r = asks g (cell_of cells g) role r

  -- What is written of each column that a row names.
  abbrev pub columns_code : ℕ → ℕ → Gate → List Column → List ℕ
  columns_code before depth g cs = joined (λ (c : Column). code before depth (asked g c)) cs

  -- It goes by the purpose's mark.
  pub record Codes : Type 0 where
    pub unmarked_code : (p : Purpose) → Placed p → Covered p → mark_for k cells ss p ≡ none → (before depth : ℕ) → stamp p < before
        → code before depth p ≡ line_for depth p (free_text p)
    pub marked_code : (p : Purpose) → Placed p → Covered p → (m : Mark) → mark_for k cells ss p ≡ some m → (c : Chosen cells ss sound k Has (turns_for cells ss p) p m)
        → (before depth : ℕ) → stamp p < before
        → code before depth p
        ≡ line_for depth p (way_text (cell_of cells c.gate) c.gate c.role (taken c.gate c.role m))
        ++ columns_code (stamp p) (suc depth) c.gate (asking c.gate c.role (taken c.gate c.role m))
    pub covers : (g : Gate) (role : Role) (d : Column) → MayName (cell_of cells g).pins role d → Covered (purpose_of g role) → Covered (asked g d)

  -- The plan of a purpose, with all that holds of it.
  pub record Shown (p : Purpose) : Type 0 where
    pub plan : Plan cells ss k p
    pub lowered : LastLowered plan
    pub costs : cost plan ≡ at xs (node k p)
    pub tree : (more depth : ℕ) → stamp p < more → tree_text k cells ss more depth p ≡ plan_text depth plan
    pub written : Covered p → (before depth : ℕ) → stamp p < before → code before depth p ≡ plan_text depth plan

  -- The plans of all that some columns ask for, each of a visit below `limit`.
  record ShownAll (limit : ℕ) (g : Gate) (cs : List Column) : Type 0 where
    plans : Plans cells ss k g cs
    lowered : AllLastLowered plans
    total : costs_at (prices_of ss) plans ≡ sums xs (needs k g cs)
    tree : (more depth : ℕ) → limit ≤ more → joined (λ (c : Column). tree_text k cells ss more depth (asked g c)) cs ≡ plans_text depth plans
    written : ((c : Column) → List-as-Memᴰ c cs → Covered (asked g c)) → (before depth : ℕ) → limit ≤ before → columns_code before depth g cs ≡ plans_text depth plans

  -- A gate that serves in a role, by a row.
  module _ (g : Gate) (listed : List-as-Memᴰ g gs) where
    plan_by : (role : Role) → Has (cell_of cells g) role → (r : Row) → List-as-Memᴰ r (group_of k (cell_of cells g) role) → is_way g (cell_of cells g) role r ≡ true
        → Plans cells ss k g (asking g role r) → Plan cells ss k (purpose_of g role)
    unfolding purpose_of
    plan_by (setting e) h r i w ps = row g listed refl r i w ps
    plan_by (observing j) h r i w ps = through g listed j h.0 h.1 refl r i ps

    module _ (r : Row) where
      by_cost : (role : Role) (h : Has (cell_of cells g) role) (i : List-as-Memᴰ r (group_of k (cell_of cells g) role)) (w : is_way g (cell_of cells g) role r ≡ true)
          (ps : Plans cells ss k g (asking g role r)) → cost (plan_by role h r i w ps) ≡ r.depth + costs_at (prices_of ss) ps
      unfolding purpose_of plan_by cost_at
      by_cost (setting e) h i w ps = refl
      by_cost (observing j) h i w ps = refl

      by_text : (role : Role) (h : Has (cell_of cells g) role) (i : List-as-Memᴰ r (group_of k (cell_of cells g) role)) (w : is_way g (cell_of cells g) role r ≡ true)
          (ps : Plans cells ss k g (asking g role r)) (depth : ℕ)
          → plan_text depth (plan_by role h r i w ps) ≡ line_for depth (purpose_of g role) (way_text (cell_of cells g) g role r) ++ plans_text (suc depth) ps
      unfolding purpose_of plan_by plan_text line_for way_text
      by_text (setting e) h i w ps depth = refl
      by_text (observing j) h i w ps depth = refl

      by_lowered : (role : Role) (h : Has (cell_of cells g) role) (i : List-as-Memᴰ r (group_of k (cell_of cells g) role)) (w : is_way g (cell_of cells g) role r ≡ true)
          (ps : Plans cells ss k g (asking g role r)) → LoweredBy k cells ss (purpose_of g role) g role r → AllLastLowered ps → LastLowered (plan_by role h r i w ps)
      unfolding purpose_of plan_by LastLowered
      by_lowered (setting e) h i w ps a b = (a, b)
      by_lowered (observing j) h i w ps a b = (a, b)

  module _ (codes : Codes) where
    -- ---- an input, or an output

    free-tree : (p : Purpose) → mark_for k cells ss p ≡ none → (more depth : ℕ) → stamp p < more → tree_text k cells ss more depth p ≡ line_for depth p (free_text p)
    unfolding tree_text node_text
    free-tree p e zero depth h = absurd (omega arith)
    free-tree p e (suc more) depth h = rw e refl

    module _ (p : Purpose) (placed : Placed p) (e : mark_for k cells ss p ≡ none) where
      free : (d : Plan cells ss k p) → LastLowered d → cost d ≡ at xs (node k p) → ((depth : ℕ) → line_for depth p (free_text p) ≡ plan_text depth d) → Shown p
      free d low c text =
          record {
            plan = d;
            lowered = low;
            costs = c;
            tree = λ more depth h. free-tree p e more depth h ∙ text depth;
            written = λ q before depth h. codes.unmarked_code p placed q e before depth h ∙ text depth;
          }

    set_free : (l v : ℕ) → Placed (set l v) → mark_for k cells ss (set l v) ≡ none → at xs (node k (set l v)) ≤ most → (b : Bool) → is_input l ss ≡ b → Shown (set l v)
    unfolding pick LastLowered cost_at plan_text line_for free_text
    set_free l v placed e h true q =
        free (set l v) placed e (input placed.1 q) e
        (sym (unmarked cells ss sound k (set l v) placed e ∙ rw q at (start-at (prices_of ss) ss k (set l v) placed))) (λ depth. refl)
    set_free l v placed e h false q =
        let n : at xs (node k (set l v)) ≡ never = unmarked cells ss sound k (set l v) placed e ∙ rw q at (start-at (prices_of ss) ss k (set l v) placed) in
        absurd (omega arith)

    see_free : (l : ℕ) → Placed (observe l) → mark_for k cells ss (observe l) ≡ none → at xs (node k (observe l)) ≤ most → (b : Bool) → is_output l ss ≡ b → Shown (observe l)
    unfolding pick LastLowered cost_at plan_text line_for free_text
    see_free l placed e h true q =
        free (observe l) placed e (output q) e
        (sym (unmarked cells ss sound k (observe l) placed e ∙ rw q at (start-at (prices_of ss) ss k (observe l) placed))) (λ depth. refl)
    see_free l placed e h false q =
        let n : at xs (node k (observe l)) ≡ never = unmarked cells ss sound k (observe l) placed e ∙ rw q at (start-at (prices_of ss) ss k (observe l) placed) in
        absurd (omega arith)

    free-shown : (p : Purpose) → Placed p → mark_for k cells ss p ≡ none → at xs (node k p) ≤ most → Shown p
    free-shown (set l v) placed e h = set_free l v placed e h (is_input l ss) refl
    free-shown (observe l) placed e h = see_free l placed e h (is_output l ss) refl

    -- ---- a row

    module _ (limit : ℕ) (ih : (p : Purpose) → Placed p → at xs (node k p) ≤ most → stamp p < limit → Shown p)
        (g : Gate) (listed : List-as-Memᴰ g gs) (role : Role) where
      all_shown : (cs : List Column) → ((c : Column) → List-as-Memᴰ c cs → MayName (cell_of cells g).pins role c)
          → ((c : Column) → List-as-Memᴰ c cs → stamp (asked g c) < limit)
          → sums xs (needs k g cs) ≤ most → ShownAll limit g cs
      unfolding AllLastLowered costs_at plans_text needs sums joined
      all_shown [] named early h =
          record { plans = done; lowered = tt; total = refl; tree = λ more depth q. refl; written = λ a before depth q. refl }
      all_shown (c ∷ cs) named early h =
          let here = List-Memᴰ-head refl in
          let e = need_first xs (node k (asked g c)) (needs k g cs) h in
          let one = ih (asked g c) (asked-placed sound g listed role c (named c here)) e.1 (early c here) in
          let rest = all_shown cs (λ d m. named d (List-Memᴰ-tail m)) (λ d m. early d (List-Memᴰ-tail m)) e.2 in
          record {
            plans = also one.plan rest.plans;
            lowered = (one.lowered, rest.lowered);
            total = ap₂ (λ (a b : ℕ). a + b) one.costs rest.total ∙ sym e.0;
            tree = λ more depth q. ap₂ (λ (a b : List ℕ). a ++ b) (one.tree more depth (le_trans (early c here) q)) (rest.tree more depth q);
            written = λ a before depth q.
                ap₂ (λ (x y : List ℕ). x ++ y) (one.written (a c here) before depth (le_trans (early c here) q)) (rest.written (λ d m. a d (List-Memᴰ-tail m)) before depth q);
          }

    -- The row that a mark tells.
    module _
        (m : Mark)
        (g : Gate)
        (listed : List-as-Memᴰ g gs)
        (role : Role)
        (allowed : Has (cell_of cells g) role)
        (within : m.place < length (way_rows k cells g role))
        (way-is : m.way ≡ way_of k g (cell_of cells g) role (taken g role m))
      where
        abbrev r : Row
        r = taken g role m

        abbrev cs : List Column
        cs = asking g role r

        needs_are : m.way.needs ≡ needs k g cs
        unfolding way_of
        needs_are = ap (λ (w : Way). w.needs) way-is

        depth_is : m.way.depth ≡ r.depth
        unfolding way_of
        depth_is = ap (λ (w : Way). w.depth) way-is

        -- The row is one of the group, and a way.
        among : List-as-Memᴰ r (group_of k (cell_of cells g) role) × (is_way g (cell_of cells g) role r ≡ true)
        unfolding way_rows
        among =
            usable_from g (cell_of cells g) role (group_of k (cell_of cells g) role) r (getD_listed (way_rows k cells g role) m.place _ within)

        tree_row : (p : Purpose) → mark_for k cells ss p ≡ some m → turn_at (turns_for cells ss p) m.time ≡ record { gate = g; role = role } → (more depth : ℕ)
            → tree_text k cells ss (suc more) depth p
            ≡ line_for depth p (way_text (cell_of cells g) g role r) ++ joined (λ (c : Column). tree_text k cells ss more (suc depth) (asked g c)) cs
        unfolding tree_text node_text turn_text
        tree_row p e turn more depth = rw (e, turn) refl

        serving : (e : mark_for k cells ss (purpose_of g role) ≡ some m)
            → turn_at (turns_for cells ss (purpose_of g role)) m.time ≡ record { gate = g; role = role }
            → Placed (purpose_of g role)
            → at xs (node k (purpose_of g role)) ≤ most
            → way xs m.way ≡ at xs (node k (purpose_of g role))
            → ((d : Column) → List-as-Memᴰ d cs → stamp (asked g d) < stamp (purpose_of g role))
            → ((q : Purpose) → Placed q → at xs (node k q) ≤ most → stamp q < stamp (purpose_of g role) → Shown q)
            → Shown (purpose_of g role)
        serving e turn placed small total early ih =
            record {
              plan = plan_by g listed role allowed r among.0 among.1 below.plans;
              lowered =
                  by_lowered g listed r role allowed among.0 among.1 below.plans
                  (record { mark = m; marked = e; turn = turn; within = within; row = refl }) below.lowered;
              costs =
                  by_cost g listed r role allowed among.0 among.1 below.plans
                  ∙ ap₂ (λ (a b : ℕ). a + b) (sym depth_is) (below.total ∙ ap (sums xs) (sym needs_are)) ∙ sym exactly.0 ∙ total;
              tree = by_tree;
              written = λ q before depth h.
                  codes.marked_code (purpose_of g role) placed q m e
                  (record { gate = g; role = role; listed = listed; allowed = allowed; turn = turn; serves = refl; within = within; taken = way-is }) before depth h
                  ∙ ap (λ (f : List ℕ). line_for depth (purpose_of g role) (way_text (cell_of cells g) g role r) ++ f)
                  (below.written (λ d i. codes.covers g role d (asks_named g (cell_of cells g) role r d i) q) (stamp (purpose_of g role)) (suc depth) (le_refl (stamp (purpose_of g role))))
                  ∙ sym (by_text g listed r role allowed among.0 among.1 below.plans depth);
            }
          where
            exactly : (way xs m.way ≡ m.way.depth + sums xs m.way.needs) × (sums xs m.way.needs ≤ most)
            exactly = way-exact xs m.way (rw total small)

            below : ShownAll (stamp (purpose_of g role)) g cs
            below =
                all_shown (stamp (purpose_of g role)) ih g listed role cs (λ d i. asks_named g (cell_of cells g) role r d i) early (rw needs_are at exactly.1)

            by_tree : (more depth : ℕ) → stamp (purpose_of g role) < more
                → tree_text k cells ss more depth (purpose_of g role) ≡ plan_text depth (plan_by g listed role allowed r among.0 among.1 below.plans)
            by_tree zero depth h = absurd (omega arith)
            by_tree (suc more) depth h =
                tree_row (purpose_of g role) e turn more depth
                ∙ ap (λ (f : List ℕ). line_for depth (purpose_of g role) (way_text (cell_of cells g) g role r) ++ f) (below.tree more (suc depth) (omega arith))
                ∙ sym (by_text g listed r role allowed among.0 among.1 below.plans depth)

        served : (p : Purpose) → purpose_of g role ≡ p → mark_for k cells ss p ≡ some m
            → turn_at (turns_for cells ss p) m.time ≡ record { gate = g; role = role }
            → Placed p
            → at xs (node k p) ≤ most
            → way xs m.way ≡ at xs (node k p)
            → ((d : Column) → List-as-Memᴰ d cs → stamp (asked g d) < stamp p)
            → ((q : Purpose) → Placed q → at xs (node k q) ≤ most → stamp q < stamp p → Shown q)
            → Shown p
        served p q =
            subst
            (λ (p : Purpose). mark_for k cells ss p ≡ some m
            → turn_at (turns_for cells ss p) m.time ≡ record { gate = g; role = role }
            → Placed p
            → at xs (node k p) ≤ most
            → way xs m.way ≡ at xs (node k p)
            → ((d : Column) → List-as-Memᴰ d cs → stamp (asked g d) < stamp p)
            → ((q : Purpose) → Placed q → at xs (node k q) ≤ most → stamp q < stamp p → Shown q)
            → Shown p)
            q serving

    -- ---- every purpose whose number is a figure

    from_mark : (limit : ℕ) (p : Purpose) → Placed p → at xs (node k p) ≤ most → stamp p < suc limit
        → ((q : Purpose) → Placed q → at xs (node k q) ≤ most → stamp q < limit → Shown q)
        → (o : Option Mark) → mark_for k cells ss p ≡ o → Shown p
    from_mark limit p placed h q ih none e = free-shown p placed e h
    from_mark limit p placed h q ih (some m) e =
        let t : Told cells ss sound k p m = told cells ss sound k p placed m e h in
        let c = t.chosen in
        served m c.gate c.listed c.role c.allowed c.within c.taken p c.serves e c.turn placed h t.sums t.earlier
        (λ j pl small below. ih j pl small (omega (arith, below, q)))

    pub shown : (limit : ℕ) (p : Purpose) → Placed p → at xs (node k p) ≤ most → stamp p < limit → Shown p
    shown zero p placed h q = absurd (omega arith)
    shown (suc limit) p placed h q = from_mark limit p placed h q (shown limit) (mark_for k cells ss p) refl
