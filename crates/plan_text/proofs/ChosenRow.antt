-- What a mark tells: which gate serves a purpose, in which role and by which row, that what the row asks for was last lowered
-- earlier, and that it sums to the number.
use Rattle.common_laws.proofs.Base.{List, List-as-Memᴰ, Memᴰ-map, Memᴰ-of-map, map, ◌⊎◌, inl, inr, Option, none, some, ◌≡◌, refl, sym, ap, subst, ◌∙◌, ℕ, suc, ◌≤◌, ◌<◌}
use Rattle.common_laws.proofs.Base.{arith, length, get_or, length-map}
use Rattle.common_laws.proofs.Lists.{get_d_map}
use Rattle.cost.specs.Cost.{most}
use Rattle.plans.specs.System.{Way, Visit}
use Rattle.plans.specs.Sweep.{at, way, lower}
use Rattle.plans.specs.Trace.{way_at, Mark, Trace, mark_at, SettledBy}
use Rattle.plans.proofs.Laws.{traced_numbers, unmarked-stood, settled_row, way_same}
use Rattle.library_table.specs.Cells.{Row, Cell, no_row, Column, pin, output}
use Rattle.library_table.specs.Cells as C
use Rattle.netlist_table.specs.Netlist.{Gate, Statement, gates_of}
use Rattle.calculation.specs.Prices.{prices_of}
use Rattle.calculation.specs.Nodes.{Kind, Purpose, set, observe, node}
use Rattle.calculation.specs.Ways.{cell_of, pin_line, asked, needs, Role, setting, observing, purpose_of, asks, way_of, ways_of, visit, Turn, setting_turns, observing_turns}
use Rattle.calculation.specs.Acceptance.{BothSound}
use Rattle.calculation.specs.Calculation.{start}
use Rattle.calculation.proofs.Laws.{own-figures}
use Rattle.calculation.proofs.Places.{Placed, node_injective, start-bounded}
use Rattle.calculation.proofs.Visits.{Sets, Observes, Has, sets-has, observes-has, MayName, asks_named, turn_visit, setting-turned, observing-turned}
use Rattle.calculation.proofs.Acceptance.{purpose_placed, asked-placed}
use Rattle.plan_marks.specs.Lowered.{setting_trace, observing_trace, mark_for, turns_for, turn_at}
use Rattle.plan_text.specs.PlanText.{way_rows, visit_of, stamp_of}
use Rattle.plan_marks.proofs.Rest.{visits, most-sweeps, trace-lower, rests, visits-inside}
use Rattle.plan_marks.proofs.Observed as O
use Rattle.plan_marks.proofs.Turned.{Serves, setting-turn, observing-turn, turn-listed, turn-visit}
use Rattle.plan_text.proofs.Times.{timely}

-- A column that a row which sets a value names is a pin.
pub pin_only : (c : Cell) (n : ℕ) (role : Role) (d : Column) → Sets c role → MayName n role d → (i : ℕ) × (v : ℕ) × (d ≡ pin i v)
pin_only c n role (pin i v) s h = (i, v, refl)
pin_only c n (setting e) (output v) s h = absurd h
pin_only c n (observing i) (output v) s h = absurd s
pin_only c n (setting e) C.observe s h = absurd h
pin_only c n (observing i) C.observe s h = absurd s

module _ (cells : List Cell) (ss : List Statement) (sound : BothSound cells ss) (k : Kind) where
  abbrev pub trace : Trace
  trace = setting_trace k cells ss

  -- The numbers behind both runs.
  abbrev pub xs : List ℕ
  xs = (observing_trace k cells ss).numbers

  abbrev gs : List Gate
  gs = gates_of ss

  set_by_lem : (n : ℕ) (m : Mark) → mark_at trace.marks n ≡ some m → at trace.numbers n ≤ most → SettledBy (visits cells ss sound k) (start ss) trace n m
  set_by_lem n m =
      subst (λ (t : Trace). mark_at t.marks n ≡ some m → at t.numbers n ≤ most → SettledBy (visits cells ss sound k) (start ss) t n m)
      (sym (trace-lower cells ss sound k))
      (λ e h.
      settled_row (visits cells ss sound k) (most-sweeps cells ss sound k) (start ss) (start-bounded (prices_of ss) ss (own-figures sound)) (visits-inside cells ss sound k) (rests cells ss sound k) n m e
      (rw (traced_numbers lower (visits cells ss sound k) (most-sweeps cells ss sound k) (start ss)) at h))

  set-unmarked : (n : ℕ) → mark_at trace.marks n ≡ none → at trace.numbers n ≡ at (start ss) n
  set-unmarked n =
      subst (λ (t : Trace). mark_at t.marks n ≡ none → at t.numbers n ≡ at (start ss) n)
      (sym (trace-lower cells ss sound k))
      (λ e.
      ap (λ (xs : List ℕ). at xs n) (traced_numbers lower (visits cells ss sound k) (most-sweeps cells ss sound k) (start ss))
      ∙ unmarked-stood (visits cells ss sound k) (most-sweeps cells ss sound k) (start ss) (start-bounded (prices_of ss) ss (own-figures sound)) (visits-inside cells ss sound k) n e)

  -- A purpose without a mark has the number of the start.
  pub unmarked : (p : Purpose) → Placed p → mark_for k cells ss p ≡ none → at xs (node k p) ≡ at (start ss) (node k p)
  unfolding mark_for
  unmarked (set l v) placed e = O.kept cells ss sound k l v placed ∙ set-unmarked (node k (set l v)) e
  unmarked (observe l) placed e = O.unmarked cells ss sound k l placed e

  -- ---- the gate, the role and the row that a mark tells

  abbrev pub row_of : Gate → Role → Mark → Row
  row_of g role m = get_or (way_rows k cells g role) m.place no_row

  pub record Chosen (has : Cell → Role → Type 0) (ts : List Turn) (p : Purpose) (m : Mark) : Type 0 where
    pub gate : Gate
    pub role : Role
    pub listed : List-as-Memᴰ gate gs
    pub allowed : has (cell_of cells gate) role
    pub turn : turn_at ts m.time ≡ record { gate = gate; role = role }
    pub serves : purpose_of gate role ≡ p
    pub within : m.place < length (way_rows k cells gate role)
    pub taken : m.way ≡ way_of k gate (cell_of cells gate) role (row_of gate role m)

  module _ (p : Purpose) (placed : Placed p) (m : Mark) (has : Cell → Role → Type 0) (has-has : (c : Cell) (role : Role) → has c role → Has c role)
      (ts : List Turn) (serve : (t : Turn) → List-as-Memᴰ t ts → Serves cells has gs t)
      (vs : List Visit) (are : vs ≡ map (turn_visit k cells) ts) (zs : List ℕ) (t : Trace) (s : SettledBy vs zs t (node k p) m) where
    abbrev here : Turn
    here = turn_at ts m.time

    abbrev g : Gate
    g = here.gate

    served : Serves cells has gs here
    served = serve here (turn-listed k cells ts vs are s.visit s.listed m.time)

    visit_is : s.visit ≡ visit k cells g here.role
    visit_is = sym s.turned ∙ turn-visit k cells ts vs are s.visit s.listed m.time

    ways-are : s.visit.ways ≡ map (way_of k g (cell_of cells g) here.role) (way_rows k cells g here.role)
    unfolding visit ways_of way_rows
    ways-are = ap (λ (v : Visit). v.ways) visit_is

    node_is : node k (purpose_of g here.role) ≡ node k p
    unfolding visit
    node_is = sym (ap (λ (v : Visit). v.node) visit_is) ∙ s.same

    short : m.place < length (way_rows k cells g here.role)
    short = rw (← length-map (way_rows k cells g here.role) (way_of k g (cell_of cells g) here.role), ← ways-are) s.within

    chosen_by : Chosen has ts p m
    unfolding way_at
    chosen_by =
        record {
          gate = g;
          role = here.role;
          listed = served.0;
          allowed = served.1;
          turn = refl;
          serves = (node_injective k k (purpose_of g here.role) p (purpose_placed sound g served.0 here.role (has-has (cell_of cells g) here.role served.1)) placed node_is).1;
          within = short;
          taken = sym s.placed ∙ ap (λ (ws : List Way). way_at ws m.place) ways-are ∙ get_d_map (way_of k g (cell_of cells g) here.role) (way_rows k cells g here.role) m.place no_row _ short;
        }

  -- ---- .. and what holds of it

  pub record Told (p : Purpose) (m : Mark) : Type 0 where
    pub chosen : Chosen Has (turns_for cells ss p) p m
    pub sums : way xs m.way ≡ at xs (node k p)
    pub earlier : (d : Column) → List-as-Memᴰ d (asks chosen.gate (cell_of cells chosen.gate) chosen.role (row_of chosen.gate chosen.role m))
        → stamp_of k cells ss (asked chosen.gate d) < stamp_of k cells ss p

  pub needs_of : {has : Cell → Role → Type 0} {ts : List Turn} {p : Purpose} (m : Mark) (c : Chosen has ts p m)
      → m.way.needs ≡ needs k c.gate (asks c.gate (cell_of cells c.gate) c.role (row_of c.gate c.role m))
  unfolding way_of
  needs_of m c = ap (λ (w : Way). w.needs) c.taken

  need-of : {has : Cell → Role → Type 0} {ts : List Turn} {p : Purpose} (m : Mark) (c : Chosen has ts p m) (d : Column)
      → List-as-Memᴰ d (asks c.gate (cell_of cells c.gate) c.role (row_of c.gate c.role m))
      → List-as-Memᴰ (node k (asked c.gate d)) m.way.needs
  unfolding needs
  need-of m c d i =
      subst (λ (ns : List ℕ). List-as-Memᴰ (node k (asked c.gate d)) ns) (sym (needs_of m c)) (Memᴰ-map (λ (x : Column). node k (asked c.gate x)) i)

  -- .. and each node that it needs is one that it asks for.
  asked_of : {has : Cell → Role → Type 0} {ts : List Turn} {p : Purpose} (m : Mark) (c : Chosen has ts p m) (n : ℕ) → List-as-Memᴰ n m.way.needs
      → (d : Column) × List-as-Memᴰ d (asks c.gate (cell_of cells c.gate) c.role (row_of c.gate c.role m)) × (node k (asked c.gate d) ≡ n)
  unfolding needs
  asked_of m c n i =
      Memᴰ-of-map (λ (x : Column). node k (asked c.gate x)) (asks c.gate (cell_of cells c.gate) c.role (row_of c.gate c.role m))
      (subst (λ (ns : List ℕ). List-as-Memᴰ n ns) (needs_of m c) i)

  -- A mark that was made earlier, or none.
  visit-side : (o : Option Mark) (m : Mark) {A : Type 0} → ((o ≡ none) × A) ⊎ ((j : Mark) × (o ≡ some j) × (j.time < m.time)) → visit_of o < suc m.time
  unfolding visit_of
  visit-side o m (inl q) = omega (arith, ap visit_of q.0)
  visit-side o m (inr q) = omega (arith, ap visit_of q.1, q.2)

  marked-visit : (o : Option Mark) (m : Mark) → o ≡ some m → visit_of o ≡ suc m.time
  unfolding visit_of
  marked-visit o m e = rw e refl

  -- Every value was last lowered within the sweeps that set lines.
  set-stamp : (l v : ℕ) → stamp_of k cells ss (set l v) ≤ trace.time
  unfolding stamp_of visit_of mark_for
  set-stamp l v = by (mark_at trace.marks (node k (set l v))) refl
    where
      by : (o : Option Mark) → mark_at trace.marks (node k (set l v)) ≡ o → visit_of (mark_at trace.marks (node k (set l v))) ≤ trace.time
      by none e = rw e (omega arith)
      by (some m) e = rw e (timely cells ss sound k (node k (set l v)) m e)

  -- ---- a line at a value

  module _ (l v : ℕ) (placed : Placed (set l v)) (m : Mark) (e : mark_at trace.marks (node k (set l v)) ≡ some m) (small : at xs (node k (set l v)) ≤ most) where
    abbrev set_by : SettledBy (visits cells ss sound k) (start ss) trace (node k (set l v)) m
    set_by = set_by_lem (node k (set l v)) m e (rw (O.kept cells ss sound k l v placed) at small)

    set_chosen : Chosen Sets (setting_turns gs) (set l v) m
    set_chosen = chosen_by (set l v) placed m Sets sets-has (setting_turns gs) (setting-turn cells gs) (visits cells ss sound k) (setting-turned k cells gs) (start ss) trace set_by

    abbrev set_columns : List Column
    set_columns = asks set_chosen.gate (cell_of cells set_chosen.gate) set_chosen.role (row_of set_chosen.gate set_chosen.role m)

    set-pin : (d : Column) → List-as-Memᴰ d set_columns → (i : ℕ) × (w : ℕ) × (d ≡ pin i w)
    set-pin d i =
        pin_only (cell_of cells set_chosen.gate) (cell_of cells set_chosen.gate).pins set_chosen.role d set_chosen.allowed
        (asks_named set_chosen.gate (cell_of cells set_chosen.gate) set_chosen.role (row_of set_chosen.gate set_chosen.role m) d i)

    set-kept : (d : Column) → List-as-Memᴰ d set_columns → at xs (node k (asked set_chosen.gate d)) ≡ at trace.numbers (node k (asked set_chosen.gate d))
    unfolding asked
    set-kept d i =
        let f = set-pin d i in
        let pl : Placed (asked set_chosen.gate d) =
        asked-placed sound set_chosen.gate set_chosen.listed set_chosen.role d
        (asks_named set_chosen.gate (cell_of cells set_chosen.gate) set_chosen.role (row_of set_chosen.gate set_chosen.role m) d i) in
        by d f.0 f.1 f.2 pl
      where
        by : (d : Column) (j w : ℕ) → d ≡ pin j w → Placed (asked set_chosen.gate d) → at xs (node k (asked set_chosen.gate d)) ≡ at trace.numbers (node k (asked set_chosen.gate d))
        by d j w q pl = rw q (O.kept cells ss sound k (pin_line set_chosen.gate j) w (rw q at pl))

    set-earlier : (d : Column) → List-as-Memᴰ d set_columns → stamp_of k cells ss (asked set_chosen.gate d) < stamp_of k cells ss (set l v)
    unfolding asked stamp_of mark_for
    set-earlier d i = let f = set-pin d i in by d f.0 f.1 f.2 (set_by.earlier (node k (asked set_chosen.gate d)) (need-of m set_chosen d i))
      where
        by : (d : Column) (j w : ℕ) → d ≡ pin j w
            → ((mark_at trace.marks (node k (asked set_chosen.gate d)) ≡ none) × (at trace.numbers (node k (asked set_chosen.gate d)) ≡ at (start ss) (node k (asked set_chosen.gate d))))
            ⊎ ((x : Mark) × (mark_at trace.marks (node k (asked set_chosen.gate d)) ≡ some x) × (x.time < m.time))
            → stamp_of k cells ss (asked set_chosen.gate d) < stamp_of k cells ss (set l v)
        by d j w q r =
            rw (q, marked-visit (mark_at trace.marks (node k (set l v))) m e)
            (visit-side (mark_at trace.marks (node k (set (pin_line set_chosen.gate j) w))) m (rw q at r))

    told-set : Told (set l v) m
    unfolding turns_for
    told-set =
        record {
          chosen =
              record {
                gate = set_chosen.gate;
                role = set_chosen.role;
                listed = set_chosen.listed;
                allowed = sets-has (cell_of cells set_chosen.gate) set_chosen.role set_chosen.allowed;
                turn = set_chosen.turn;
                serves = set_chosen.serves;
                within = set_chosen.within;
                taken = set_chosen.taken;
              };
          sums =
              way_same xs trace.numbers m.way (λ n i. let f = asked_of m set_chosen n i in rw (← f.2) (set-kept f.0 f.1))
              ∙ set_by.sums ∙ sym (O.kept cells ss sound k l v placed);
          earlier = set-earlier;
        }

  -- ---- a line observed

  module _ (l : ℕ) (placed : Placed (observe l)) (m : Mark) (e : mark_at (observing_trace k cells ss).marks (node k (observe l)) ≡ some m) (small : at xs (node k (observe l)) ≤ most) where
    abbrev see_by : SettledBy (O.seeing cells ss sound k) trace.numbers (observing_trace k cells ss) (node k (observe l)) m
    see_by = O.settled_by cells ss sound k (node k (observe l)) m e small

    see_chosen : Chosen Observes (observing_turns cells gs) (observe l) m
    see_chosen = chosen_by (observe l) placed m Observes observes-has (observing_turns cells gs) (observing-turn cells gs) (O.seeing cells ss sound k) (observing-turned k cells gs) trace.numbers (observing_trace k cells ss) see_by

    see_earlier : (d : Column)
        → List-as-Memᴰ d (asks see_chosen.gate (cell_of cells see_chosen.gate) see_chosen.role (row_of see_chosen.gate see_chosen.role m))
        → stamp_of k cells ss (asked see_chosen.gate d) < stamp_of k cells ss (observe l)
    unfolding asked stamp_of mark_for
    see_earlier (pin i v) h = omega (arith, set-stamp (pin_line see_chosen.gate i) v)
    see_earlier (output v) h = omega (arith, set-stamp see_chosen.gate.line v)
    see_earlier C.observe h =
        let o = mark_at (observing_trace k cells ss).marks (node k (observe see_chosen.gate.line)) in
        omega (arith, visit-side o m (see_by.earlier (node k (observe see_chosen.gate.line)) (need-of m see_chosen C.observe h)), marked-visit (mark_at (observing_trace k cells ss).marks (node k (observe l))) m e)

    told-observe : Told (observe l) m
    unfolding turns_for
    told-observe =
        record {
          chosen =
              record {
                gate = see_chosen.gate;
                role = see_chosen.role;
                listed = see_chosen.listed;
                allowed = observes-has (cell_of cells see_chosen.gate) see_chosen.role see_chosen.allowed;
                turn = see_chosen.turn;
                serves = see_chosen.serves;
                within = see_chosen.within;
                taken = see_chosen.taken;
              };
          sums = see_by.sums;
          earlier = see_earlier;
        }

  pub told : (p : Purpose) → Placed p → (m : Mark) → mark_for k cells ss p ≡ some m → at xs (node k p) ≤ most → Told p m
  unfolding mark_for
  told (set l v) placed m e small = told-set l v placed m e small
  told (observe l) placed m e small = told-observe l placed m e small
