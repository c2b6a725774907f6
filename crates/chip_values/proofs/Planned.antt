-- A value that a setting gives a line has a plan: where the values of a gate's pins meet a row, that row is a way, and each
-- line that it asks for has the value asked for.
use Rattle.common_laws.proofs.Base.{Bool, true, false, not, ◌&&◌, List, [], ◌∷◌, map, List-as-Memᴰ, List-Memᴰ-head, List-Memᴰ-tail, List-Memᴰ-not-nil, ◌≡◌, refl, sym, subst, ap, ◌∙◌}
use Rattle.common_laws.proofs.Base.{ℕ, ◌-◌, ◌≤◌, arith, eqb, length, get_or, length-map, eqb-true}
use Rattle.common_laws.proofs.Lists.{get_d_map}
use Rattle.reading.proofs.Laws.{by_test}
use Rattle.library_table.specs.Cells.{Row, Cell, Column, pin, output, observe}
use Rattle.library_table.specs.Library.{any_of}
use Rattle.netlist_table.specs.Netlist.{Gate, Statement, gates_of}
use Rattle.calculation.specs.Acceptance.{BothSound}
use Rattle.calculation.specs.Nodes.{Kind, combinational, Purpose, set}
use Rattle.calculation.specs.Nodes as N
use Rattle.calculation.specs.Ways.{cell_of, pin_line, asked, setting, named_by, merges, same_value, other_value, any_asks, needs_both, asks, is_way}
use Rattle.calculation.specs.LinePlans.{Plan, Plan.input, Plan.row, Plans, Plans.done, Plans.also}
use Rattle.calculation.proofs.Laws.{getD_listed, pin-count}
use Rattle.calculation.proofs.Visits.{MayName, named_may, asks_from}
use Rattle.truth_tables.specs.Tables.{digit}
use Rattle.truth_tables.proofs.Order.{digit-most}
use Rattle.chip_values.specs.Loops.{Feeds, Loopless, Driver, Driver.input, Driver.gate, NoneOpen}
use Rattle.chip_values.specs.Values.{Setting, Values, Tables, Does}
use Rattle.chip_values.proofs.Trails.{by_feeding}
use Rattle.chip_values.proofs.Values.{feeder}
use Rattle.chip_values.proofs.CellRows.{Met, Tells}

-- ---- plans for all that a row asks for

-- The line has the value asked for.
abbrev Holds : Values → Purpose → Type 0
Holds v (N.set l w) = digit (v l) ≡ w
Holds v (N.observe l) = Unit {0}

all-plans : {cells : List Cell} {ss : List Statement} {k : Kind} (g : Gate) (cs : List Column)
    → ((c : Column) → List-as-Memᴰ c cs → Plan cells ss k (asked g c)) → Plans cells ss k g cs
all-plans g [] h = done
all-plans g (c ∷ cs) h = also (h c (List-Memᴰ-head refl)) (all-plans g cs (λ d m. h d (List-Memᴰ-tail m)))

-- ---- a row that values meet is a way: no line has 0 and 1

not-other : (v : Values) (p q : Purpose) → Holds v p → Holds v q → same_value p (other_value q) ≡ false
unfolding same_value other_value
not-other v (N.set l a) (N.set m b) h k =
    by_test (eqb l m)
    (λ t. by_test (eqb a (1 - b))
    (λ u. let same : a ≡ b = sym h ∙ ap (λ (x : ℕ). digit (v x)) (eqb-true l m t) ∙ k in
    let other : a ≡ 1 - b = eqb-true a (1 - b) u in
    absurd (omega arith))
    (λ u. rw (t, u) refl))
    (λ t. rw t refl)
not-other v (N.set l a) (N.observe m) h k = refl
not-other v (N.observe l) (N.set m b) h k = refl
not-other v (N.observe l) (N.observe m) h k = refl

module _ (v : Values) (g : Gate) where
  none_other : (lower : List Column) → ((d : Column) → List-as-Memᴰ d lower → Holds v (asked g d)) → (p : Purpose) → Holds v p → any_asks g lower (other_value p) ≡ false
  unfolding any_asks any_of
  none_other [] h p k = refl
  none_other (d ∷ lower) h p k = rw (not-other v (asked g d) p (h d (List-Memᴰ-head refl)) k) (none_other lower (λ c m. h c (List-Memᴰ-tail m)) p k)

  none_both : (lower cs : List Column) → ((d : Column) → List-as-Memᴰ d lower → Holds v (asked g d)) → ((d : Column) → List-as-Memᴰ d cs → Holds v (asked g d))
      → needs_both g lower cs ≡ false
  unfolding needs_both
  none_both lower [] h k = refl
  none_both lower (c ∷ cs) h k =
      rw (none_other lower h (asked g c) (k c (List-Memᴰ-head refl)))
      (none_both (c ∷ lower) cs both (λ d m. k d (List-Memᴰ-tail m)))
    where
      both : (d : Column) → List-as-Memᴰ d (c ∷ lower) → Holds v (asked g d)
      both d (List-Memᴰ-head e) = subst (λ (x : Column). Holds v (asked g x)) (sym e) (k c (List-Memᴰ-head refl))
      both d (List-Memᴰ-tail m) = h d m

  met-way : (c : Cell) (e : ℕ) (r : Row) → ((d : Column) → List-as-Memᴰ d (named_by c (setting e) r) → Holds v (asked g d)) → is_way g c (setting e) r ≡ true
  unfolding is_way
  met-way c e r h = rw (none_both [] (named_by c (setting e) r) (λ d m. absurd (List-Memᴰ-not-nil m)) h) (side (merges c (setting e)))
    where
      side : (b : Bool) → not (b && false) ≡ true
      side true = refl
      side false = refl

-- ---- the pins of a gate

module _ (cells : List Cell) (ss : List Statement) (sound : BothSound cells ss) (tables : Tables) (free : Loopless ss) (driven : NoneOpen ss)
    (tells : (g : Gate) → List-as-Memᴰ g (gates_of ss) → Tells (cell_of cells g) (tables g)) where
  module _ (g : Gate) (m : List-as-Memᴰ g (gates_of ss)) where
    pub values-count : (v : Values) → length (map v g.pins) ≡ (cell_of cells g).pins
    values-count v = length-map g.pins v ∙ pin-count sound g m

    -- The value of pin i.
    pub pin-value : (v : Values) (i : ℕ) → 1 ≤ i → i ≤ (cell_of cells g).pins → get_or (map v g.pins) (i - 1) false ≡ v (pin_line g i)
    unfolding pin_line
    pin-value v i a b = get_d_map v g.pins (i - 1) 0 false (omega (arith, pin-count sound g m))

    pub pin_feeds : (l : ℕ) → g.line ≡ l → (i : ℕ) → 1 ≤ i → i ≤ (cell_of cells g).pins → Feeds ss (pin_line g i) l
    unfolding pin_line
    pin_feeds l e i a b =
        record { gate = g; listed = m; drives = e; reads = getD_listed g.pins (i - 1) 0 (omega (arith, pin-count sound g m)) }

    -- What a row of the gate's cell names: pins of the gate.
    pub named_pin : (e : ℕ) (r : Row) (d : Column) → List-as-Memᴰ d (named_by (cell_of cells g) (setting e) r) → MayName (cell_of cells g).pins (setting e) d
    named_pin e r d j = named_may (cell_of cells g) (setting e) r d j

    met_holds : (v : Values) (e : Bool) (r : Row) → Met (cell_of cells g) e r (map v g.pins)
        → (d : Column) → List-as-Memᴰ d (named_by (cell_of cells g) (setting (digit e)) r) → MayName (cell_of cells g).pins (setting (digit e)) d
        → Holds v (asked g d)
    unfolding asked
    met_holds v e r h (pin i w) j n = ap digit (sym (pin-value v i n.0 n.1)) ∙ h i w j
    met_holds v e r h (output w) j n = absurd n
    met_holds v e r h observe j n = absurd n

  module _ (s : Setting) (v : Values) (does : Does ss tables s v) where
    abbrev Planned : ℕ → Type 0
    Planned l = Plan cells ss combinational (set l (digit (v l)))

    -- A plan for what a column asks for.
    column-plan : (l : ℕ) → ((k : ℕ) → Feeds ss k l → Driver ss k → Planned k) → (g : Gate) (m : List-as-Memᴰ g (gates_of ss)) → g.line ≡ l
        → (e : ℕ) (d : Column) → MayName (cell_of cells g).pins (setting e) d → Holds v (asked g d) → Plan cells ss combinational (asked g d)
    unfolding asked
    column-plan l rec g m q e (pin i w) n h =
        let fed : Feeds ss (pin_line g i) l = pin_feeds g m l q i n.0 n.1 in
        subst (λ (x : ℕ). Plan cells ss combinational (set (pin_line g i) x)) h
        (rec (pin_line g i) fed (feeder ss tables free driven (pin_line g i) l fed))
    column-plan l rec g m q e (output w) n h = absurd n
    column-plan l rec g m q e observe n h = absurd n

    planned-step : (l : ℕ) → ((k : ℕ) → Feeds ss k l → Driver ss k → Planned k) → Driver ss l → Planned l
    planned-step l rec (input e) = input (digit-most (v l)) e
    planned-step l rec (gate g m q) =
        let c : Cell = cell_of cells g in
        let xs = map v g.pins in
        let t = (tells g m).meets xs (values-count g m v) in
        let r : Row = t.0 in
        let e : ℕ = digit (tables g xs) in
        let holds : (d : Column) → List-as-Memᴰ d (named_by c (setting e) r) → Holds v (asked g d) =
        λ d j. met_holds g m v (tables g xs) r t.2 d j (named_pin g m e r d j) in
        let p : Plan cells ss combinational (set l e) =
        row g m q r t.1 (met-way v g c e r holds)
        (all-plans g (asks g c (setting e) r)
        (λ d j. let n = asks_from g c (setting e) r d j in column-plan l rec g m q e d (named_pin g m e r d n) (holds d n))) in
        subst (λ (x : Bool). Plan cells ss combinational (set l (digit x))) (sym (does.gates g m) ∙ ap v q) p

    -- The value that a setting gives a line can be planned.
    pub planned : (l : ℕ) → Driver ss l → Planned l
    planned = by_feeding ss free (λ (l : ℕ). Driver ss l → Planned l) planned-step
