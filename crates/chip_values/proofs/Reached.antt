-- Where each line is read by at most one pin, a value that has a plan is given by a setting: the lines that a row asks for are
-- set one after the other, each by inputs that reach none of the others.
use Rattle.common_laws.proofs.Base.{Bool, true, false, ◌||◌, List, [], ◌∷◌, map, List-as-Memᴰ, List-Memᴰ-head, List-Memᴰ-tail, List-Memᴰ-not-nil, ◌⊎◌, inl, inr, ◌≡◌, refl, sym, subst}
use Rattle.common_laws.proofs.Base.{ap, ap₂, ◌∙◌, ℕ, zero, suc, ◌-◌, ◌≤◌, ◌<◌, arith, eqb, length, get_or, eqb-true, eqb-false, eq-eqb, ne_eqb}
use Rattle.reading.specs.Choice.{pick}
use Rattle.reading.proofs.Laws.{by_test, clash, and_left, and_right}
use Rattle.library_table.specs.Cells.{Row, Cell, Column, pin, output, observe}
use Rattle.library_table.specs.Library.{any_of}
use Rattle.netlist_table.specs.Netlist.{Gate, Statement, gates_of, is_input}
use Rattle.calculation.specs.Acceptance.{BothSound}
use Rattle.calculation.specs.Nodes.{Kind, combinational, Purpose, set}
use Rattle.calculation.specs.Nodes as N
use Rattle.calculation.specs.Ways.{cell_of, pin_line, asked, Role, setting, group_of, named_by, merges, same_value, any_asks, once, asks}
use Rattle.calculation.specs.LinePlans.{Plan, Plan.input, Plan.row, Plans, Plans.done, Plans.also}
use Rattle.calculation.proofs.Laws.{pin-count}
use Rattle.calculation.proofs.Visits.{MayName}
use Rattle.truth_tables.specs.Tables.{digit}
use Rattle.chip_values.specs.Loops.{Feeds, Loopless, Driver, NoneOpen, ReadOnce}
use Rattle.chip_values.specs.Values.{Setting, Values, Tables, Does}
use Rattle.chip_values.proofs.Trails.{by_feeding}
use Rattle.chip_values.proofs.Values.{Reaches, reaches_more, feeder, agree, one_value_lem}
use Rattle.chip_values.proofs.Paths.{parted, pins_differ_lem}
use Rattle.chip_values.proofs.CellRows.{Met, Tells}
use Rattle.chip_values.proofs.Planned.{values-count, pin-value, pin_feeds, named_pin}

-- ---- the plan for a column that a row asks for

plan-among : {cells : List Cell} {ss : List Statement} {k : Kind} (g : Gate) (cs : List Column) → Plans cells ss k g cs
    → (c : Column) → List-as-Memᴰ c cs → Plan cells ss k (asked g c)
plan-among g [] done c m = absurd (List-Memᴰ-not-nil m)
plan-among {cells} {ss} {k} g (d ∷ cs) (also p ps) c (List-Memᴰ-head e) = subst (λ (x : Column). Plan cells ss k (asked g x)) (sym e) p
plan-among g (d ∷ cs) (also p ps) c (List-Memᴰ-tail m) = plan-among g cs ps c m

same-value : (p q : Purpose) → same_value p q ≡ true → p ≡ q
unfolding same_value
same-value (N.set l v) (N.set m w) h =
    by_test (eqb l m)
    (λ t. by_test (eqb v w) (λ u. ap₂ N.set (eqb-true l m t) (eqb-true v w u)) (λ u. clash false (rw (t, u) at h) refl))
    (λ t. clash false (rw t at h) refl)
same-value (N.set l v) (N.observe m) h = clash false h refl
same-value (N.observe l) q h = clash false h refl

-- What a column asks for a lower one asks for, or one that is left.
abbrev Asked : Gate → List Column → List Column → Column → Type 0
Asked g lower left c = (any_asks g lower (asked g c) ≡ true) ⊎ ((d : Column) × List-as-Memᴰ d left × (asked g d ≡ asked g c))

once-asked : (g : Gate) (lower cs : List Column) (c : Column) → List-as-Memᴰ c cs → Asked g lower (once g lower cs) c
unfolding once pick
once-asked g lower [] c m = elim m [ ]
once-asked g lower (x ∷ cs) c (List-Memᴰ-head e) = here (any_asks g lower (asked g x)) refl
  where
    here : (b : Bool) → any_asks g lower (asked g x) ≡ b → Asked g lower (pick b (once g (x ∷ lower) cs) (x ∷ once g (x ∷ lower) cs)) c
    here true t = inl (rw e t)
    here false t = inr (x, List-Memᴰ-head refl, ap (asked g) (sym e))
once-asked g lower (x ∷ cs) c (List-Memᴰ-tail m) = later (any_asks g lower (asked g x)) refl (once-asked g (x ∷ lower) cs c m)
  where
    same : (b : Bool) → any_asks g lower (asked g x) ≡ b → asked g x ≡ asked g c → Asked g lower (pick b (once g (x ∷ lower) cs) (x ∷ once g (x ∷ lower) cs)) c
    same true t e = inl (rw (← e) t)
    same false t e = inr (x, List-Memᴰ-head refl, e)

    later : (b : Bool) → any_asks g lower (asked g x) ≡ b → Asked g (x ∷ lower) (once g (x ∷ lower) cs) c
        → Asked g lower (pick b (once g (x ∷ lower) cs) (x ∷ once g (x ∷ lower) cs)) c
    later true t (inr d) = inr d
    later false t (inr d) = inr (d.0, List-Memᴰ-tail d.1, d.2)
    later b t (inl a) =
        by_test (same_value (asked g x) (asked g c))
        (λ s. same b t (same-value (asked g x) (asked g c) s))
        (λ s. inl (unfold any_asks any_of in rw s at a))

-- The plan for a column that a row names.
plan_named : {cells : List Cell} {ss : List Statement} {k : Kind} (g : Gate) (c : Cell) (role : Role) (r : Row) → Plans cells ss k g (asks g c role r)
    → (d : Column) → List-as-Memᴰ d (named_by c role r) → Plan cells ss k (asked g d)
unfolding asks pick
plan_named {cells} {ss} {k} g c role r ps d m = side (merges c role) ps
  where
    side : (b : Bool) → Plans cells ss k g (pick b (once g [] (named_by c role r)) (named_by c role r)) → Plan cells ss k (asked g d)
    side false ps = plan-among g (named_by c role r) ps d m
    side true ps = found (once-asked g [] (named_by c role r) d m)
      where
        found : Asked g [] (once g [] (named_by c role r)) d → Plan cells ss k (asked g d)
        found (inl a) = clash false (unfold any_asks any_of in a) refl
        found (inr x) = subst (λ (p : Purpose). Plan cells ss k p) x.2 (plan-among g (once g [] (named_by c role r)) ps x.0 x.1)

-- ---- whether columns name a pin

Names : ℕ → List Column → Type 0
Names i cs = ((v : ℕ) × List-as-Memᴰ (pin i v) cs) ⊎ ((v : ℕ) → List-as-Memᴰ (pin i v) cs → ⊥)

names_more : (i : ℕ) (d : Column) (cs : List Column) → ((v : ℕ) → pin i v ≡ d → ⊥) → Names i cs → Names i (d ∷ cs)
unfolding Names
names_more i d cs n (inl (v, m)) = inl (v, List-Memᴰ-tail m)
names_more i d cs n (inr h) = inr (λ v m. neither v m)
  where
    neither : (v : ℕ) → List-as-Memᴰ (pin i v) (d ∷ cs) → ⊥
    neither v (List-Memᴰ-head e) = n v e
    neither v (List-Memᴰ-tail m) = h v m

names : (i : ℕ) (cs : List Column) → Names i cs
unfolding Names
names i [] = inr (λ v m. List-Memᴰ-not-nil m)
names i (pin j w ∷ cs) =
    by_test (eqb j i)
    (λ t. inl (w, List-Memᴰ-head (ap (λ (x : ℕ). pin x w) (sym (eqb-true j i t)))))
    (λ t. names_more i (pin j w) cs (λ v e. eqb-false j i t cc) (names i cs))
names i (output w ∷ cs) = names_more i (output w) cs (λ v e. let z : ◌≡◌ {A = ℕ} 0 1 = cc in absurd (omega arith)) (names i cs)
names i (observe ∷ cs) = names_more i observe cs (λ v e. let z : ◌≡◌ {A = ℕ} 0 1 = cc in absurd (omega arith)) (names i cs)

-- ---- settings changed in part

-- A setting at which the values are as wanted, and which is s but for some lines.
pub record Changed (ss : List Statement) (tables : Tables) (reached : ℕ → Type 0) (s : Setting) (wanted : Values → Type 0) : Type 0 where
  pub setting : Setting
  pub values : Values
  pub does : Does ss tables setting values
  pub met : wanted values
  pub kept : (k : ℕ) → (reached k → ⊥) → setting k ≡ s k

bool_of : (b : ℕ) → b ≤ 1 → (x : Bool) × (digit x ≡ b)
unfolding digit
bool_of zero h = (false, refl)
bool_of (suc zero) h = (true, refl)
bool_of (suc (suc b)) h = absurd (omega arith)

module _ (cells : List Cell) (ss : List Statement) (sound : BothSound cells ss) (tables : Tables) (free : Loopless ss) (driven : NoneOpen ss)
    (tells : (g : Gate) → List-as-Memᴰ g (gates_of ss) → Tells (cell_of cells g) (tables g)) (single : ReadOnce ss) where
  -- Line l can be given the value x, whatever the setting was, by inputs that reach it.
  abbrev Reachable : ℕ → Bool → Type 0
  Reachable l x = (s : Setting) (v : Values) → Does ss tables s v → Changed ss tables (λ k. Reaches ss k l) s (λ w. w l ≡ x)

  input-changed : (l : ℕ) (x : Bool) → is_input l ss ≡ true → Reachable l x
  input-changed l x e s v d =
      let t : Setting = λ k. pick (eqb k l) x (s k) in
      let o = one_value_lem ss tables free driven cells sound.netlist t in
      record {
        setting = t;
        values = o.values;
        does = o.given;
        met = o.given.inputs l e ∙ (unfold pick in rw (eq-eqb l l refl) refl);
        kept = λ k n. unfold pick in rw (ne_eqb k l (λ q. n (inl q))) refl;
      }

  module _ (g : Gate) (m : List-as-Memᴰ g (gates_of ss)) (e : Bool) (r : Row)
      (among : List-as-Memᴰ r (group_of combinational (cell_of cells g) (setting (digit e))))
      (plans : (i w : ℕ) → List-as-Memᴰ (pin i w) (named_by (cell_of cells g) (setting (digit e)) r) → Plan cells ss combinational (set (pin_line g i) w))
      (reach : (i : ℕ) → 1 ≤ i → i ≤ (cell_of cells g).pins → (x : Bool) → Plan cells ss combinational (set (pin_line g i) (digit x)) → Reachable (pin_line g i) x) where
    abbrev cell : Cell
    cell = cell_of cells g

    abbrev columns : List Column
    columns = named_by cell (setting (digit e)) r

    named : (i w : ℕ) → List-as-Memᴰ (pin i w) columns → MayName cell.pins (setting (digit e)) (pin i w)
    named i w n = named_pin cells ss sound tables free driven tells g m (digit e) r (pin i w) n

    -- The first j pins have the values that the row names.
    abbrev Held : ℕ → Values → Type 0
    Held j v = (i w : ℕ) → i ≤ j → List-as-Memᴰ (pin i w) columns → digit (v (pin_line g i)) ≡ w

    -- A line that reaches one of the first j pins.
    abbrev Behind : ℕ → ℕ → Type 0
    Behind j k = (i : ℕ) × (1 ≤ i) × (i ≤ j) × Reaches ss k (pin_line g i)

    abbrev HeldFrom : ℕ → Setting → Type 0
    HeldFrom j s = Changed ss tables (Behind j) s (Held j)

    -- The values of the pins before stay when the inputs that reach pin i change.
    stays : (i j : ℕ) → 1 ≤ i → i ≤ cell.pins → 1 ≤ j → j ≤ cell.pins → (i ≡ j → ⊥) → (s t : Setting) (v w : Values)
        → Does ss tables s v → Does ss tables t w → ((k : ℕ) → (Reaches ss k (pin_line g j) → ⊥) → t k ≡ s k) → w (pin_line g i) ≡ v (pin_line g i)
    unfolding pin_line
    stays i j a b c d n s t v w p q kept =
        let fi : Feeds ss (pin_line g i) g.line = pin_feeds cells ss sound tables free driven tells g m g.line refl i a b in
        let fj : Feeds ss (pin_line g j) g.line = pin_feeds cells ss sound tables free driven tells g m g.line refl j c d in
        let differ : pin_line g i ≡ pin_line g j → ⊥ =
        λ u. let z = pins_differ_lem ss free single g m (i - 1) (j - 1) (omega (arith, pin-count sound g m)) (omega (arith, pin-count sound g m)) u in
        n (omega (arith, z)) in
        agree ss tables free driven t s w v q p (pin_line g i) (feeder ss tables free driven (pin_line g i) g.line fi)
        (λ k reaches inp. kept k (λ other. parted ss free single k (pin_line g i) (pin_line g j) g.line fi fj differ reaches other))

    more-held : (j : ℕ) → suc j ≤ cell.pins → (s : Setting) → HeldFrom j s → Names (suc j) columns → HeldFrom (suc j) s
    unfolding Names
    more-held j h s c (inr none) =
        record {
          setting = c.setting;
          values = c.values;
          does = c.does;
          met = λ i w a n. by_test (eqb i (suc j))
              (λ t. absurd (none w (subst (λ (x : ℕ). List-as-Memᴰ (pin x w) columns) (eqb-true i (suc j) t) n)))
              (λ t. c.met i w (omega (arith, eqb-false i (suc j) t)) n);
          kept = λ k n. c.kept k (λ b. n (b.0, b.1, omega (arith, b.2), b.3));
        }
    more-held j h s c (inl (b, n)) =
        let may : MayName cell.pins (setting (digit e)) (pin (suc j) b) = named (suc j) b n in
        let x = bool_of b may.2 in
        let p : Plan cells ss combinational (set (pin_line g (suc j)) (digit x.0)) =
        subst (λ (y : ℕ). Plan cells ss combinational (set (pin_line g (suc j)) y)) (sym x.1) (plans (suc j) b n) in
        let d = reach (suc j) may.0 h x.0 p c.setting c.values c.does in
        record {
          setting = d.setting;
          values = d.values;
          does = d.does;
          met = λ i w a o. by_test (eqb i (suc j))
              (λ t. let q : i ≡ suc j = eqb-true i (suc j) t in
              let here : List-as-Memᴰ (pin (suc j) w) columns = subst (λ (y : ℕ). List-as-Memᴰ (pin y w) columns) q o in
              ap (λ (y : ℕ). digit (d.values (pin_line g y))) q ∙ ap digit d.met ∙ x.1 ∙ (tells g m).single e r among (suc j) b w n here)
              (λ t. let other = eqb-false i (suc j) t in
              ap digit (stays i (suc j) (named i w o).0 (named i w o).1 may.0 h other c.setting d.setting c.values d.values c.does d.does d.kept)
              ∙ c.met i w (omega (arith, other)) o);
          kept = λ k o. d.kept k (λ z. o (suc j, may.0, omega arith, z)) ∙ c.kept k (λ z. o (z.0, z.1, omega (arith, z.2), z.3));
        }

    held : (j : ℕ) → j ≤ cell.pins → (s : Setting) (v : Values) → Does ss tables s v → HeldFrom j s
    held zero h s v d =
        record {
          setting = s;
          values = v;
          does = d;
          met = λ i w a n. absurd (omega (arith, a, (named i w n).0));
          kept = λ k n. refl;
        }
    held (suc j) h s v d = more-held j h s (held j (omega arith) s v d) (names (suc j) columns)

    row_reached : Reachable g.line e
    row_reached s v d =
        let c = held cell.pins (omega arith) s v d in
        let xs = map c.values g.pins in
        record {
          setting = c.setting;
          values = c.values;
          does = c.does;
          met = c.does.gates g m
              ∙ (tells g m).gives xs (values-count cells ss sound tables free driven tells g m c.values) e r among
              (λ i w n. let may = named i w n in
              ap digit (pin-value cells ss sound tables free driven tells g m c.values i may.0 may.1) ∙ c.met i w may.1 n);
          kept = λ k n. c.kept k
              (λ z. n (inr (reaches_more ss k (pin_line g z.0) g.line z.3
              (pin_feeds cells ss sound tables free driven tells g m g.line refl z.0 z.1 z.2))));
        }

  reached-step : (l : ℕ) → ((k : ℕ) → Feeds ss k l → (x : Bool) → Plan cells ss combinational (set k (digit x)) → Reachable k x)
      → (e : ℕ) (x : Bool) → e ≡ digit x → Plan cells ss combinational (set l e) → Reachable l x
  unfolding asked
  reached-step l rec e x q (input h i) = input-changed l x i
  reached-step l rec e x q (row g m d r i w ps) =
      let plans = plan_named g (cell_of cells g) (setting e) r ps in
      subst (λ (y : ℕ). Reachable y x) d
      (row_reached g m x r (rw q at i)
      (λ j w n. plans (pin j w) (rw q n))
      (λ j a b. rec (pin_line g j) (pin_feeds cells ss sound tables free driven tells g m l d j a b)))

  pub reached : (l : ℕ) (x : Bool) → Plan cells ss combinational (set l (digit x)) → Reachable l x
  reached =
      by_feeding ss free (λ (l : ℕ). (x : Bool) → Plan cells ss combinational (set l (digit x)) → Reachable l x)
      (λ l rec x p. reached-step l rec (digit x) x refl p)
