-- The visits of a sweep: each is one to a gate in a role that its cell has, and what its ways need is what columns ask for.
use Rattle.common_laws.proofs.Base.{Bool, true, false, List, [], ◌∷◌, ◌++◌, map, map-append, List-as-Memᴰ, List-Memᴰ-head, List-Memᴰ-tail, List-Memᴰ-not-nil, List-Memᴰ-append-cases}
use Rattle.common_laws.proofs.Base.{Memᴰ-append-left, Memᴰ-append-right, Memᴰ-map, Memᴰ-of-map, ⊎_elim, ◌≡◌, refl, sym, ◌∙◌, ap, ap₂, ℕ, zero, suc, ◌+◌, ◌*◌, ◌≤◌, ◌<◌, ℕ_discrete}
use Rattle.common_laws.proofs.Base.{arith, length, get_or}
use Rattle.reading.specs.Choice.{pick}
use Rattle.plans.specs.System.{Way, Visit, Offers}
use Rattle.library_table.specs.Cells.{Row, Group, Cell, Column, pin, output, observe, bit_of, pin_columns, setting_columns, observing_columns, bit}
use Rattle.library_table.proofs.Columns.{named_from, named_listed}
use Rattle.netlist_table.specs.Netlist.{Gate}
use Rattle.calculation.specs.Nodes.{Kind, node}
use Rattle.calculation.specs.Ways.{
  cell_of,
  asked,
  needs,
  Role,
  setting,
  observing,
  purpose_of,
  group_of,
  columns_of,
  named_by,
  merges,
  any_asks,
  once,
  asks,
  is_way,
  usable,
  way_of,
  ways_of,
  visit,
  value_roles,
  pin_roles,
  gate_visits,
  setting_visits,
  observing_visits,
  Turn,
  gate_turns,
  setting_turns,
  observing_turns,
}

pub getD_listed : {A : Type 0} (xs : List A) (i : ℕ) (d : A) → i < length xs → List-as-Memᴰ (get_or xs i d) xs
getD_listed [] i d h = absurd (omega arith)
getD_listed (x ∷ xs) zero d h = List-Memᴰ-head refl
getD_listed (x ∷ xs) (suc i) d h = List-Memᴰ-tail (getD_listed xs i d (omega arith))

pub listed_at : {A : Type 0} (d x : A) (xs : List A) → List-as-Memᴰ x xs → (i : ℕ) × (i < length xs) × (get_or xs i d ≡ x)
listed_at d x [] i = elim i [ ]
listed_at d x (y ∷ xs) (List-Memᴰ-head e) = (0, omega arith, sym e)
listed_at d x (y ∷ xs) (List-Memᴰ-tail m) =
    let t : (i : ℕ) × (i < length xs) × (get_or xs i d ≡ x) = listed_at d x xs m in
    (suc t.0, omega (arith, t.1), t.2)

-- ---- the roles that a cell has: those of CC and SC, those of CO and SO, and all

abbrev pub Sets : Cell → Role → Type 0
Sets c (setting e) = e ≤ 1
Sets c (observing i) = ⊥

abbrev pub Observes : Cell → Role → Type 0
Observes c (setting e) = ⊥
Observes c (observing i) = (1 ≤ i) × (i ≤ c.pins)

abbrev pub Has : Cell → Role → Type 0
Has c (setting e) = e ≤ 1
Has c (observing i) = (1 ≤ i) × (i ≤ c.pins)

pub sets-has : (c : Cell) (role : Role) → Sets c role → Has c role
sets-has c (setting e) h = h
sets-has c (observing i) h = absurd h

pub observes-has : (c : Cell) (role : Role) → Observes c role → Has c role
observes-has c (setting e) h = absurd h
observes-has c (observing i) h = h

pub value_from : (c : Cell) (role : Role) → List-as-Memᴰ role value_roles → Sets c role
unfolding value_roles
value_from c role (List-Memᴰ-head e) = rw e (omega arith)
value_from c role (List-Memᴰ-tail (List-Memᴰ-tail i)) = elim i [ ]
value_from c role (List-Memᴰ-tail (List-Memᴰ-head e)) = rw e (omega arith)

value-listed : (c : Cell) (role : Role) → Sets c role → List-as-Memᴰ role value_roles
unfolding value_roles
value-listed c (setting zero) h = List-Memᴰ-head refl
value-listed c (setting (suc zero)) h = List-Memᴰ-tail (List-Memᴰ-head refl)
value-listed c (setting (suc (suc e))) h = absurd (omega arith)
value-listed c (observing i) h = absurd h

pub pins_from : (count i : ℕ) (role : Role) → List-as-Memᴰ role (pin_roles count i) → (j : ℕ) × (i ≤ j) × (j < i + count) × (role ≡ observing j)
unfolding pin_roles
pins_from zero i role m = absurd (List-Memᴰ-not-nil m)
pins_from (suc count) i role (List-Memᴰ-head e) = (i, omega arith, omega arith, e)
pins_from (suc count) i role (List-Memᴰ-tail m) =
    let t : (j : ℕ) × (suc i ≤ j) × (j < suc i + count) × (role ≡ observing j) = pins_from count (suc i) role m in
    (t.0, omega (arith, t.1), omega (arith, t.2), t.3)

pin_from : (c : Cell) (role : Role) → List-as-Memᴰ role (pin_roles c.pins 1) → Observes c role
pin_from c role m =
    let t : (j : ℕ) × (1 ≤ j) × (j < 1 + c.pins) × (role ≡ observing j) = pins_from c.pins 1 role m in
    rw t.3 (t.1, omega (arith, t.2))

pins-listed : (count i j : ℕ) → i ≤ j → j < i + count → List-as-Memᴰ (observing j) (pin_roles count i)
unfolding pin_roles
pins-listed zero i j h l = absurd (omega arith)
pins-listed (suc count) i j h l = here (ℕ_discrete j i) (λ b. pins-listed count (suc i) j b (omega arith))
  where
    here : Dec (j ≡ i) → (suc i ≤ j → List-as-Memᴰ (observing j) (pin_roles count (suc i))) → List-as-Memᴰ (observing j) (observing i ∷ pin_roles count (suc i))
    here (yes e) r = List-Memᴰ-head (ap observing e)
    here (no e) r = List-Memᴰ-tail (r (omega arith))

pin-listed : (c : Cell) (role : Role) → Observes c role → List-as-Memᴰ role (pin_roles c.pins 1)
pin-listed c (setting e) h = absurd h
pin-listed c (observing i) h = pins-listed c.pins 1 i h.0 (omega (arith, h.1))

-- ---- visits

-- A visit to one of the gates, in a role that its cell has.
pub record Visiting (has : Cell → Role → Type 0) (k : Kind) (cells : List Cell) (gs : List Gate) (v : Visit) : Type 0 where
  pub gate : Gate
  pub listed : List-as-Memᴰ gate gs
  pub role : Role
  pub allowed : has (cell_of cells gate) role
  pub same : v ≡ visit k cells gate role

pub visiting_node : {has : Cell → Role → Type 0} {k : Kind} {cells : List Cell} {gs : List Gate} {v : Visit} (t : Visiting has k cells gs v) → v.node ≡ node k (purpose_of t.gate t.role)
unfolding visit
visiting_node t = ap (λ (u : Visit). u.node) t.same

abbrev pub visiting_more : {has more : Cell → Role → Type 0} {k : Kind} {cells : List Cell} {gs : List Gate} {v : Visit} → ((c : Cell) (role : Role) → has c role → more c role) → Visiting has k cells gs v → Visiting more k cells gs v
visiting_more {cells = cells} f t =
    record { gate = t.gate; listed = t.listed; role = t.role; allowed = f (cell_of cells t.gate) t.role t.allowed; same = t.same }

module _ (k : Kind) (cells : List Cell) where
  gate_from : (has : Cell → Role → Type 0) (roles : List Role) (g : Gate) (gs : List Gate) (v : Visit)
      → ((role : Role) → List-as-Memᴰ role roles → has (cell_of cells g) role)
      → List-as-Memᴰ v (gate_visits k cells g roles) → Visiting has k cells (g ∷ gs) v
  unfolding gate_visits
  gate_from has roles g gs v h m =
      let t : (role : Role) × List-as-Memᴰ role roles × (visit k cells g role ≡ v) = Memᴰ-of-map (visit k cells g) roles m in
      record { gate = g; listed = List-Memᴰ-head refl; role = t.0; allowed = h t.0 t.1; same = sym t.2 }

  one_more_lem : {has : Cell → Role → Type 0} {g : Gate} {gs : List Gate} {v : Visit} → Visiting has k cells gs v → Visiting has k cells (g ∷ gs) v
  one_more_lem t = record { gate = t.gate; listed = List-Memᴰ-tail t.listed; role = t.role; allowed = t.allowed; same = t.same }

  gate-listed : (roles : List Role) (g : Gate) (role : Role) → List-as-Memᴰ role roles → List-as-Memᴰ (visit k cells g role) (gate_visits k cells g roles)
  unfolding gate_visits
  gate-listed roles g role m = Memᴰ-map (visit k cells g) m

  pub setting_from : (gs : List Gate) (v : Visit) → List-as-Memᴰ v (setting_visits k cells gs) → Visiting Sets k cells gs v
  unfolding setting_visits
  setting_from [] v m = absurd (List-Memᴰ-not-nil m)
  setting_from (g ∷ gs) v m =
      ⊎_elim (gate_from Sets value_roles g gs v (value_from (cell_of cells g))) (λ i. one_more_lem (setting_from gs v i))
      (List-Memᴰ-append-cases (gate_visits k cells g value_roles) m)

  pub observing_from : (gs : List Gate) (v : Visit) → List-as-Memᴰ v (observing_visits k cells gs) → Visiting Observes k cells gs v
  unfolding observing_visits
  observing_from [] v m = absurd (List-Memᴰ-not-nil m)
  observing_from (g ∷ gs) v m =
      ⊎_elim (λ i. one_more_lem (observing_from gs v i)) (gate_from Observes (pin_roles (cell_of cells g).pins 1) g gs v (pin_from (cell_of cells g)))
      (List-Memᴰ-append-cases (observing_visits k cells gs) m)

  pub setting-listed : (gs : List Gate) (g : Gate) (role : Role) → List-as-Memᴰ g gs → Sets (cell_of cells g) role → List-as-Memᴰ (visit k cells g role) (setting_visits k cells gs)
  unfolding setting_visits
  setting-listed [] g role i s = elim i [ ]
  setting-listed (h ∷ gs) g role (List-Memᴰ-head q) s =
      Memᴰ-append-left {s = gate_visits k cells h value_roles} (setting_visits k cells gs)
      (rw (← q) (gate-listed value_roles g role (value-listed (cell_of cells g) role s)))
  setting-listed (h ∷ gs) g role (List-Memᴰ-tail m) s = Memᴰ-append-right (gate_visits k cells h value_roles) (setting-listed gs g role m s)

  pub observing-listed : (gs : List Gate) (g : Gate) (role : Role) → List-as-Memᴰ g gs → Observes (cell_of cells g) role → List-as-Memᴰ (visit k cells g role) (observing_visits k cells gs)
  unfolding observing_visits
  observing-listed [] g role i s = elim i [ ]
  observing-listed (h ∷ gs) g role (List-Memᴰ-head q) s =
      Memᴰ-append-right (observing_visits k cells gs)
      (rw (← q) (gate-listed (pin_roles (cell_of cells g).pins 1) g role (pin-listed (cell_of cells g) role s)))
  observing-listed (h ∷ gs) g role (List-Memᴰ-tail m) s =
      Memᴰ-append-left (gate_visits k cells h (pin_roles (cell_of cells h).pins 1)) (observing-listed gs g role m s)

  pub setting-length : (gs : List Gate) → length (setting_visits k cells gs) ≡ 2 * length gs
  unfolding setting_visits gate_visits value_roles
  setting-length [] = refl
  setting-length (g ∷ gs) = omega (arith, setting-length gs)

-- ---- the turns of a sweep

abbrev pub turn_visit : Kind → List Cell → Turn → Visit
turn_visit k cells t = visit k cells t.gate t.role

module _ (k : Kind) (cells : List Cell) where
  gate-turned : (g : Gate) (roles : List Role) → gate_visits k cells g roles ≡ map (turn_visit k cells) (gate_turns g roles)
  unfolding gate_visits gate_turns
  gate-turned g [] = refl
  gate-turned g (role ∷ roles) = ap (λ (vs : List Visit). visit k cells g role ∷ vs) (gate-turned g roles)

  pub setting-turned : (gs : List Gate) → setting_visits k cells gs ≡ map (turn_visit k cells) (setting_turns gs)
  unfolding setting_visits setting_turns
  setting-turned [] = refl
  setting-turned (g ∷ gs) =
      ap₂ (λ (us vs : List Visit). us ++ vs) (gate-turned g value_roles) (setting-turned gs)
      ∙ sym (map-append (turn_visit k cells) (gate_turns g value_roles) (setting_turns gs))

  pub observing-turned : (gs : List Gate) → observing_visits k cells gs ≡ map (turn_visit k cells) (observing_turns cells gs)
  unfolding observing_visits observing_turns
  observing-turned [] = refl
  observing-turned (g ∷ gs) =
      ap₂ (λ (us vs : List Visit). us ++ vs) (observing-turned gs) (gate-turned g (pin_roles (cell_of cells g).pins 1))
      ∙ sym (map-append (turn_visit k cells) (observing_turns cells gs) (gate_turns g (pin_roles (cell_of cells g).pins 1)))

-- ---- the ways that visits offer: each is a row of a gate's cell

module _ (g : Gate) (c : Cell) (role : Role) where
  -- The rows that are ways are those of the group that are no row of 0 and 1 of one line.
  pub usable_from : (rs : Group) (r : Row) → List-as-Memᴰ r (usable g c role rs) → List-as-Memᴰ r rs × (is_way g c role r ≡ true)
  unfolding usable pick
  usable_from [] r m = absurd (List-Memᴰ-not-nil m)
  usable_from (x ∷ rs) r m = side (is_way g c role x) refl (usable_from rs r) m
    where
      side : (b : Bool) → is_way g c role x ≡ b → (List-as-Memᴰ r (usable g c role rs) → List-as-Memᴰ r rs × (is_way g c role r ≡ true))
          → List-as-Memᴰ r (pick b (x ∷ usable g c role rs) (usable g c role rs)) → List-as-Memᴰ r (x ∷ rs) × (is_way g c role r ≡ true)
      side true e rec (List-Memᴰ-head q) = (List-Memᴰ-head q, rw q e)
      side true e rec (List-Memᴰ-tail i) = (List-Memᴰ-tail (rec i).0, (rec i).1)
      side false e rec i = (List-Memᴰ-tail (rec i).0, (rec i).1)

  pub usable-listed : (rs : Group) (r : Row) → List-as-Memᴰ r rs → is_way g c role r ≡ true → List-as-Memᴰ r (usable g c role rs)
  unfolding usable pick
  usable-listed [] r i h = elim i [ ]
  usable-listed (x ∷ rs) r (List-Memᴰ-head q) h = rw (ap (is_way g c role) (sym q) ∙ h) (List-Memᴰ-head q)
  usable-listed (x ∷ rs) r (List-Memᴰ-tail m) h = side (is_way g c role x) (usable-listed rs r m h)
    where
      side : (b : Bool) → List-as-Memᴰ r (usable g c role rs) → List-as-Memᴰ r (pick b (x ∷ usable g c role rs) (usable g c role rs))
      side true i = List-Memᴰ-tail i
      side false i = i

pub record Offer (has : Cell → Role → Type 0) (k : Kind) (cells : List Cell) (gs : List Gate) (n : ℕ) (w : Way) : Type 0 where
  pub gate : Gate
  pub listed : List-as-Memᴰ gate gs
  pub role : Role
  pub allowed : has (cell_of cells gate) role
  pub node : n ≡ node k (purpose_of gate role)
  pub row : Row
  pub among : List-as-Memᴰ row (group_of k (cell_of cells gate) role)
  pub is_way : is_way gate (cell_of cells gate) role row ≡ true
  pub same : w ≡ way_of k gate (cell_of cells gate) role row

module _ {has : Cell → Role → Type 0} {k : Kind} {cells : List Cell} {gs : List Gate} {n : ℕ} {w : Way} where
  pub offer : {vs : List Visit} (o : Offers vs n w) → Visiting has k cells gs o.visit → Offer has k cells gs n w
  offer o t =
      let c : Cell = cell_of cells t.gate in
      let f = row t.gate t.role (rw t.same at o.among) in
      let u = usable_from t.gate c t.role (group_of k c t.role) f.0 f.1 in
      record {
        gate = t.gate;
        listed = t.listed;
        role = t.role;
        allowed = t.allowed;
        node = sym o.same ∙ visiting_node t;
        row = f.0;
        among = u.0;
        is_way = u.1;
        same = sym f.2;
      }
    where
      row : (g : Gate) (role : Role) → List-as-Memᴰ w (visit k cells g role).ways → (r : Row) × List-as-Memᴰ r (usable g (cell_of cells g) role (group_of k (cell_of cells g) role)) × (way_of k g (cell_of cells g) role r ≡ w)
      row g role m =
          unfold visit ways_of in
          Memᴰ-of-map (way_of k g (cell_of cells g) role) (usable g (cell_of cells g) role (group_of k (cell_of cells g) role)) m

  -- What such a way needs is what the row's columns ask for.
  pub offer_needs : (o : Offer has k cells gs n w) → w.needs ≡ needs k o.gate (asks o.gate (cell_of cells o.gate) o.role o.row)
  unfolding way_of
  offer_needs o = ap (λ (t : Way). t.needs) o.same

  pub offer-need : (o : Offer has k cells gs n w) (m : ℕ) → List-as-Memᴰ m w.needs → (c : Column) × List-as-Memᴰ c (asks o.gate (cell_of cells o.gate) o.role o.row) × (node k (asked o.gate c) ≡ m)
  unfolding needs
  offer-need o m i =
      Memᴰ-of-map (λ (c : Column). node k (asked o.gate c)) (asks o.gate (cell_of cells o.gate) o.role o.row) (rw (offer_needs o) at i)

-- ---- columns

-- What a row of a cell of n pins may name: one of its pins at 0 or 1, and where it observes, the output too.
abbrev pub MayName : ℕ → Role → Column → Type 0
MayName n role (pin i v) = (1 ≤ i) × (i ≤ n) × (v ≤ 1)
MayName n (setting e) (output v) = ⊥
MayName n (observing i) (output v) = v ≤ 1
MayName n (setting e) observe = ⊥
MayName n (observing i) observe = Unit {0}

pins_named : (m n : ℕ) → m ≤ n → (role : Role) (c : Column) → List-as-Memᴰ c (pin_columns m) → MayName n role c
unfolding pin_columns
pins_named zero n h role c m = absurd (List-Memᴰ-not-nil m)
pins_named (suc m) n h role c (List-Memᴰ-head e) = rw e (omega arith, omega arith, omega arith)
pins_named (suc m) n h role c (List-Memᴰ-tail (List-Memᴰ-head e)) = rw e (omega arith, omega arith, omega arith)
pins_named (suc m) n h role c (List-Memᴰ-tail (List-Memᴰ-tail i)) = pins_named m n (omega arith) role c i

columns_named : (n : ℕ) (role : Role) (c : Column) → List-as-Memᴰ c (columns_of n role) → MayName n role c
unfolding columns_of setting_columns observing_columns
columns_named n (setting e) c m = pins_named n n (omega arith) (setting e) c m
columns_named n (observing i) c m = ⊎_elim (pins_named n n (omega arith) (observing i) c) last (List-Memᴰ-append-cases (pin_columns n) m)
  where
    last : List-as-Memᴰ c (output 1 ∷ output 0 ∷ observe ∷ []) → MayName n (observing i) c
    last (List-Memᴰ-head e) = rw e (omega arith)
    last (List-Memᴰ-tail (List-Memᴰ-head e)) = rw e (omega arith)
    last (List-Memᴰ-tail (List-Memᴰ-tail (List-Memᴰ-tail i))) = elim i [ ]
    last (List-Memᴰ-tail (List-Memᴰ-tail (List-Memᴰ-head e))) = rw e tt

-- What is asked for once is asked for.
once_from : (g : Gate) (lower cs : List Column) (c : Column) → List-as-Memᴰ c (once g lower cs) → List-as-Memᴰ c cs
unfolding once pick
once_from g lower [] c m = m
once_from g lower (d ∷ cs) c m = side (any_asks g lower (asked g d)) (once_from g (d ∷ lower) cs c) m
  where
    side : (b : Bool) → (List-as-Memᴰ c (once g (d ∷ lower) cs) → List-as-Memᴰ c cs)
        → List-as-Memᴰ c (pick b (once g (d ∷ lower) cs) (d ∷ once g (d ∷ lower) cs)) → List-as-Memᴰ c (d ∷ cs)
    side true r i = List-Memᴰ-tail (r i)
    side false r (List-Memᴰ-head e) = List-Memᴰ-head e
    side false r (List-Memᴰ-tail i) = List-Memᴰ-tail (r i)

-- A row asks for none but the columns that it names.
pub asks_from : (g : Gate) (c : Cell) (role : Role) (r : Row) (d : Column) → List-as-Memᴰ d (asks g c role r) → List-as-Memᴰ d (named_by c role r)
unfolding asks pick
asks_from g c role r d m = side (merges c role) m
  where
    side : (b : Bool) → List-as-Memᴰ d (pick b (once g [] (named_by c role r)) (named_by c role r)) → List-as-Memᴰ d (named_by c role r)
    side true i = once_from g [] (named_by c role r) d i
    side false i = i

pub named_may : (c : Cell) (role : Role) (r : Row) (d : Column) → List-as-Memᴰ d (named_by c role r) → MayName c.pins role d
unfolding named_by
named_may c role r d m = columns_named c.pins role d (named_from c.pins (columns_of c.pins role) r.columns d m)

pub asks_named : (g : Gate) (c : Cell) (role : Role) (r : Row) (d : Column) → List-as-Memᴰ d (asks g c role r) → MayName c.pins role d
asks_named g c role r d m = named_may c role r d (asks_from g c role r d m)

-- "CO and SO rows keep document 01's reading."
pub observing_is_way : (g : Gate) (c : Cell) (i : ℕ) (r : Row) → is_way g c (observing i) r ≡ true
unfolding is_way merges
observing_is_way g c i r = refl

-- A row with the bit of "observe the output" asks for it.
pub asks-observe : (g : Gate) (c : Cell) (i : ℕ) (r : Row) → bit r.columns (bit_of c.pins observe) ≡ true → List-as-Memᴰ observe (asks g c (observing i) r)
unfolding asks merges pick named_by columns_of observing_columns
asks-observe g c i r h =
    named_listed c.pins (observing_columns c.pins) r.columns observe h
    (Memᴰ-append-right (pin_columns c.pins) (List-Memᴰ-tail (List-Memᴰ-tail (List-Memᴰ-head refl))))
