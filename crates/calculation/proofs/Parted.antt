-- Outputs of two netlists together: a plan that observes goes to one output, which is one of the first or one of the second. So
-- each CO and SO is the lesser of the two, at any prices.
use Rattle.common_laws.proofs.Base.{true, List, [], ◌∷◌, ◌++◌, List-as-Memᴰ, List-Memᴰ-head, List-Memᴰ-tail, cons≢nil, ◌⊎◌, inl, inr, ⊎_elim, ◌≡◌, refl, sym, ◌∙◌, ap}
use Rattle.common_laws.proofs.Base.{ℕ, zero, suc, ◌+◌, ◌≤◌, min, le_of_eq}
use Rattle.reading.specs.Choice.{pick}
use Rattle.reading.proofs.Laws.{by_test}
use Rattle.plans.proofs.Laws.{stands-lesser}
use Rattle.library_table.specs.Cells.{Row, Cell, Column, pin, bit_of, bit, named, pin_columns, observing_columns}
use Rattle.library_table.specs.Cells as C
use Rattle.netlist_table.specs.Netlist.{Gate, Statement, gates_of, is_input, is_output}
use Rattle.calculation.specs.Nodes.{Kind, Purpose, set, observe}
use Rattle.calculation.specs.Prices.{Pricing, Figures}
use Rattle.calculation.specs.Ways.{cell_of, pin_line, asked, setting, observing, group_of, columns_of, named_by, merges, asks}
use Rattle.calculation.specs.Acceptance.{BothSound}
use Rattle.calculation.specs.Added.{OutputsAdded, OutputsParted}
use Rattle.calculation.specs.LinePlans.{Plan, Plan.input, Plan.row, Plan.output, Plan.through, Plans, Plans.done, Plans.also, cost_at, costs_at, ExactAt}
use Rattle.calculation.specs.Between.{number_at}
use Rattle.calculation.proofs.Places.{Placed}
use Rattle.calculation.proofs.Visits.{MayName, asks_named}
use Rattle.calculation.proofs.Exactness.{exact}

-- ---- a plan of one netlist is one of another

-- A purpose that may be carried: to set a line, and to observe one where `Q` holds.
abbrev pub Fine : Type 0 → Purpose → Type 0
Fine Q (set l v) = Unit {0}
Fine Q (observe l) = Q

pub fine : (Q : Type 0) → Q → (p : Purpose) → Fine Q p
fine Q q (set l v) = tt
fine Q q (observe l) = q

-- The columns of a setting row set lines.
fine-set : (Q : Type 0) (g : Gate) (n e : ℕ) (c : Column) → MayName n (setting e) c → Fine Q (asked g c)
unfolding asked
fine-set Q g n e (pin i v) m = tt
fine-set Q g n e (C.output v) m = absurd m
fine-set Q g n e C.observe m = absurd m

-- The same cost, at whatever prices.
abbrev pub Carried : (cells : List Cell) (ss ts : List Statement) (k : Kind) (p : Purpose) → Plan cells ss k p → Type 0
Carried cells ss ts k p d = (e : Plan cells ts k p) × ((price : Pricing) → cost_at price e ≡ cost_at price d)

abbrev pub CarriedAll : (cells : List Cell) (ss ts : List Statement) (k : Kind) (g : Gate) (cs : List Column) → Plans cells ss k g cs → Type 0
CarriedAll cells ss ts k g cs ds = (es : Plans cells ts k g cs) × ((price : Pricing) → costs_at price es ≡ costs_at price ds)

module _ {cells : List Cell} {ss ts : List Statement} {k : Kind} (Q : Type 0)
    (gates : (g : Gate) → List-as-Memᴰ g (gates_of ss) → List-as-Memᴰ g (gates_of ts))
    (inputs : (l : ℕ) → is_input l ss ≡ true → is_input l ts ≡ true)
    (outputs : Q → (l : ℕ) → is_output l ss ≡ true → is_output l ts ≡ true) where
  mutual
    unfolding cost_at

    pub carry : {p : Purpose} (d : Plan cells ss k p) → Fine Q p → Carried cells ss ts k p d
    carry (input {l = l} h e) f = (input h (inputs l e), λ price. refl)
    carry (row {l = l} {e = v} g m e r q u ps) f =
        let t = carry-all ps (λ c i. fine-set Q g (cell_of cells g).pins v c (asks_named g (cell_of cells g) (setting v) r c i)) in
        (row g (gates g m) e r q u t.0, λ price. ap (λ (x : ℕ). r.depth + x) (t.1 price))
    carry (output {l = l} e) f = (output (outputs f l e), λ price. refl)
    carry (through {l = l} g m i b h e r q ps) f =
        let t = carry-all ps (λ c j. fine Q f (asked g c)) in
        (through g (gates g m) i b h e r q t.0, λ price. ap (λ (x : ℕ). r.depth + x) (t.1 price))

    carry-all : {g : Gate} {cs : List Column} (ds : Plans cells ss k g cs) → ((c : Column) → List-as-Memᴰ c cs → Fine Q (asked g c)) → CarriedAll cells ss ts k g cs ds
    carry-all done f = (done, λ price. refl)
    carry-all (also {c = c} d ds) f =
        let t = carry d (f c (List-Memᴰ-head refl)) in
        let s = carry-all ds (λ b i. f b (List-Memᴰ-tail i)) in
        (also t.0 s.0, λ price. rw (t.1 price, s.1 price) refl)

-- ---- "observe the output" comes last, once at most

abbrev pub LastSees : List Column → Type 0
LastSees [] = Unit {0}
LastSees (pin i v ∷ cs) = LastSees cs
LastSees (C.output v ∷ cs) = LastSees cs
LastSees (C.observe ∷ cs) = cs ≡ []

last_named : (n columns : ℕ) (cs : List Column) → LastSees cs → LastSees (named n cs columns)
unfolding named pick
last_named n columns [] h = tt
last_named n columns (pin i v ∷ cs) h =
    by_test (bit columns (bit_of n (pin i v))) (λ t. rw t (last_named n columns cs h)) (λ t. rw t (last_named n columns cs h))
last_named n columns (C.output v ∷ cs) h =
    by_test (bit columns (bit_of n (C.output v))) (λ t. rw t (last_named n columns cs h)) (λ t. rw t (last_named n columns cs h))
last_named n columns (C.observe ∷ cs) h = by_test (bit columns (bit_of n C.observe)) (λ t. rw (t, h)) (λ t. rw (t, h) tt)

last-pins : (n : ℕ) (cs : List Column) → LastSees cs → LastSees (pin_columns n ++ cs)
unfolding pin_columns
last-pins zero cs h = h
last-pins (suc n) cs h = last-pins n cs h

pub asks-last : (g : Gate) (c : Cell) (i : ℕ) (r : Row) → LastSees (asks g c (observing i) r)
unfolding asks merges pick named_by columns_of observing_columns
asks-last g c i r = last_named c.pins r.columns (observing_columns c.pins) (last-pins c.pins (C.output 1 ∷ C.output 0 ∷ C.observe ∷ []) refl)

-- ---- a plan that observes is one of the first or one of the second netlist

abbrev pub Observes : Purpose → Type 0
Observes (set l v) = ⊥
Observes (observe l) = Unit {0}

-- A plan that sets a line is one of any netlist with these gates and inputs, whatever its outputs.
pub sets : {cells : List Cell} {ss ts : List Statement} {k : Kind} → OutputsAdded ss ts → {p : Purpose} (d : Plan cells ts k p) → Fine ⊥ p → Carried cells ts ss k p d
sets added d f = carry ⊥ (λ g m. rw added.gates at m) (λ l e. sym (added.inputs l) ∙ e) (λ z l e. absurd z) d f

-- Before the others of a row, or in the place of its last.
before : {cells : List Cell} {ss ts : List Statement} {k : Kind} → OutputsAdded ss ts → {g : Gate} {c : Column} {cs : List Column}
    (d : Plan cells ts k (asked g c)) → Fine ⊥ (asked g c) → (ds : Plans cells ts k g cs)
    → CarriedAll cells ts ss k g cs ds → CarriedAll cells ts ss k g (c ∷ cs) (also d ds)
unfolding costs_at
before added d f ds s = let t = sets added d f in (also t.0 s.0, λ price. rw (t.1 price, s.1 price) refl)

last : {cells : List Cell} {ss ts : List Statement} {k : Kind} {g : Gate} {c : Column} (d : Plan cells ts k (asked g c))
    → Carried cells ts ss k (asked g c) d → CarriedAll cells ts ss k g (c ∷ []) (also d done)
unfolding costs_at
last d t = (also t.0 done, λ price. rw (t.1 price) refl)

-- Beneath its row.
beneath : {cells : List Cell} {ss ts : List Statement} {k : Kind} → OutputsAdded ss ts → {l : ℕ} (g : Gate) (m : List-as-Memᴰ g (gates_of ts))
    (i : ℕ) (b : 1 ≤ i) (h : i ≤ (cell_of cells g).pins) (e : pin_line g i ≡ l) (r : Row) (q : List-as-Memᴰ r (group_of k (cell_of cells g) (observing i)))
    (ps : Plans cells ts k g (asks g (cell_of cells g) (observing i) r))
    → CarriedAll cells ts ss k g (asks g (cell_of cells g) (observing i) r) ps → Carried cells ts ss k (observe l) (through g m i b h e r q ps)
unfolding cost_at
beneath added g m i b h e r q ps t = (through g (rw added.gates at m) i b h e r q t.0, λ price. ap (λ (x : ℕ). r.depth + x) (t.1 price))

module _ {cells : List Cell} {ss us ts : List Statement} {k : Kind} (parted : OutputsParted ss us ts) where
  mutual
    unfolding cost_at asked

    pub part : {p : Purpose} (d : Plan cells ts k p) → Observes p → Carried cells ts ss k p d ⊎ Carried cells ts us k p d
    part (input h e) o = absurd o
    part (row g m e r q u ps) o = absurd o
    part (output {l = l} e) o = ⊎_elim (λ a. inl (output a, λ price. refl)) (λ a. inr (output a, λ price. refl)) (parted.either l e)
    part (through {l = l} g m i b h e r q ps) o =
        ⊎_elim (λ t. inl (beneath parted.left g m i b h e r q ps t)) (λ t. inr (beneath parted.right g m i b h e r q ps t))
        (part-all ps (asks-last g (cell_of cells g) i r))

    part-all : {g : Gate} {cs : List Column} (ds : Plans cells ts k g cs) → LastSees cs → CarriedAll cells ts ss k g cs ds ⊎ CarriedAll cells ts us k g cs ds
    part-all done h = inl (done, λ price. refl)
    part-all (also {c = pin i v} d ds) h =
        ⊎_elim (λ t. inl (before parted.left d tt ds t)) (λ t. inr (before parted.right d tt ds t)) (part-all ds h)
    part-all (also {c = C.output v} d ds) h =
        ⊎_elim (λ t. inl (before parted.left d tt ds t)) (λ t. inr (before parted.right d tt ds t)) (part-all ds h)
    part-all (also {c = C.observe} d done) h = ⊎_elim (λ t. inl (last d t)) (λ t. inr (last d t)) (part d tt)
    part-all (also {c = C.observe} d (also e es)) h = absurd (cons≢nil h)

-- ---- the numbers

module _ (cells : List Cell) (ss us ts : List Statement) (first : BothSound cells ss) (second : BothSound cells us) (both : BothSound cells ts)
    (parted : OutputsParted ss us ts) (price : Pricing) (figures : Figures price ts) where
  figures-of : (rs : List Statement) → OutputsAdded rs ts → Figures price rs
  figures-of rs added l e = figures l (added.inputs l ∙ e)

  -- A plan with fewer outputs is one with more.
  more : (rs : List Statement) → OutputsAdded rs ts → (k : Kind) (p : Purpose) (d : Plan cells rs k p) → Carried cells rs ts k p d
  more rs added k p d =
      carry (Unit {0}) (λ g m. rw added.gates m) (λ l e. added.inputs l ∙ e) (λ z l e. added.outputs l e) d (fine (Unit {0}) tt p)

  exactly : (rs : List Statement) → OutputsAdded rs ts → BothSound cells rs → (k : Kind) (p : Purpose) → Placed p → ExactAt price cells rs k p (number_at price cells rs k p)
  exactly rs added sound k p placed = exact cells rs sound price (figures-of rs added) k p placed

  -- Each CO and SO is the lesser of the two.
  pub parted-number : (k : Kind) (m : ℕ) → Placed (observe m)
      → number_at price cells ts k (observe m) ≡ min (number_at price cells ss k (observe m)) (number_at price cells us k (observe m))
  parted-number k m placed =
      stands-lesser (λ d. cost_at price d) (λ d. cost_at price d) (λ d. cost_at price d)
      (λ d. ⊎_elim (λ t. inl (t.0, le_of_eq (t.1 price))) (λ t. inr (t.0, le_of_eq (t.1 price))) (part parted d tt))
      (λ d. let t = more ss parted.left k (observe m) d in (t.0, le_of_eq (t.1 price)))
      (λ d. let t = more us parted.right k (observe m) d in (t.0, le_of_eq (t.1 price)))
      _ _ _ (exact cells ts both price figures k (observe m) placed)
      (exactly ss parted.left first k (observe m) placed) (exactly us parted.right second k (observe m) placed)
