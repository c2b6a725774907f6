-- Document 01's plans over cells and statements are the plans of crate `plans` over the ways and visits of the netlist: each
-- gives the other at the same cost.
use Rattle.common_laws.proofs.Base.{Bool, true, false, List, [], ◌∷◌, List-as-Memᴰ, List-Memᴰ-head, List-Memᴰ-tail, Memᴰ-map, nil≢cons, cons≢nil, head-eq_of_cons-eq}
use Rattle.common_laws.proofs.Base.{tail-eq_of_cons-eq, Option, none, some, ◌≡◌, refl, sym, ◌∙◌, ap, ap₂, ℕ, ◌+◌, ◌≤◌, arith, eqb-true, eqb-false, ne_eqb, eqb}
use Rattle.reading.specs.Choice.{pick}
use Rattle.cost.specs.Cost.{most, never, capped}
use Rattle.plans.specs.System.{Way, Offers}
use Rattle.plans.specs.System as General
use Rattle.plans.specs.Sweep.{at}
use Rattle.plans.specs.Exact.{first}
use Rattle.plans.specs.Stages.{all_visits}
use Rattle.library_table.specs.Cells.{Row, Cell, Column}
use Rattle.netlist_table.specs.Netlist.{Gate, Statement, gates_of, is_input, is_output}
use Rattle.calculation.specs.Nodes.{Kind, Purpose, set, observe, node}
use Rattle.calculation.specs.Prices.{Pricing, Figures, input_cost}
use Rattle.calculation.specs.Ways.{cell_of, asked, needs, Role, setting, observing, purpose_of, group_of, asks, is_way, way_of, ways_of, visit}
use Rattle.calculation.specs.Acceptance.{BothSound}
use Rattle.calculation.specs.Calculation.{start_at, stages}
use Rattle.calculation.specs.Systems.{price_of, price_at, system_at}
use Rattle.calculation.specs.LinePlans.{Plan, Plan.input, Plan.row, Plan.output, Plan.through, Plans, Plans.done, Plans.also, cost_at, costs_at}
use Rattle.calculation.proofs.Places.{Placed, node_injective, cost-figure, start-at, start-bounded}
use Rattle.calculation.proofs.Visits.{Has, Visiting, Offer, offer, offer_needs, usable-listed, asks_named, observing_is_way}
use Rattle.netlist_table.specs.Netlist as NL
use Rattle.netlist_table.proofs.Laws.{marked-in-range}
use Rattle.calculation.proofs.Acceptance.{purpose_placed, asked-placed, row_value_lem}
use Rattle.calculation.proofs.Bounds.{all_from, all_listed}

-- ---- the system of a netlist

-- A price where there is one.
price_where : Bool → ℕ → Option ℕ
price_where true c = some c
price_where false c = none

where-some : (b : Bool) (a c : ℕ) → price_where b a ≡ some c → (b ≡ true) × (a ≡ c)
unfolding price_where
where-some true a c e = (refl, cc)
where-some false a c e = (cc, cc)

module _ (price : Pricing) (ss : List Statement) (figures : Figures price ss) where
  pub start_first : (n : ℕ) → at (start_at price ss) n ≡ first (price_at price ss n)
  unfolding price_at price_of first capped
  start_first n = test (eqb (at (start_at price ss) n) never) refl
    where
      test : (b : Bool) → eqb (at (start_at price ss) n) never ≡ b → at (start_at price ss) n ≡ first (price_of b (at (start_at price ss) n))
      test true e = eqb-true (at (start_at price ss) n) never e
      test false e =
          let h : at (start_at price ss) n ≡ never → ⊥ = eqb-false (at (start_at price ss) n) never e in
          let b : at (start_at price ss) n ≤ never = start-bounded price ss figures n in
          omega arith

  -- What a mark prices: an input's values, an output observed.
  price-marked : (n : ℕ) (b : Bool) (c : ℕ) → (b ≡ true → c ≤ most) → at (start_at price ss) n ≡ pick b c never → price_at price ss n ≡ price_where b c
  unfolding price_at price_of price_where pick
  price-marked n true c h e = rw (e, ne_eqb c never (λ q. omega (arith, h refl)))
  price-marked n false c h e = rw e

  price-set : (k : Kind) (l v : ℕ) → Placed (set l v) → price_at price ss (node k (set l v)) ≡ price_where (is_input l ss) (input_cost price k l)
  price-set k l v h = price-marked (node k (set l v)) (is_input l ss) (input_cost price k l) (cost-figure price ss figures k l) (start-at price ss k (set l v) h)

  price-observe : (k : Kind) (l : ℕ) → Placed (observe l) → price_at price ss (node k (observe l)) ≡ price_where (is_output l ss) 0
  price-observe k l h = price-marked (node k (observe l)) (is_output l ss) 0 (λ e. omega arith) (start-at price ss k (observe l) h)

-- ---- from document 01's plans

-- A plan of crate `plans` for the purpose, at a cost.
abbrev Generally : Pricing → List Cell → List Statement → Kind → Purpose → ℕ → Type 0
Generally price cells ss k p c = (q : General.Plan (system_at price cells ss) (node k p)) × (General.cost q ≡ c)

abbrev GenerallyAll : Pricing → List Cell → List Statement → Kind → Gate → List Column → ℕ → Type 0
GenerallyAll price cells ss k g cs c = (q : General.Plans (system_at price cells ss) (needs k g cs)) × (General.costs q ≡ c)

module _ (cells : List Cell) (ss : List Statement) (sound : BothSound cells ss) (price : Pricing) (figures : Figures price ss) where
  from_input : (k : Kind) (l v : ℕ) → v ≤ 1 → is_input l ss ≡ true → Generally price cells ss k (set l v) (input_cost price k l)
  unfolding price_where General.cost
  from_input k l v h e = (General.priced (input_cost price k l) (price-set price ss figures k l v (marked-in-range cells ss sound.netlist NL.input l e, h) ∙ ap (λ (b : Bool). price_where b (input_cost price k l)) e), refl)

  from_output : (k : Kind) (l : ℕ) → is_output l ss ≡ true → Generally price cells ss k (observe l) 0
  unfolding price_where General.cost
  from_output k l e = (General.priced 0 (price-observe price ss figures k l (marked-in-range cells ss sound.netlist NL.output l e) ∙ ap (λ (b : Bool). price_where b 0) e), refl)

  -- A row of a role's group, with plans for all that it asks for.
  from_role : (k : Kind) (g : Gate) → List-as-Memᴰ g (gates_of ss) → (role : Role) → Has (cell_of cells g) role
      → (p : Purpose) → purpose_of g role ≡ p → (r : Row) → List-as-Memᴰ r (group_of k (cell_of cells g) role)
      → is_way g (cell_of cells g) role r ≡ true
      → (c : ℕ) → GenerallyAll price cells ss k g (asks g (cell_of cells g) role r) c → Generally price cells ss k p (r.depth + c)
  unfolding way_of ways_of visit General.cost
  from_role k g m role h p q r i u c t = (
    General.chosen (way_of k g (cell_of cells g) role r)
        (record {
          visit = visit k cells g role;
          listed = all_listed cells (gates_of ss) k g role m h;
          same = ap (node k) q;
          among = Memᴰ-map (way_of k g (cell_of cells g) role) (usable-listed g (cell_of cells g) role (group_of k (cell_of cells g) role) r i u);
        })
        t.0,
    ap (λ (x : ℕ). r.depth + x) t.1,
  )

  from_also : (k : Kind) (g : Gate) (c : Column) (cs : List Column) (a b : ℕ) → Generally price cells ss k (asked g c) a → GenerallyAll price cells ss k g cs b → GenerallyAll price cells ss k g (c ∷ cs) (a + b)
  unfolding needs General.costs
  from_also k g c cs a b s t = (General.also s.0 t.0, ap₂ (λ (x y : ℕ). x + y) s.1 t.1)

  mutual
    unfolding cost_at purpose_of needs General.costs

    pub generally : {k : Kind} {p : Purpose} (d : Plan cells ss k p) → Generally price cells ss k p (cost_at price d)
    generally {k} (input {l = l} {v = v} h e) = from_input k l v h e
    generally {k} (row {l = l} {e = e} g m q r i u ps) =
        from_role k g m (setting e) (row_value_lem sound g m k e r i) (set l e) (ap (λ (x : ℕ). set x e) q) r i u (costs_at price ps) (generally-all ps)
    generally {k} (output {l = l} e) = from_output k l e
    generally {k} (through {l = l} g m i a b q r j ps) =
        from_role k g m (observing i) (a, b) (observe l) (ap observe q) r j (observing_is_way g (cell_of cells g) i r) (costs_at price ps) (generally-all ps)

    pub generally-all : {k : Kind} {g : Gate} {cs : List Column} (ds : Plans cells ss k g cs) → GenerallyAll price cells ss k g cs (costs_at price ds)
    generally-all done = (General.done, refl)
    generally-all {k} (also {g = g} {c = c} {cs = cs} p ps) = from_also k g c cs (cost_at price p) (costs_at price ps) (generally p) (generally-all ps)

-- ---- to document 01's plans

-- A plan of document 01 for the purpose, at a cost.
abbrev Written : Pricing → List Cell → List Statement → Kind → Purpose → ℕ → Type 0
Written price cells ss k p c = (d : Plan cells ss k p) × (cost_at price d ≡ c)

abbrev WrittenAll : Pricing → List Cell → List Statement → Kind → Gate → List Column → ℕ → Type 0
WrittenAll price cells ss k g cs c = (d : Plans cells ss k g cs) × (costs_at price d ≡ c)

-- What each of the columns asks for has a number in the table.
abbrev AllPlaced : Gate → List Column → Type 0
AllPlaced g cs = (c : Column) → List-as-Memᴰ c cs → Placed (asked g c)

module _ (cells : List Cell) (ss : List Statement) (sound : BothSound cells ss) (price : Pricing) (figures : Figures price ss) where
  to-priced : (k : Kind) (p : Purpose) → Placed p → (c : ℕ) → price_at price ss (node k p) ≡ some c → Written price cells ss k p c
  unfolding cost_at
  to-priced k (set l v) h c e =
      let t : (is_input l ss ≡ true) × (input_cost price k l ≡ c) = where-some (is_input l ss) (input_cost price k l) c (sym (price-set price ss figures k l v h) ∙ e) in
      (input h.1 t.0, t.1)
  to-priced k (observe l) h c e =
      let t : (is_output l ss ≡ true) × (0 ≡ c) = where-some (is_output l ss) 0 c (sym (price-observe price ss figures k l h) ∙ e) in
      (output t.0, t.1)

  -- The plans for what a way needs, whatever gate and columns it comes from.
  abbrev Needs : Way → ℕ → Type 0
  Needs w c = (k : Kind) (g : Gate) (cs : List Column) → AllPlaced g cs → w.needs ≡ needs k g cs → WrittenAll price cells ss k g cs c

  by_role_lem : (k : Kind) (g : Gate) → List-as-Memᴰ g (gates_of ss) → (role : Role) → Has (cell_of cells g) role
      → (r : Row) → List-as-Memᴰ r (group_of k (cell_of cells g) role) → is_way g (cell_of cells g) role r ≡ true
      → (c : ℕ) → WrittenAll price cells ss k g (asks g (cell_of cells g) role r) c → Written price cells ss k (purpose_of g role) (r.depth + c)
  unfolding cost_at purpose_of
  by_role_lem k g m (setting e) h r i u c t = (row g m refl r i u t.0, ap (λ (x : ℕ). r.depth + x) t.1)
  by_role_lem k g m (observing j) h r i u c t = (through g m j h.0 h.1 refl r i t.0, ap (λ (x : ℕ). r.depth + x) t.1)

  to-role : (k : Kind) (n : ℕ) (w : Way) (o : Offer Has k cells (gates_of ss) n w) (c : ℕ) → Needs w c → Written price cells ss k (purpose_of o.gate o.role) (w.depth + c)
  unfolding way_of
  to-role k n w o c rec =
      let d : Cell = cell_of cells o.gate in
      let e : w.depth ≡ o.row.depth = ap (λ (t : Way). t.depth) o.same in
      rw e
      (by_role_lem k o.gate o.listed o.role o.allowed o.row o.among o.is_way c
      (rec k o.gate (asks o.gate d o.role o.row)
      (λ b i. asked-placed sound o.gate o.listed o.role b (asks_named o.gate d o.role o.row b i)) (offer_needs o)))

  -- A plan for the purpose that has the node's place is one for the purpose in hand.
  placed-here : (j k : Kind) (q p : Purpose) (c : ℕ) → Placed q → Placed p → node j q ≡ node k p → Written price cells ss j q c → Written price cells ss k p c
  placed-here j k q p c a b e t =
      let h : (j ≡ k) × (q ≡ p) = node_injective j k q p a b e in
      rw (← h.0) (rw (← h.1) t)

  to-chosen : (k : Kind) (p : Purpose) (n : ℕ) → Placed p → n ≡ node k p → (w : Way) → Offers (all_visits (stages cells (gates_of ss))) n w → (c : ℕ) → Needs w c → Written price cells ss k p (w.depth + c)
  to-chosen k p n h e w o c rec =
      let f : (j : Kind) × Visiting Has j cells (gates_of ss) o.visit = all_from cells (gates_of ss) o.visit o.listed in
      let t : Offer Has f.0 cells (gates_of ss) n w = offer o f.1 in
      placed-here f.0 k (purpose_of t.gate t.role) p (w.depth + c) (purpose_placed sound t.gate t.listed t.role t.allowed) h
      (sym t.node ∙ e) (to-role f.0 n w t c rec)

  to-also : (k : Kind) (g : Gate) (c : Column) (cs : List Column) (a b : ℕ) → Written price cells ss k (asked g c) a → WrittenAll price cells ss k g cs b → WrittenAll price cells ss k g (c ∷ cs) (a + b)
  unfolding costs_at
  to-also k g c cs a b s t = (also s.0 t.0, ap₂ (λ (x y : ℕ). x + y) s.1 t.1)

  mutual
    unfolding needs costs_at General.cost

    pub written : {n : ℕ} (q : General.Plan (system_at price cells ss) n) (k : Kind) (p : Purpose) → Placed p → n ≡ node k p → Written price cells ss k p (General.cost q)
    written (General.priced c e) k p h i = to-priced k p h c (rw i at e)
    written (General.chosen {n = n} w o qs) k p h i = to-chosen k p n h i w o (General.costs qs) (λ j g cs a f. written_all qs j g cs a f)

    pub written_all : {ns : List ℕ} (qs : General.Plans (system_at price cells ss) ns) (k : Kind) (g : Gate) (cs : List Column) → AllPlaced g cs → ns ≡ needs k g cs → WrittenAll price cells ss k g cs (General.costs qs)
    written_all General.done k g [] a e = (done, refl)
    written_all General.done k g (c ∷ cs) a e = absurd (nil≢cons e)
    written_all (General.also q qs) k g [] a e = absurd (cons≢nil e)
    written_all (General.also q qs) k g (c ∷ cs) a e =
        to-also k g c cs (General.cost q) (General.costs qs)
        (written q k (asked g c) (a c (List-Memᴰ-head refl)) (head-eq_of_cons-eq e))
        (written_all qs k g cs (λ d m. a d (List-Memᴰ-tail m)) (tail-eq_of_cons-eq e))
