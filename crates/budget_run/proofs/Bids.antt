-- The bids of a netlist's values, out of the tables: those of gates are their least row sums, and a number that is stored
-- changes none but those of the gates that read its line.
use Rattle.common_laws.proofs.Base.{Bool, List, ◌++◌, List-as-Memᴰ, ◌⊎◌, inl, inr, ◌≡◌, refl, sym, ap, ◌∙◌, subst, ℕ, zero, suc, ◌+◌, ◌-◌, ◌/◌}
use Rattle.common_laws.proofs.Base.{◌%◌, ◌≤◌, ◌<◌, ℕ_discrete, dec_le, arith, lt-ltb, length, get_or, set}
use Rattle.sizes.specs.Sizes as Size
use Rattle.sizes.specs.Places.{leaf_of, leaf_place}
use Rattle.reading.specs.Choice.{pick}
use Rattle.cost.specs.Cost.{never, lesser, counted}
use Rattle.plans.specs.System.{Way, Visit, System, Offers}
use Rattle.plans.specs.Sweep.{at, least}
use Rattle.plans.specs.Exact.{first}
use Rattle.plans.specs.Stages.{all_visits}
use Rattle.plans.specs.Idle.{Needs}
use Rattle.plans.specs.Budget.{fixed, offered, offer, bid, First}
use Rattle.plans.proofs.Laws.{at_set_same, least-bound, bid-kept, offered-one}
use Rattle.library_table.specs.Cells.{Cell}
use Rattle.library_table.specs.Layout.{library_words}
use Rattle.netlist_table.specs.Netlist.{Gate, Statement, gates_of}
use Rattle.netlist_table.specs.Layout.{netlist_words}
use Rattle.netlist_table.specs.Sound.{InRange}
use Rattle.netlist_table.specs.Gates.{gate_line, no_gate}
use Rattle.netlist_table.proofs.HeldGates.{own_line, pin-line}
use Rattle.netlist_table.proofs.Laws.{gate_no_input}
use Rattle.netlist_table.proofs.Places.{netlist-count}
use Rattle.calculation.specs.Nodes.{Kind, combinational, node}
use Rattle.calculation.specs.Nodes as N
use Rattle.calculation.specs.Ways.{cell_of, Role, setting, observing, purpose_of, group_index, pin_line, visit, setting_visits}
use Rattle.calculation.specs.Acceptance.{BothSound}
use Rattle.calculation.specs.Calculation.{stages}
use Rattle.calculation.specs.Prices.{input_cost, prices_of}
use Rattle.calculation.specs.Systems.{system, price_at}
use Rattle.calculation.specs.Budget.{values}
use Rattle.calculation.proofs.Budget.{value-listed, value_of, leaf_node, leaf_value, leaf_placed}
use Rattle.calculation.proofs.Sweeps.{apiece_once}
use Rattle.calculation.proofs.Places.{Placed, node_injective, start-at}
use Rattle.calculation.proofs.Prices.{own-figures}
use Rattle.calculation.proofs.Visits.{getD_listed, listed_at, Has, Visiting, visiting_node, setting-listed}
use Rattle.calculation.proofs.Acceptance.{gate-cell, purpose_placed}
use Rattle.calculation.proofs.Needs.{setting-reads}
use Rattle.calculation.proofs.Bounds.{all_from, all_listed, gates_apiece}
use Rattle.calculation.proofs.PlansAlike.{start_first}
use Rattle.sweep_groups.specs.Tables.{gate_visit}
use Rattle.sweep_groups.proofs.Bridge as B
use Rattle.budget_queue.specs.Queue.{cost_at, Put, NoCost, Front}
use Rattle.budget_run.specs.Steps.{bid_of, LeafAmong, GateBids, Stale, Reads}
use Rattle.budget_run.specs.Queued.{leaf_bid}

-- ---- the bid of a gate's value

module _ (cells : List Cell) (ss : List Statement) (sound : BothSound cells ss) where
  abbrev gs : List Gate
  gs = gates_of ss

  module _ (g : Gate) (listed : List-as-Memᴰ g (gates_of ss)) (e : ℕ) (small : e ≤ 1) where
    abbrev here : Visit
    here = visit combinational cells g (setting e)

    abbrev n : ℕ
    n = node combinational (N.set g.line e)

    placed : Placed (N.set g.line e)
    placed = unfold purpose_of in purpose_placed sound g listed (setting e) small

    here-node : here.node ≡ n
    unfolding visit purpose_of
    here-node = refl

    same-setting : (u : Visit) (h : Gate) (role : Role) → List-as-Memᴰ h gs → Has (cell_of cells h) role → u ≡ visit combinational cells h role → purpose_of h role ≡ N.set g.line e → List-as-Memᴰ u (setting_visits combinational cells gs)
    unfolding purpose_of
    same-setting u h (setting v) m a q p = rw q (setting-listed combinational cells gs h (setting v) m a)
    same-setting u h (observing i) m a q p = let z : ◌≡◌ {A = ℕ} 0 1 = cc in absurd (omega arith)

    -- Every visit to the value has the same ways.
    one-visit : (u : Visit) → List-as-Memᴰ u (all_visits (stages cells gs)) → u.node ≡ here.node → u.ways ≡ here.ways
    one-visit u m q =
        let f : (k : Kind) × Visiting Has k cells gs u = all_from cells gs u m in
        let t = f.1 in
        let p : (f.0 ≡ combinational) × (purpose_of t.gate t.role ≡ N.set g.line e) =
        node_injective f.0 combinational (purpose_of t.gate t.role) (N.set g.line e)
        (purpose_placed sound t.gate t.listed t.role t.allowed) placed (sym (visiting_node t) ∙ q ∙ here-node) in
        apiece_once (setting_visits combinational cells gs) (gates_apiece cells ss sound combinational) u here
        (same-setting u t.gate t.role t.listed t.allowed (t.same ∙ ap (λ (k : Kind). visit k cells t.gate t.role) p.0) p.1)
        (setting-listed combinational cells gs g (setting e) listed small) q

    gate-offered : (xs : List ℕ) → offered (all_visits (stages cells gs)) xs n ≡ least xs here.ways
    gate-offered xs =
        rw here-node at
        (offered-one (all_visits (stages cells gs)) xs here (all_listed cells gs combinational g (setting e) listed small) one-visit)

    gate-unpriced : first (price_at (prices_of ss) ss n) ≡ never
    unfolding pick
    gate-unpriced =
        sym (start_first (prices_of ss) ss (own-figures sound) n) ∙ start-at (prices_of ss) ss combinational (N.set g.line e) placed ∙ ap (λ (b : Bool). pick b (input_cost (prices_of ss) combinational g.line) never) (gate_no_input cells ss sound.netlist g listed)

    lesser-never : (x : ℕ) → x ≤ never → lesser never x ≡ x
    unfolding lesser counted
    lesser-never x h = omega arith

    pub gate-bid : (xs : List ℕ) → bid (system cells ss) xs n ≡ bid_of (at xs n) (least xs here.ways)
    unfolding bid fixed offer bid_of
    gate-bid xs = rw (gate-unpriced, gate-offered xs, lesser-never (least xs here.ways) (least-bound xs here.ways))

-- ---- leaves

leaf_apart : (i j : ℕ) → (i ≡ j → ⊥) → leaf_place i ≡ leaf_place j → ⊥
leaf_apart i j d e = d (omega arith)

-- A search below a bound.
pub search_below : (P : ℕ → Type 0) → ((g : ℕ) → Dec (P g)) → (n : ℕ) → ((g : ℕ) × (g < n) × P g) ⊎ ((g : ℕ) → g < n → P g → ⊥)
search_below P dec zero = inr (λ g h p. omega arith)
search_below P dec (suc n) = more (dec n) (search_below P dec n)
  where
    more : Dec (P n) → ((g : ℕ) × (g < n) × P g) ⊎ ((g : ℕ) → g < n → P g → ⊥) → ((g : ℕ) × (g < suc n) × P g) ⊎ ((g : ℕ) → g < suc n → P g → ⊥)
    more (yes p) r = inl (n, omega arith, p)
    more (no p) (inl t) = inl (t.0, omega (arith, t.1), t.2)
    more (no p) (inr f) = inr (λ g h q. place g h q (ℕ_discrete g n))
      where
        place : (g : ℕ) → g < suc n → P g → Dec (g ≡ n) → ⊥
        place g h q (yes e) = p (subst P e q)
        place g h q (no e) = f g (omega arith) q

-- ---- the tables

module _ (cells : List Cell) (ss : List Statement) (sound : BothSound cells ss) (behind past : List ℕ) where
  abbrev library : List ℕ
  library = library_words cells ++ behind

  abbrev netlist : List ℕ
  netlist = netlist_words ss ++ past

  abbrev gate : ℕ → Gate
  gate i = get_or (gates_of ss) i no_gate

  within-gates : (g : ℕ) → g < get_or netlist 0 0 → g < length (gates_of ss)
  within-gates g h = rw (netlist-count ss past) at h

  gate-listed : (g : ℕ) → g < get_or netlist 0 0 → List-as-Memᴰ (gate g) (gates_of ss)
  gate-listed g h = getD_listed (gates_of ss) g no_gate (within-gates g h)

  line-range : (g : ℕ) → g < get_or netlist 0 0 → Placed (N.set (gate g).line 0)
  line-range g h = unfold purpose_of in purpose_placed sound (gate g) (gate-listed g h) (setting 0) (omega arith)

  pub gate-bids : (xs : List ℕ) → GateBids library netlist xs (leaf_bid cells ss xs)
  gate-bids xs g v h b =
      let line : gate_line netlist g 0 ≡ (gate g).line = own_line sound.netlist past g (within-gates g h) in
      let r : Placed (N.set (gate g).line 0) = line-range g h in
      let low : 1 ≤ (gate g).line = unfold InRange in r.0.0 in
      let q : leaf_place (leaf_of (gate g).line v) ≡ node combinational (N.set (gate g).line v) = leaf_node (gate g).line v low b in
      let w : gate_visit 0 0 library netlist g v ≡ visit combinational cells (gate g) (setting v) =
      unfold group_index in B.visit_is cells ss sound behind past g (within-gates g h) combinational (setting v) b in
      rw (line, w, q) (gate-bid cells ss sound (gate g) (gate-listed g h) v b xs)

  -- ---- which bids a stored number changes

  -- A gate reads the line of a value that one of its ways needs.
  reads : (g : ℕ) (h : g < get_or netlist 0 0) (e l v : ℕ) → Placed (N.set l v) → Needs (visit combinational cells (gate g) (setting e)) (node combinational (N.set l v)) → Reads netlist l g
  unfolding pin_line
  reads g h e l v p d =
      let r = setting-reads combinational cells ss sound (gate g) (gate-listed g h) e l v p d in
      let few : r.0 ≤ Size.pins = omega (arith, r.2, (gate-cell sound (gate g) (gate-listed g h)).header.most-pins) in
      let z : r.0 ≡ r.0 - 1 + 1 = omega (arith, r.1) in
      (r.0, r.1, few, ap (gate_line netlist g) z ∙ pin-line sound.netlist past g (within-gates g h) (r.0 - 1) (omega (arith, r.1, few)) ∙ r.3)

  abbrev Needing : ℕ → ℕ → ℕ → Type 0
  Needing l v n = (g : ℕ) × (g < get_or netlist 0 0) × ((gate g).line ≡ l) × Needs (visit combinational cells (gate g) (setting v)) n

  needing-role : (l v n : ℕ) (w : Way) (h : Gate) (role : Role) → List-as-Memᴰ h (gates_of ss) → purpose_of h role ≡ N.set l v → List-as-Memᴰ w (visit combinational cells h role).ways → List-as-Memᴰ n w.needs → Needing l v n
  unfolding purpose_of
  needing-role l v n w h (setting e) m p a b =
      let line : h.line ≡ l = cc in
      let value : e ≡ v = cc in
      let t : (i : ℕ) × (i < length (gates_of ss)) × (get_or (gates_of ss) i no_gate ≡ h) = listed_at no_gate h (gates_of ss) m in
      (t.0, rw (netlist-count ss past) t.1, ap (λ (x : Gate). x.line) t.2 ∙ line, record { way = w; listed = rw (t.2, ← value) a; among = b })
  needing-role l v n w h (observing i) m p a b = let z : ◌≡◌ {A = ℕ} 0 1 = cc in absurd (omega arith)

  needing : (l v n : ℕ) → Placed (N.set l v) → (w : Way) → Offers (all_visits (stages cells (gates_of ss))) (node combinational (N.set l v)) w → List-as-Memᴰ n w.needs → Needing l v n
  needing l v n placed w o i =
      let f : (k : Kind) × Visiting Has k cells (gates_of ss) o.visit = all_from cells (gates_of ss) o.visit o.listed in
      let t = f.1 in
      let p : (f.0 ≡ combinational) × (purpose_of t.gate t.role ≡ N.set l v) =
      node_injective f.0 combinational (purpose_of t.gate t.role) (N.set l v)
      (purpose_placed sound t.gate t.listed t.role t.allowed) placed (sym (visiting_node t) ∙ o.same) in
      needing-role l v n w t.gate t.role t.listed p.1
      (subst (λ (u : Visit). List-as-Memᴰ w u.ways) (t.same ∙ ap (λ (k : Kind). visit k cells t.gate t.role) p.0) o.among) i

  module _
      (xs q p : List ℕ)
      (j c : ℕ)
      (inside : j < Size.leaves)
      (below : c < never)
      (size : length xs ≡ Size.numbers)
      (bids : (i : ℕ) → i < Size.leaves → cost_at q i ≡ leaf_bid cells ss xs i)
      (put : Put j never q p)
    where
      abbrev ys : List ℕ
      ys = set xs (leaf_place j) c

      abbrev line : ℕ
      line = j / Size.values + 1

      fixed-bid : bid (system cells ss) ys (leaf_place j) ≡ never
      unfolding bid fixed pick
      fixed-bid =
          let e : at ys (leaf_place j) ≡ c = at_set_same xs (leaf_place j) c (omega (arith, size)) in
          rw (lt-ltb (at ys (leaf_place j)) never (omega arith))

      -- A gate that drives the line of a leaf, and reads the line whose number was stored.
      abbrev Asked : ℕ → ℕ → Type 0
      Asked i g = (gate_line netlist g 0 ≡ i / Size.values + 1) × Reads netlist line g

      -- No way of a value that has no such gate needs the number.
      unneeded : (i : ℕ) → i < Size.leaves → ((g : ℕ) → g < get_or netlist 0 0 → Asked i g → ⊥)
          → (w : Way) → Offers (all_visits (stages cells (gates_of ss))) (leaf_place i) w → List-as-Memᴰ (leaf_place j) w.needs → ⊥
      unneeded i h none w o m =
          let t : Needing (i / Size.values + 1) (i % Size.values) (node combinational (N.set line (j % Size.values))) =
          needing (i / Size.values + 1) (i % Size.values) (node combinational (N.set line (j % Size.values))) (leaf_placed i h) w (rw (leaf_value i) at o) (rw (leaf_value j) at m) in
          let r : Reads netlist line t.0 = reads t.0 t.1 (i % Size.values) line (j % Size.values) (leaf_placed j inside) t.3 in
          none t.0 t.1 (own_line sound.netlist past t.0 (within-gates t.0 t.1) ∙ t.2, r)

      reads-or-not : (g : ℕ) → Dec (Reads netlist line g)
      reads-or-not g = from (search_below (λ k. (1 ≤ k) × (gate_line netlist g k ≡ line)) (λ k. pair k (dec_le 1 k) (ℕ_discrete (gate_line netlist g k) line)) (Size.pins + 1))
        where
          pair : (k : ℕ) → Dec (1 ≤ k) → Dec (gate_line netlist g k ≡ line) → Dec ((1 ≤ k) × (gate_line netlist g k ≡ line))
          pair k (yes a) (yes b) = yes (a, b)
          pair k (yes a) (no b) = no (λ t. b t.1)
          pair k (no a) d = no (λ t. a t.0)

          from : ((k : ℕ) × (k < Size.pins + 1) × ((1 ≤ k) × (gate_line netlist g k ≡ line))) ⊎ ((k : ℕ) → k < Size.pins + 1 → (1 ≤ k) × (gate_line netlist g k ≡ line) → ⊥) → Dec (Reads netlist line g)
          from (inl t) = yes (t.0, t.2.0, omega (arith, t.1), t.2.1)
          from (inr f) = no (λ r. f r.0 (omega (arith, r.2)) (r.1, r.3))

      asked-or-not : (i g : ℕ) → Dec (gate_line netlist g 0 ≡ i / Size.values + 1) → Dec (Reads netlist line g) → Dec (Asked i g)
      asked-or-not i g (yes a) (yes b) = yes (a, b)
      asked-or-not i g (yes a) (no b) = no (λ t. b t.1)
      asked-or-not i g (no a) d = no (λ t. a t.0)

      pub stale-after : Stale netlist (Reads netlist line) p (leaf_bid cells ss ys)
      stale-after i h = place (ℕ_discrete i j)
        where
          kept : (i ≡ j → ⊥) → ((g : ℕ) × (g < get_or netlist 0 0) × Asked i g) ⊎ ((g : ℕ) → g < get_or netlist 0 0 → Asked i g → ⊥)
              → (cost_at p i ≡ leaf_bid cells ss ys i) ⊎ LeafAmong netlist (Reads netlist line) i
          kept d (inl t) = inr (record { gate = t.0; value = i % Size.values; inside = t.1; small = omega arith; listed = t.2.1; same = omega (arith, t.2.0) })
          kept d (inr none) =
              inl
              (put.others i h d ∙ bids i h
              ∙ sym (bid-kept (system cells ss) xs (leaf_place j) c (leaf_place i) (leaf_apart i j d) (unneeded i h none)))

          place : Dec (i ≡ j) → (cost_at p i ≡ leaf_bid cells ss ys i) ⊎ LeafAmong netlist (Reads netlist line) i
          place (yes e) = inl (rw e (put.here ∙ sym fixed-bid))
          place (no d) =
              kept d
              (search_below (Asked i) (λ g. asked-or-not i g (ℕ_discrete (gate_line netlist g 0) (i / Size.values + 1)) (reads-or-not g)) (get_or netlist 0 0))

-- ---- from the front of the queue to the cheapest bid

module _ (cells : List Cell) (ss : List Statement) (xs q : List ℕ) (bids : (i : ℕ) → i < Size.leaves → cost_at q i ≡ leaf_bid cells ss xs i) where
  abbrev S : System
  S = system cells ss

  -- The bid of a value is the cost of its leaf.
  value-bid : (l v : ℕ) → Placed (N.set l v) → bid S xs (node combinational (N.set l v)) ≡ cost_at q (leaf_of l v)
  value-bid l v p =
      let low : 1 ≤ l = unfold InRange in p.0.0 in
      let high : l ≤ Size.lines = unfold InRange in p.0.1 in
      rw (← leaf_node l v low p.1) (sym (bids (leaf_of l v) (omega (arith, p.1))))

  value-least : (cost : ℕ) → ((i : ℕ) → i < Size.leaves → cost ≤ cost_at q i) → (m : ℕ) → List-as-Memᴰ m values → cost ≤ bid S xs m
  value-least cost least m i =
      let t = value_of m i in
      let low : t.0 ≤ Size.lines = unfold InRange in t.2.0.1 in
      rw (t.3, value-bid t.0 t.1 t.2) (least (leaf_of t.0 t.1) (omega (arith, t.2.1)))

  pub front-none : NoCost q → (m : ℕ) → List-as-Memᴰ m values → never ≤ bid S xs m
  front-none none = value-least never (λ i h. omega (arith, none i h))

  module _ (leaf cost : ℕ) (front : Front q leaf cost) where
    bid-least : (m : ℕ) → List-as-Memᴰ m values → cost ≤ bid S xs m
    bid-least = value-least cost front.least

    pub front-bid : bid S xs (leaf_place leaf) ≡ cost
    front-bid = sym (bids leaf front.inside) ∙ front.here

    pub front_first : First S xs values (leaf_place leaf)
    front_first =
        record {
          listed = rw (leaf_value leaf) (value-listed (leaf / 2 + 1) (leaf % 2) placed);
          least = λ m i. rw front-bid (bid-least m i);
          lowest = lowest;
        }
      where
        placed : Placed (N.set (leaf / 2 + 1) (leaf % 2))
        placed = unfold InRange in ((omega arith, omega (arith, front.inside)), omega arith)

        lowest : (m : ℕ) → List-as-Memᴰ m values → bid S xs m ≡ bid S xs (leaf_place leaf) → leaf_place leaf ≤ m
        lowest m i e =
            let t = value_of m i in
            let low : 1 ≤ t.0 = unfold InRange in t.2.0.0 in
            let high : t.0 ≤ Size.lines = unfold InRange in t.2.0.1 in
            let q : cost_at q (leaf_of t.0 t.1) ≡ cost = sym (value-bid t.0 t.1 t.2) ∙ ap (bid S xs) (sym t.3) ∙ e ∙ front-bid in
            let f : leaf ≤ leaf_of t.0 t.1 = front.first (leaf_of t.0 t.1) (omega (arith, t.2.1)) q in
            let g : leaf_place (leaf_of t.0 t.1) ≡ m = leaf_node t.0 t.1 low t.2.1 ∙ sym t.3 in
            rw (← g) (omega (arith, t.2.1))
