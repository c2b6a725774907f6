-- The start of a run, and its steps one after the other.
use Rattle.common_laws.proofs.Base.{false, List, ◌⊎◌, inl, inr, ◌≡◌, refl, sym, ap, ◌∙◌, subst, ℕ, suc, ◌+◌, ◌/◌, ◌%◌, ◌≤◌, ◌<◌, ℕ_discrete, dec_lt, add-one, arith, length, get_or}
use Rattle.common_laws.proofs.Base.{replicate, length-replicate, List-get_or-eq-default}
use Rattle.std.proofs.Common.{Some, None}
use Rattle.sizes.specs.Sizes as Size
use Rattle.sizes.specs.Places.{leaf_place}
use Rattle.reading.specs.Choice.{pick}
use Rattle.cost.specs.Cost.{never, lesser, counted}
use Rattle.plans.specs.System.{System}
use Rattle.plans.specs.Sweep.{at, Visited}
use Rattle.plans.specs.Stages.{all_visits}
use Rattle.plans.specs.Budget.{fixed, offer, bid, Budgeted, unbegun, step, budgeted}
use Rattle.plans.proofs.Laws.{at_getD, at_none, offered-none, idle-same}
use Rattle.library_table.specs.Cells.{Cell}
use Rattle.netlist_table.specs.Netlist.{Gate, Statement, gates_of}
use Rattle.netlist_table.specs.Gates.{gate_line, no_gate}
use Rattle.netlist_table.proofs.HeldGates.{own_line}
use Rattle.netlist_table.proofs.Places.{netlist-count}
use Rattle.calculation.specs.Nodes.{Kind, combinational, node}
use Rattle.calculation.specs.Nodes as N
use Rattle.calculation.specs.Ways.{Role, setting, observing, purpose_of}
use Rattle.calculation.specs.Calculation.{start, stages}
use Rattle.calculation.specs.Prices.{prices_of}
use Rattle.calculation.specs.Systems.{system}
use Rattle.calculation.specs.Budget.{values, best_within}
use Rattle.calculation.specs.Stored.{Holds}
use Rattle.calculation.proofs.Budget.{leaf_value, leaf_placed}
use Rattle.calculation.proofs.Places.{Placed, node_injective, start-length, start-bounded}
use Rattle.calculation.proofs.Prices.{own-figures}
use Rattle.calculation.proofs.Visits.{listed_at, Has, Visiting, visiting_node}
use Rattle.calculation.proofs.Acceptance.{purpose_placed}
use Rattle.calculation.proofs.Bounds.{all_from}
use Rattle.calculation.proofs.PlansAlike.{start_first}
use Rattle.sweep_start.specs.Start.{lines_start}
use Rattle.sweep_runs.proofs.Bridge.{start_is}
use Rattle.budget_queue.specs.Queue.{cost_at, NoCost, Put}
use Rattle.budget_run.specs.Steps.{LeafAmong, Stale, Fresh, AnyGate}
use Rattle.budget_run.specs.Queued.{leaf_bid, Matches, PricesFit, Priced, Made, Stepped, RanWithin}
use Rattle.budget_run.proofs.Bids.{search_below}
use Rattle.budget_run.proofs.Step.{held-bids}

abbrev none : List ℕ
none = replicate Size.numbers never

module _ {library netlist : List ℕ} {cells : List Cell} {ss : List Statement} (h : Holds library netlist cells ss) where
  -- A value that is visited has its gate.
  driven : (l v : ℕ) → Placed (N.set l v) → Visited (all_visits (stages cells (gates_of ss))) (node combinational (N.set l v)) → (g : ℕ) × (g < length (gates_of ss)) × ((get_or (gates_of ss) g no_gate).line ≡ l)
  driven l v placed s =
      let f : (k : Kind) × Visiting Has k cells (gates_of ss) s.visit = all_from cells (gates_of ss) s.visit s.listed in
      let t = f.1 in
      let p : (f.0 ≡ combinational) × (purpose_of t.gate t.role ≡ N.set l v) =
      node_injective f.0 combinational (purpose_of t.gate t.role) (N.set l v)
      (purpose_placed h.sound t.gate t.listed t.role t.allowed) placed (sym (visiting_node t) ∙ s.same) in
      let i : (i : ℕ) × (i < length (gates_of ss)) × (get_or (gates_of ss) i no_gate ≡ t.gate) = listed_at no_gate t.gate (gates_of ss) t.listed in
      (i.0, i.1, ap (λ (x : Gate). x.line) i.2 ∙ line t.gate t.role p.1)
    where
      line : (g : Gate) (role : Role) → purpose_of g role ≡ N.set l v → g.line ≡ l
      line g (setting e) q = unfold purpose_of in cc
      line g (observing i) q = unfold purpose_of in cc

  held-count : get_or netlist 0 0 ≡ length (gates_of ss)
  held-count = rw h.statements_stand (netlist-count ss h.past)

  held-line : (g : ℕ) → g < get_or netlist 0 0 → gate_line netlist g 0 ≡ (get_or (gates_of ss) g no_gate).line
  held-line g b = rw h.statements_stand (own_line h.sound.netlist h.past g (rw held-count at b))

  abbrev S : System
  S = system cells ss

  lesser-never : (x : ℕ) → x ≤ never → lesser x never ≡ x
  unfolding lesser counted
  lesser-never x b = omega arith

  first_bid : (n : ℕ) → (Visited (all_visits (stages cells (gates_of ss))) n → ⊥) → bid S none n ≡ at (start ss) n
  unfolding bid fixed pick offer
  first_bid n u =
      rw (at_none Size.numbers n, offered-none (all_visits (stages cells (gates_of ss))) none n u, ← start_first (prices_of ss) ss (own-figures h.sound) n) (lesser-never (at (start ss) n) (start-bounded (prices_of ss) ss (own-figures h.sound) n))

  pub stale-start : {prices q : List ℕ} → prices ≡ start ss → Priced prices q → Stale netlist AnyGate q (leaf_bid cells ss none)
  stale-start {prices} {q} e p i l =
      found (search_below (λ g. gate_line netlist g 0 ≡ i / Size.values + 1) (λ g. ℕ_discrete (gate_line netlist g 0) (i / Size.values + 1)) (get_or netlist 0 0))
    where
      found : ((g : ℕ) × (g < get_or netlist 0 0) × (gate_line netlist g 0 ≡ i / Size.values + 1)) ⊎ ((g : ℕ) → g < get_or netlist 0 0 → gate_line netlist g 0 ≡ i / Size.values + 1 → ⊥)
          → (cost_at q i ≡ leaf_bid cells ss none i) ⊎ LeafAmong netlist AnyGate i
      found (inl t) = inr (record { gate = t.0; value = i % Size.values; inside = t.1; small = omega arith; listed = tt; same = omega (arith, t.2) })
      found (inr f) =
          inl
          (p.lines i l ∙ ap (λ (xs : List ℕ). get_or xs (leaf_place i) 0) e
          ∙ sym (at_getD (start ss) (leaf_place i) 0 (omega (arith, start-length (prices_of ss) ss)))
          ∙ sym (first_bid (leaf_place i) unvisited))
        where
          unvisited : Visited (all_visits (stages cells (gates_of ss))) (leaf_place i) → ⊥
          unvisited s =
              let t : (g : ℕ) × (g < length (gates_of ss)) × ((get_or (gates_of ss) g no_gate).line ≡ i / Size.values + 1) = driven (i / Size.values + 1) (i % Size.values) (leaf_placed i l) (rw (leaf_value i) at s) in
              let b : t.0 < get_or netlist 0 0 = omega (arith, t.1, held-count) in
              f t.0 b (held-line t.0 b ∙ t.2)

  pub matches-start : {prices q q' : List ℕ} → prices ≡ start ss → Priced prices q → Fresh library netlist none AnyGate q q' → Matches cells ss none q'
  matches-start e p f =
      record {
        bids = f.fresh (leaf_bid cells ss none) (held-bids h none) (stale-start e p);
        size = length-replicate Size.numbers never;
      }

-- ---- the steps

-- A run stands after so many steps.
pub record After (cells : List Cell) (ss : List Statement) (steps last : ℕ) (numbers q : List ℕ) : Type 0 where
  pub matches : Matches cells ss numbers q
  pub numbers_are : (best_within cells ss steps).numbers ≡ numbers
  pub steps_are : (best_within cells ss steps).steps ≡ steps
  pub last_is : (best_within cells ss steps).last ≡ last

module _ (cells : List Cell) (ss : List Statement) where
  within-next : (steps : ℕ) → best_within cells ss (steps + 1) ≡ step (system cells ss) values (best_within cells ss steps)
  unfolding best_within budgeted
  within-next steps = rw (add-one steps)

  idle-within : (steps budget : ℕ) → step (system cells ss) values (best_within cells ss steps) ≡ best_within cells ss steps → steps ≤ budget → best_within cells ss budget ≡ best_within cells ss steps
  unfolding best_within
  idle-within steps budget e h = idle-same (system cells ss) values Size.numbers steps budget e h

module _ {cells : List Cell} {ss : List Statement} where
  pub after-start : {q : List ℕ} → Matches cells ss none q → After cells ss 0 0 none q
  unfolding best_within budgeted unbegun
  after-start m = record { matches = m; numbers_are = refl; steps_are = refl; last_is = refl }

  pub after_on : {steps last cost : ℕ} {numbers q ys q' : List ℕ} → After cells ss steps last numbers q → Stepped cells ss numbers (Some cost) ys q' → After cells ss (steps + 1) cost ys q'
  after_on {steps} {cost = cost} s t =
      let m : Made (best_within cells ss steps) (step (system cells ss) values (best_within cells ss steps)) (Some cost) = t.made (best_within cells ss steps) s.numbers_are in
      record {
        matches = t.matches;
        numbers_are = ap (λ (b : Budgeted). b.numbers) (within-next cells ss steps) ∙ t.numbers (best_within cells ss steps) s.numbers_are;
        steps_are = ap (λ (b : Budgeted). b.steps) (within-next cells ss steps) ∙ m.0 ∙ ap suc s.steps_are ∙ sym (add-one steps);
        last_is = ap (λ (b : Budgeted). b.last) (within-next cells ss steps) ∙ m.1;
      }

  pub ran-all : {budget last : ℕ} {numbers q : List ℕ} → After cells ss budget last numbers q → RanWithin cells ss budget budget last numbers q
  ran-all s =
      record {
        size = s.matches.size;
        numbers_are = sym s.numbers_are;
        steps_are = sym s.steps_are;
        last_is = sym s.last_is;
        bids = rw s.numbers_are s.matches.bids;
      }

  pub ran_out : {budget steps last : ℕ} {numbers q ys q' : List ℕ} → steps ≤ budget → After cells ss steps last numbers q → Stepped cells ss numbers None ys q' → RanWithin cells ss budget steps last ys q'
  ran_out {budget} {steps} {ys = ys} b s t =
      let e : step (system cells ss) values (best_within cells ss steps) ≡ best_within cells ss steps = t.made (best_within cells ss steps) s.numbers_are in
      let same : best_within cells ss budget ≡ best_within cells ss steps = idle-within cells ss steps budget e b in
      let n : (best_within cells ss steps).numbers ≡ ys = sym (ap (λ (x : Budgeted). x.numbers) e) ∙ t.numbers (best_within cells ss steps) s.numbers_are in
      record {
        size = t.matches.size;
        numbers_are = rw same (sym n);
        steps_are = rw same (sym s.steps_are);
        last_is = rw same (sym s.last_is);
        bids = rw (same, n) t.matches.bids;
      }

-- ---- the prices

-- The first prices are on offer.
pub record PricedTo (prices : List ℕ) (from : ℕ) (q : List ℕ) : Type 0 where
  pub lines : (i : ℕ) → i < from → cost_at q i ≡ get_or prices (leaf_place i) 0

pub priced-start : (prices : List ℕ) {q : List ℕ} → NoCost q → PricedTo prices 0 q
priced-start prices e = record { lines = λ i h. absurd (omega arith) }

pub priced-on : {prices q r : List ℕ} {leaf : ℕ} → leaf < Size.leaves → PricedTo prices leaf q → Put leaf (get_or prices (leaf_place leaf) 0) q r → PricedTo prices (leaf + 1) r
priced-on {prices} {q} {r} {leaf} b p t =
    record {
      lines = λ i h. lines i h (ℕ_discrete i leaf);
    }
  where
    lines : (i : ℕ) → i < leaf + 1 → Dec (i ≡ leaf) → cost_at r i ≡ get_or prices (leaf_place i) 0
    lines i h (yes e) = rw e t.here
    lines i h (no e) = t.others i (omega arith) e ∙ p.lines i (omega arith)

pub priced-all : {prices q : List ℕ} {from : ℕ} → from ≡ Size.leaves → PricedTo prices from q → Priced prices q
priced-all e p = record { lines = λ i h. p.lines i (omega arith) }

module _ {library netlist : List ℕ} {cells : List Cell} {ss : List Statement} (h : Holds library netlist cells ss) where
  pub held_start : lines_start false netlist Size.lines 1 ≡ start ss
  held_start = rw h.statements_stand (start_is cells ss h.sound h.behind h.past false)

  pub prices-fit : {prices q : List ℕ} → prices ≡ lines_start false netlist Size.lines 1 → NoCost q → PricesFit prices q
  prices-fit {prices} e m =
      record {
        size = ap length (e ∙ held_start) ∙ start-length (prices_of ss) ss;
        bounded = λ n. rw (e ∙ held_start) (place n (dec_lt n (length (start ss))));
        empty = m;
      }
    where
      place : (n : ℕ) → Dec (n < length (start ss)) → get_or (start ss) n 0 ≤ never
      place n (yes b) = rw (← at_getD (start ss) n 0 b) (start-bounded (prices_of ss) ss (own-figures h.sound) n)
      place n (no b) = rw (List-get_or-eq-default (start ss) 0 {n = n} (omega arith)) (omega arith)

  pub after_begin : {numbers prices q q' : List ℕ} → numbers ≡ none → prices ≡ lines_start false netlist Size.lines 1 → Priced prices q
      → Fresh library netlist numbers AnyGate q q' → After cells ss 0 0 numbers q'
  after_begin {q' = q'} n e p f =
      subst (λ (xs : List ℕ). After cells ss 0 0 xs q') (sym n) (after-start (matches-start h (e ∙ held_start) p (rw n at f)))
