-- The offer of a gate out of the tables, from what the parts of `offer_of` read.
use Rattle.common_laws.proofs.Base.{Bool, true, List, ◌⊎◌, inl, inr, ◌≡◌, refl, sym, ap, ap₂, ◌∙◌, ℕ, zero, suc, ◌+◌, ◌*◌, ◌-◌, ◌%◌, ◌≤◌, ◌<◌, ℕ_discrete, le_refl, arith}
use Rattle.common_laws.proofs.Base.{lt-ltb, le-ltb, length, get_or}
use Rattle.std.proofs.Common.{Option, Some, None, SomeIff}
use Rattle.sizes.specs.Sizes as Size
use Rattle.sizes.specs.Places.{group_place, leaf_of, leaf_place}
use Rattle.reading.specs.Choice.{pick}
use Rattle.cost.specs.Cost.{never}
use Rattle.plans.specs.System.{Visit}
use Rattle.plans.specs.Sweep.{at, least}
use Rattle.plans.proofs.Laws.{at_getD, least-bound}
use Rattle.netlist_table.specs.Gates.{gate_cell, gate_line, gate_lines}
use Rattle.netlist_table.proofs.HeldGates.{line_at}
use Rattle.sweep_groups.specs.Tables.{read_row, group_columns, gate_pins, role_columns, visit_group, gate_tied, gate_visit}
use Rattle.sweep_groups.specs.Fits.{Gathered, GatherFits, GateFits, LeastFits}
use Rattle.sweep_links.specs.Lines.{Highest, pin_gate, pin_line, Chained}
use Rattle.sweep_turns.proofs.Groups as Group
use Rattle.budget_queue.specs.Queue.{cost_at, Put}
use Rattle.budget_run.specs.Steps.{bid_of, gate_offer, gate_bid, GateReady, OutputStands, Refreshed, LeafAmong, GateBids, Stale, Fresh, Reads, Passed}

-- ---- the offer of a gate

module _ (library netlist numbers : List ℕ) (g e : ℕ) (fits : GateReady library netlist numbers g) (value : e ≤ 1)
    (lines : List ℕ) (pins group : ℕ) (lines_are : lines ≡ gate_lines netlist g) (pins-are : pins ≡ gate_pins library netlist g)
    (group_is : group ≡ group_place (gate_cell netlist g) (visit_group 0 0 e)) where
  gate-fits : GateFits library netlist g
  gate-fits = fits.tables_fit.gates g fits.inside

  pub least_fits_lem : (wired : Bool) (costs : List ℕ) → length costs ≡ Size.columns → LeastFits wired 0 library group pins costs
  least_fits_lem = Group.least_fits_lem 0 (omega arith) library netlist g e gate-fits value lines pins group lines_are pins-are group_is

  pub gather-fits : (costs : List ℕ) → length costs ≡ Size.columns → GatherFits true 0 0 lines pins numbers costs
  gather-fits costs size =
      Group.gather-fits 0 (omega arith) library netlist g e gate-fits value lines pins group lines_are pins-are group_is numbers costs
      fits.size size

  -- The least over the costs of the columns is the offer.
  pub offer_is : (wired : Bool) → wired ≡ gate_tied library netlist g → (costs : List ℕ) → Gathered (role_columns 0 pins) 0 lines pins numbers costs
      → least costs (group_columns (read_row wired lines pins) library group) ≡ gate_offer library netlist numbers g e
  offer_is wired tied costs gathered =
      Group.columns-least 0 (omega arith) library netlist g e gate-fits value lines pins group lines_are pins-are group_is _ refl wired tied numbers costs gathered
      ∙ ap (λ (v : Visit). least numbers v.ways)
      (Group.same-visit 0 (omega arith) library netlist g e gate-fits value lines pins group lines_are pins-are group_is _ refl wired tied)

-- ---- its leaf

pub output-stands : {library netlist : List ℕ} {g : ℕ} → GateFits library netlist g → OutputStands netlist g
output-stands {netlist = netlist} {g = g} f =
    record {
      room = omega (arith, f.room);
      least = rw (← line_at netlist g 0 (omega arith)) (f.lines.least 0 (omega arith));
      most = rw (← line_at netlist g 0 (omega arith)) (f.lines.most 0 (omega arith));
    }

pub leaf_inside : {netlist : List ℕ} {g v : ℕ} → OutputStands netlist g → v ≤ 1 → leaf_of (gate_line netlist g 0) v < Size.leaves
leaf_inside o h = omega (arith, o.least, o.most)

pub offer-bound : (library netlist xs : List ℕ) (g v : ℕ) → gate_offer library netlist xs g v ≤ never
offer-bound library netlist xs g v = least-bound xs (gate_visit 0 0 library netlist g v).ways

-- What was read and taken is the bid.
module _ (library netlist xs : List ℕ) (g v leaf place : ℕ) (size : length xs ≡ Size.numbers) (o : OutputStands netlist g) (h : v ≤ 1)
    (leaf-is : leaf ≡ leaf_of (gate_line netlist g 0) v) (place_is : place ≡ leaf_place leaf) where
  number_is_lem : get_or xs place 0 ≡ at xs (leaf_place (leaf_of (gate_line netlist g 0) v))
  number_is_lem =
      ap (λ (k : ℕ). get_or xs k 0) (place_is ∙ ap (λ (k : ℕ). leaf_place k) leaf-is)
      ∙ sym (at_getD xs (leaf_place (leaf_of (gate_line netlist g 0) v)) 0 (rw size (omega (arith, leaf_inside {v = v} o h))))

  pub fixed-bid : get_or xs place 0 < never → never ≡ gate_bid library netlist xs g v
  unfolding bid_of pick
  fixed-bid b = rw (← number_is_lem, lt-ltb (get_or xs place 0) never b)

  pub open_bid : never ≤ get_or xs place 0 → (offer : ℕ) → offer ≡ gate_offer library netlist xs g v → offer ≡ gate_bid library netlist xs g v
  unfolding bid_of pick
  open_bid b offer e = rw (← number_is_lem, le-ltb (get_or xs place 0) never b) e

-- Both values of a gate.
pub refreshed : {library netlist xs q p r : List ℕ} {g : ℕ} → OutputStands netlist g
    → Put (leaf_of (gate_line netlist g 0) 0) (gate_bid library netlist xs g 0) q p
    → Put (leaf_of (gate_line netlist g 0) 1) (gate_bid library netlist xs g 1) p r
    → Refreshed library netlist xs g q r
refreshed {library} {netlist} {xs} {q} {p} {r} {g} o a b =
    record {
      here = here;
      others = λ i h d. b.others i h (λ e. d 1 (omega arith) e) ∙ a.others i h (λ e. d 0 (omega arith) e);
    }
  where
    here : (v : ℕ) → v ≤ 1 → cost_at r (leaf_of (gate_line netlist g 0) v) ≡ gate_bid library netlist xs g v
    here zero h =
        b.others (leaf_of (gate_line netlist g 0) 0) (omega (arith, leaf_inside {v = 0} o (omega arith))) (λ e. omega arith) ∙ a.here
    here (suc zero) h = b.here
    here (suc (suc v)) h = absurd (omega arith)

-- ---- one gate more

module _ (library netlist xs : List ℕ) (among : ℕ → Type 0) (q₀ : List ℕ) where
  -- The gates of which `left` holds are still to be taken anew.
  pub record Partly (left : ℕ → Type 0) (q : List ℕ) : Type 0 where
    pub stale : (bids : ℕ → ℕ) → GateBids library netlist xs bids → Stale netlist among q₀ bids → Stale netlist left q bids

  pub partly-start : (left : ℕ → Type 0) → ((g : ℕ) → g < get_or netlist 0 0 → among g → left g) → Partly left q₀
  partly-start left all = record { stale = λ bids b t i j. onward bids i (t i j) }
    where
      onward : (bids : ℕ → ℕ) (i : ℕ) → (cost_at q₀ i ≡ bids i) ⊎ LeafAmong netlist among i → (cost_at q₀ i ≡ bids i) ⊎ LeafAmong netlist left i
      onward bids i (inl e) = inl e
      onward bids i (inr w) = inr (record { gate = w.gate; value = w.value; inside = w.inside; small = w.small; listed = all w.gate w.inside w.listed; same = w.same })

  pub partly-same : (left less : ℕ → Type 0) → ((g : ℕ) → left g → less g) → {q : List ℕ} → Partly left q → Partly less q
  partly-same left less all {q} h = record { stale = λ bids b t i j. onward bids i (h.stale bids b t i j) }
    where
      onward : (bids : ℕ → ℕ) (i : ℕ) → (cost_at q i ≡ bids i) ⊎ LeafAmong netlist left i → (cost_at q i ≡ bids i) ⊎ LeafAmong netlist less i
      onward bids i (inl e) = inl e
      onward bids i (inr w) = inr (record { gate = w.gate; value = w.value; inside = w.inside; small = w.small; listed = all w.gate w.listed; same = w.same })

  -- One gate was taken anew.
  pub partly-on : (left less : ℕ → Type 0) (gate : ℕ) → ((g : ℕ) → left g → (g ≡ gate) ⊎ less g) → gate < get_or netlist 0 0 → {q r : List ℕ}
      → Partly left q → Refreshed library netlist xs gate q r → Partly less r
  partly-on left less gate all l {q} {r} h t =
      record {
        stale = λ bids b u i j. stale bids b i j (ℕ_discrete i (leaf_of (gate_line netlist gate 0) 0)) (ℕ_discrete i (leaf_of (gate_line netlist gate 0) 1)) (h.stale bids b u i j);
      }
    where
      value : (v : ℕ) → v ≤ 1 → (v ≡ 0) ⊎ (v ≡ 1)
      value zero h = inl refl
      value (suc zero) h = inr refl
      value (suc (suc v)) h = absurd (omega arith)

      -- A leaf of another gate.
      other : (bids : ℕ → ℕ) (i : ℕ) → i < Size.leaves → (i ≡ leaf_of (gate_line netlist gate 0) 0 → ⊥) → (i ≡ leaf_of (gate_line netlist gate 0) 1 → ⊥)
          → (cost_at q i ≡ bids i) ⊎ LeafAmong netlist left i → (cost_at r i ≡ bids i) ⊎ LeafAmong netlist less i
      other bids i j a b (inl e) = inl (t.others i j apart ∙ e)
        where
          apart : (v : ℕ) → v ≤ 1 → i ≡ leaf_of (gate_line netlist gate 0) v → ⊥
          apart zero h f = a f
          apart (suc zero) h f = b f
          apart (suc (suc v)) h f = omega arith
      other bids i j a b (inr w) = place (all w.gate w.listed)
        where
          not-here : w.gate ≡ gate → ⊥
          not-here e = pair (value w.value w.small)
            where
              pair : (w.value ≡ 0) ⊎ (w.value ≡ 1) → ⊥
              pair (inl f) = a (w.same ∙ ap₂ (λ (x y : ℕ). leaf_of (gate_line netlist x 0) y) e f)
              pair (inr f) = b (w.same ∙ ap₂ (λ (x y : ℕ). leaf_of (gate_line netlist x 0) y) e f)

          place : (w.gate ≡ gate) ⊎ less w.gate → (cost_at r i ≡ bids i) ⊎ LeafAmong netlist less i
          place (inl e) = absurd (not-here e)
          place (inr m) = inr (record { gate = w.gate; value = w.value; inside = w.inside; small = w.small; listed = m; same = w.same })

      stale : (bids : ℕ → ℕ) → GateBids library netlist xs bids → (i : ℕ) → i < Size.leaves → Dec (i ≡ leaf_of (gate_line netlist gate 0) 0) → Dec (i ≡ leaf_of (gate_line netlist gate 0) 1)
          → (cost_at q i ≡ bids i) ⊎ LeafAmong netlist left i → (cost_at r i ≡ bids i) ⊎ LeafAmong netlist less i
      stale bids b i j (yes e) d c = inl (ap (cost_at r) e ∙ t.here 0 (omega arith) ∙ sym (b gate 0 l (omega arith)) ∙ ap bids (sym e))
      stale bids b i j (no f) (yes e) c = inl (ap (cost_at r) e ∙ t.here 1 (omega arith) ∙ sym (b gate 1 l (omega arith)) ∙ ap bids (sym e))
      stale bids b i j (no f) (no e) c = other bids i j f e c

  -- None is left.
  pub partly-all : (left : ℕ → Type 0) → ((g : ℕ) → g < get_or netlist 0 0 → left g → ⊥) → {q : List ℕ} → Partly left q → Fresh library netlist xs among q₀ q
  partly-all left none {q} h = record { fresh = λ bids b t i j. each bids i (h.stale bids b t i j) }
    where
      each : (bids : ℕ → ℕ) (i : ℕ) → (cost_at q i ≡ bids i) ⊎ LeafAmong netlist left i → cost_at q i ≡ bids i
      each bids i (inl e) = e
      each bids i (inr w) = absurd (none w.gate w.inside w.listed)

-- The gates from one on.
abbrev pub From : ℕ → ℕ → Type 0
From gate g = gate ≤ g

pub from_next : (gate g : ℕ) → From gate g → (g ≡ gate) ⊎ From (gate + 1) g
from_next gate g h = place (ℕ_discrete g gate)
  where
    place : Dec (g ≡ gate) → (g ≡ gate) ⊎ From (gate + 1) g
    place (yes e) = inl e
    place (no e) = inr (omega arith)

-- ---- the gates that read a line, by the chain of its pins

-- The gate has a pin that reads the line and stands no higher in the chain.
abbrev pub UpTo : List ℕ → ℕ → ℕ → ℕ → Type 0
UpTo netlist line pin g = (k : ℕ) × (0 < k) × (k ≤ pin) × (pin_gate k ≡ g) × (pin_line netlist k ≡ line)

-- The walk stands at a pin of the chain, and at 0 behind its end.
pub record Walk (library netlist xs : List ℕ) (line : ℕ) (q₀ : List ℕ) (pin : ℕ) (q : List ℕ) : Type 0 where
  pub inside : pin ≤ get_or netlist 0 0 * Size.pins
  pub reads : 0 < pin → pin_line netlist pin ≡ line
  pub partly : Partly library netlist xs (Reads netlist line) q₀ (UpTo netlist line pin) q

module _ (library netlist links xs : List ℕ) (line : ℕ) (chained : Chained netlist (get_or netlist 0 0) links) (q₀ : List ℕ) where
  -- At the chain's start are all that read the line.
  readers-up : line ≤ Size.lines → (g : ℕ) → g < get_or netlist 0 0 → Reads netlist line g → UpTo netlist line (get_or links (Size.readers_at + line) 0) g
  readers-up h g b (i, low, high, e) =
      let k : pin_gate (g * Size.pins + i) ≡ g = omega arith in
      let m : (g * Size.pins + i - 1) % Size.pins + 1 ≡ i = omega arith in
      let q : pin_line netlist (g * Size.pins + i) ≡ line = ap₂ (λ (x y : ℕ). gate_line netlist x y) k m ∙ e in
      (g * Size.pins + i, omega arith, (chained.firsts line h).most (g * Size.pins + i) (omega arith) (omega arith) q, k, q)

  pub walk_start : line ≤ Size.lines → (pin : ℕ) → pin ≡ get_or links (Size.readers_at + line) 0 → Walk library netlist xs line q₀ pin q₀
  walk_start h pin e =
      rw e
      (record {
        inside = omega (arith, (chained.firsts line h).below);
        reads = (chained.firsts line h).same;
        partly = partly-start library netlist xs (Reads netlist line) q₀ (UpTo netlist line (get_or links (Size.readers_at + line) 0)) (readers-up h);
      })

  module _ (pin : ℕ) (some : 0 < pin) {q : List ℕ} (w : Walk library netlist xs line q₀ pin q) where
    abbrev next : ℕ
    next = get_or links (Size.next_at + pin) 0

    high : Highest (pin_line netlist) (pin_line netlist pin) pin next
    high = chained.nexts pin some w.inside

    pub next-below : next < pin
    next-below = high.below

    pub gate-inside : pin_gate pin < get_or netlist 0 0
    gate-inside = omega (arith, w.inside)

    next-reads : 0 < next → pin_line netlist next ≡ line
    next-reads h = high.same h ∙ w.reads some

    lower : (g k : ℕ) → 0 < k → k ≤ pin → (k ≡ pin → ⊥) → pin_gate k ≡ g → pin_line netlist k ≡ line → UpTo netlist line next g
    lower g k a b d e f = (k, a, high.most k a (omega arith) (f ∙ sym (w.reads some)), e, f)

    -- The gate was taken anew, ..
    passed-other : (g : ℕ) → UpTo netlist line pin g → (g ≡ pin_gate pin) ⊎ UpTo netlist line next g
    passed-other g (k, a, b, e, f) = place (ℕ_discrete k pin)
      where
        place : Dec (k ≡ pin) → (g ≡ pin_gate pin) ⊎ UpTo netlist line next g
        place (yes d) = inl (sym e ∙ ap (λ (x : ℕ). pin_gate x) d)
        place (no d) = inr (lower g k a b d e f)

    -- .. or it has the next pin too.
    passed-same : 0 < next → pin_gate next ≡ pin_gate pin → (g : ℕ) → UpTo netlist line pin g → UpTo netlist line next g
    passed-same h p g (k, a, b, e, f) = place (ℕ_discrete k pin)
      where
        place : Dec (k ≡ pin) → UpTo netlist line next g
        place (yes d) = (next, h, le_refl next, p ∙ sym (ap (λ (x : ℕ). pin_gate x) d) ∙ e, next-reads h)
        place (no d) = lower g k a b d e f

    pub walk-on : (then : Option ℕ) → SomeIff then (0 < next) (pin_gate next) → {r : List ℕ} → Passed library netlist xs (pin_gate pin) then q r → Walk library netlist xs line q₀ next r
    walk-on then n {r} p =
        record { inside = omega (arith, next-below, w.inside); reads = next-reads; partly = place then n p }
      where
        among : List ℕ → Type 0
        among = Partly library netlist xs (Reads netlist line) q₀ (UpTo netlist line next)

        other : Refreshed library netlist xs (pin_gate pin) q r → among r
        other =
            partly-on library netlist xs (Reads netlist line) q₀ (UpTo netlist line pin) (UpTo netlist line next) (pin_gate pin) passed-other gate-inside w.partly

        same : 0 < next → pin_gate next ≡ pin_gate pin → r ≡ q → among r
        same h e u =
            rw u
            (partly-same library netlist xs (Reads netlist line) q₀ (UpTo netlist line pin) (UpTo netlist line next) (passed-same h e) w.partly)

        place : (then : Option ℕ) → SomeIff then (0 < next) (pin_gate next) → Passed library netlist xs (pin_gate pin) then q r → among r
        place None n p = other (p.other (λ e. cc))
        place (Some g) n p = decide (ℕ_discrete g (pin_gate pin))
          where
            decide : Dec (g ≡ pin_gate pin) → among r
            decide (yes e) = same n.0 (sym n.1 ∙ e) (p.same (ap Some e))
            decide (no d) = other (p.other (λ e. d (let f : g ≡ pin_gate pin = cc in f)))

  pub walk_end : {q : List ℕ} → Walk library netlist xs line q₀ 0 q → Fresh library netlist xs (Reads netlist line) q₀ q
  walk_end w = partly-all library netlist xs (Reads netlist line) q₀ (UpTo netlist line 0) (λ g b t. omega (arith, t.1, t.2)) w.partly
