-- What a pad on trial changed: CO alone, of lines that are reached from the pad's through lines that changed. So a walk back from
-- it finds all.
use Rattle.common_laws.proofs.Base.{true, false, List, List-as-Memᴰ, ◌⊎◌, inl, inr, ◌≡◌, refl, sym, ◌∙◌, ap, subst, ℕ, suc, ◌+◌, ◌*◌, ◌-◌, ◌/◌, ◌%◌, ◌≤◌, ◌<◌, ℕ_discrete, dec_lt}
use Rattle.common_laws.proofs.Base.{arith, eqb-true, eqb, length, get_or, set, length-set, List-get_or-eq-default, get_or-set_other}
use Rattle.sizes.specs.Sizes as Size
use Rattle.sizes.specs.Places.{observing_place}
use Rattle.reading.proofs.Laws.{clash, or_cases}
use Rattle.plans.specs.Sweep.{at, lower}
use Rattle.plans.proofs.Laws.{at_getD, lower-stores, settles-length, settles-other}
use Rattle.library_table.specs.Cells.{Cell}
use Rattle.netlist_table.specs.Netlist.{Gate, Statement, gates_of, mentioned, is_output}
use Rattle.netlist_table.specs.Gates.{no_gate, gate_line}
use Rattle.netlist_table.specs.Sound.{InRange}
use Rattle.netlist_table.proofs.Laws.{gate-sound}
use Rattle.netlist_table.proofs.HeldGates as Held
use Rattle.netlist_table.proofs.Pad.{pad-outputs, pad-prices}
use Rattle.netlist_table.proofs.Places.{netlist-count}
use Rattle.calculation.specs.Nodes.{combinational, observe, node}
use Rattle.calculation.specs.Prices.{Pricing, prices_of}
use Rattle.calculation.specs.Ways.{cell_of, pin_line}
use Rattle.calculation.specs.Calculation.{analysed_at, analysed}
use Rattle.calculation.specs.Advice.{with_pad, observed_with}
use Rattle.calculation.specs.Acceptance.{BothSound}
use Rattle.calculation.specs.Added.{OutputsAdded}
use Rattle.calculation.specs.Effects.{seen_at, Spread}
use Rattle.calculation.specs.Effects as E
use Rattle.calculation.proofs.Laws.{own-figures, numbers-length, node-inside, outputs-lower, falls_spread}
use Rattle.calculation.proofs.Bounds.{observing-visited}
use Rattle.calculation.proofs.Pads.{both-sound, pad-added, pad-figures}
use Rattle.calculation.proofs.Visits.{listed_at}
use Rattle.calculation.proofs.Acceptance.{gate-cell, gate-pin}
use Rattle.sweep_links.specs.Lines.{Links}
use Rattle.sweep_links.proofs.Lines.{driver-noted}
use Rattle.sweep_reruns.specs.Trial.{PadTried}
use Rattle.sweep_runs.proofs.FourRuns.{stands, observe-fits}
use Rattle.trial_back.specs.Back.{co_place, Same, Reached, BehindOf, BackFits, Changed}
use Rattle.trial_back.specs.Back as Back
use Rattle.advice_calls.specs.Parts.{cost_at, Stands}
use Rattle.advice_calls.proofs.PadCosts.{stands-long, stands-bounded, cost-left, tried-long}

module _ {library netlist numbers : List ℕ} {cells : List Cell} {ss : List Statement} (s : Stands library netlist numbers cells ss) {links : List ℕ}
    (linked : Links library netlist links) where
  -- ---- who stands behind a line

  -- The line of a pin stands behind that of its gate.
  behind-of : (g : Gate) → List-as-Memᴰ g (gates_of ss) → (i : ℕ) → 1 ≤ i → i ≤ (cell_of cells g).pins → BehindOf netlist links g.line (pin_line g i)
  unfolding pin_line
  behind-of g listed i low high =
      let t = listed_at no_gate g (gates_of ss) listed in
      let count : get_or netlist 0 0 ≡ length (gates_of ss) = rw s.holds.statements_stand (netlist-count ss s.holds.past) in
      let inside : t.0 < get_or netlist 0 0 = omega (arith, t.1, count) in
      let own : gate_line netlist t.0 0 ≡ g.line =
      rw s.holds.statements_stand (Held.own_line s.holds.sound.netlist s.holds.past t.0 t.1) ∙ ap (λ (h : Gate). h.line) t.2 in
      let fits = observe-fits s.holds combinational {xs = numbers} (stands-long s) (stands-bounded s) in
      let range : (1 ≤ g.line) × (g.line ≤ Size.lines) = unfold InRange in (gate-sound cells ss s.holds.sound.netlist g listed).line in
      let driver : get_or links (Size.drivers_at + g.line) 0 ≡ t.0 + 1 =
      driver-noted linked.driven g.line t.0 range.1 inside own
      (λ h b e. let q : h ≡ t.0 = fits.links_fit.needs.once h t.0 b inside (e ∙ sym own) in omega (arith, q)) in
      let back : get_or links (Size.drivers_at + g.line) 0 - 1 ≡ t.0 = omega (arith, driver) in
      let few : i - 1 < Size.pins = omega (arith, high, (gate-cell s.holds.sound g listed).header.most-pins) in
      let up : i - 1 + 1 ≡ i = omega arith in
      let read : gate_line netlist t.0 i ≡ get_or g.pins (i - 1) 0 =
      subst (λ (j : ℕ). gate_line netlist t.0 j ≡ get_or g.pins (i - 1) 0) up
      (rw s.holds.statements_stand (Held.pin-line s.holds.sound.netlist s.holds.past t.0 t.1 (i - 1) few) ∙ ap (λ (h : Gate). get_or h.pins (i - 1) 0) t.2) in
      let pin : (1 ≤ get_or g.pins (i - 1) 0) × (get_or g.pins (i - 1) 0 ≤ Size.lines) = unfold InRange pin_line in gate-pin s.holds.sound g listed i low high in (
        omega (arith, driver),
        (i, low, omega (arith, few), rw (back, read) pin.0, rw back (sym read)),
      )

  -- ---- what a trial changed

  module _ (l : ℕ) (range : InRange l) (said : mentioned l ss ≡ true) (free : is_output l ss ≡ false) {zs : List ℕ} {count : ℕ}
      (t : PadTried cells ss l numbers count zs) where
    abbrev price : Pricing
    price = prices_of ss

    abbrev place : ℕ
    place = node combinational (observe l)

    more-sound : BothSound cells (with_pad ss l)
    more-sound = both-sound cells ss l s.holds.sound said free

    more_added : OutputsAdded ss (with_pad ss l)
    more_added = pad-added cells ss l s.holds.sound said free

    seen-without : (m : ℕ) → cost_at numbers m ≡ seen_at price cells ss combinational m
    unfolding node
    seen-without m = rw s.stand (ap (λ (n : ℕ). get_or (analysed cells ss).numbers n 0) (omega arith))

    priced : (m : ℕ) → observed_with cells ss l m ≡ at (analysed_at price cells (with_pad ss l)).numbers (node combinational (observe m))
    unfolding observed_with
    priced m = ap (λ (q : Pricing). at (analysed_at q cells (with_pad ss l)).numbers (node combinational (observe m))) (pad-prices ss l)

    seen-with : (m : ℕ) → InRange m → cost_at zs m ≡ seen_at price cells (with_pad ss l) combinational m
    seen-with m r =
        cost-left s l range refl t said free m r
        ∙ priced m
        ∙ at_getD (analysed_at price cells (with_pad ss l)).numbers (node combinational (observe m)) 0
        (rw (numbers-length cells (with_pad ss l) more-sound price (pad-figures cells ss l s.holds.sound said free)) (node-inside combinational (observe m) r))

    not-above : (m : ℕ) → InRange m → cost_at zs m ≤ cost_at numbers m
    not-above m r =
        rw (seen-with m r, seen-without m)
        (rw (
          ← at_getD (analysed_at price cells (with_pad ss l)).numbers (node combinational (observe m)) 0
              (rw (numbers-length cells (with_pad ss l) more-sound price (pad-figures cells ss l s.holds.sound said free)) (node-inside combinational (observe m) r)),
          ← at_getD (analysed_at price cells ss).numbers (node combinational (observe m)) 0
              (rw (numbers-length cells ss s.holds.sound price (own-figures s.holds.sound)) (node-inside combinational (observe m) r)),
        )
        (outputs-lower cells ss (with_pad ss l) s.holds.sound more-sound more_added price (own-figures s.holds.sound) (pad-figures cells ss l s.holds.sound said free)
        (node combinational (observe m))))

    reach : {m : ℕ} → Spread price cells ss (with_pad ss l) combinational m → Reached numbers zs (BehindOf netlist links) l m
    reach (E.new {m = m} fresh marked) = here (or_cases (is_output m ss) (eqb l m) (sym (pad-outputs ss l m) ∙ marked))
      where
        here : (is_output m ss ≡ true) ⊎ (eqb l m ≡ true) → Reached numbers zs (BehindOf netlist links) l m
        here (inl e) = clash (is_output m ss) e fresh
        here (inr e) = subst (Reached numbers zs (BehindOf netlist links) l) (eqb-true l m e) Back.pad
    reach (E.behind g listed i low high e falls rest) =
        let r : InRange g.line = (gate-sound cells ss s.holds.sound.netlist g listed).line in
        let co : observing_place 0 g.line ≡ co_place g.line = omega arith in
        Back.behind r
        (λ same.
        let q : cost_at zs g.line ≡ cost_at numbers g.line = rw co same.co in
        omega (arith, falls, seen-with g.line r, seen-without g.line, q)) (reach rest)
        (subst (BehindOf netlist links g.line) e (behind-of g listed i low high))

    long : length zs ≡ length numbers
    long = tried-long s l range refl t ∙ sym (stands-long s)

    -- CO of a line.
    at-line : (m : ℕ) → InRange m → Dec (cost_at zs m ≡ cost_at numbers m)
        → (cost_at zs m ≡ cost_at numbers m) ⊎ Reached numbers zs (BehindOf netlist links) l m
    at-line m r (yes e) = inl e
    at-line m r (no e) =
        inr (reach (falls_spread cells ss (with_pad ss l) s.holds.sound more-sound more_added price (own-figures s.holds.sound) combinational m r
        (omega (arith, not-above m r, seen-with m r, seen-without m))))

    -- Any other number.
    elsewhere : (n : ℕ) → (n % Size.costs ≡ Size.observed_at → ⊥) → n < length numbers → get_or zs n 0 ≡ get_or numbers n 0
    unfolding node
    elsewhere n other inside =
        sym (at_getD zs n 0 (rw long inside))
        ∙ settles-other lower lower-stores t n (λ v. other (omega (arith, observing-visited cells ss s.holds.sound combinational n v)))
        ∙ at_getD (set numbers place 0) n 0 (rw (length-set numbers place 0) inside)
        ∙ get_or-set_other numbers place n 0 0 (λ e. other (apart e))
      where
        apart : n ≡ place → n % Size.costs ≡ Size.observed_at
        apart e = omega (arith, e)

    changed : Changed numbers zs (BehindOf netlist links) l
    unfolding InRange
    changed n = place_of (dec_lt n (length numbers)) (ℕ_discrete (n % Size.costs) Size.observed_at)
      where
        place_of : Dec (n < length numbers) → Dec (n % Size.costs ≡ Size.observed_at)
            → (get_or zs n 0 ≡ get_or numbers n 0) ⊎ ((m : ℕ) × ((n ≡ co_place m) ⊎ (n ≡ co_place m + 1)) × Reached numbers zs (BehindOf netlist links) l m)
        place_of (no h) d = inl (List-get_or-eq-default zs 0 {n = n} (omega (arith, long)) ∙ sym (List-get_or-eq-default numbers 0 {n = n} (omega arith)))
        place_of (yes h) (no d) = inl (elsewhere n d h)
        place_of (yes h) (yes d) = line (at-line m r (ℕ_discrete (cost_at zs m) (cost_at numbers m)))
          where
            m : ℕ
            m = suc (n / Size.costs)

            is : n ≡ co_place m
            is = omega (arith, d)

            r : InRange m
            r = (omega arith, omega (arith, h, stands-long s))

            line : (cost_at zs m ≡ cost_at numbers m) ⊎ Reached numbers zs (BehindOf netlist links) l m
                → (get_or zs n 0 ≡ get_or numbers n 0) ⊎ ((m : ℕ) × ((n ≡ co_place m) ⊎ (n ≡ co_place m + 1)) × Reached numbers zs (BehindOf netlist links) l m)
            line (inl e) = let co : n ≡ observing_place 0 m = omega (arith, d) in inl (rw co e)
            line (inr w) = inr (m, inl is, w)

  -- The same of an array that held the numbers.
  pub changed-there : (l : ℕ) → InRange l → mentioned l ss ≡ true → is_output l ss ≡ false → {tried zs : List ℕ} {count : ℕ} → tried ≡ numbers
      → PadTried cells ss l tried count zs → Changed numbers zs (BehindOf netlist links) l
  changed-there l range said free {zs = zs} {count = count} laid t =
      changed l range said free (subst (λ (xs : List ℕ). PadTried cells ss l xs count zs) laid t)

  -- ---- what the walk back asks

  pub back_fits : (l : ℕ) → InRange l → BackFits netlist links l
  unfolding InRange
  back_fits l range =
      record {
        low = range.0;
        most = range.1;
        walk = record { lines_stand = stands s.holds; drivers = λ x h. omega (arith, (linked.driven.last x h).below) };
      }
