-- A pad on trial: CO rests at the numbers that stand, and a run of it with just the pad's number lowered leaves the CO of the
-- new analysis. Document 02, K13.
use Rattle.common_laws.proofs.Base.{true, false, or-false, or-true, List, ◌≡◌, refl, sym, ◌∙◌, subst, ℕ, zero, suc, ◌+◌, ◌*◌, ◌-◌, ◌≤◌, arith, eq-eqb, ne_eqb, set}
use Rattle.sizes.specs.Sizes as Size
use Rattle.reading.specs.Choice.{pick}
use Rattle.plans.specs.Sweep.{at, lower, Rests, Settles}
use Rattle.plans.specs.Stages.{Stages, Stages.ended, Stages.stage}
use Rattle.plans.proofs.Laws.{lower-stores, lower-reads, settles-length, settles-other, rests-alike}
use Rattle.library_table.specs.Cells.{Cell}
use Rattle.netlist_table.specs.Netlist.{Statement, gates_of, mentioned, is_output}
use Rattle.netlist_table.specs.Sound.{InRange}
use Rattle.netlist_table.proofs.Laws.{mentioned-in-range}
use Rattle.netlist_table.proofs.Pad.{pad-inputs, pad-outputs, pad-prices}
use Rattle.calculation.specs.Nodes.{combinational, observe, node}
use Rattle.calculation.specs.Ways.{observing_visits}
use Rattle.calculation.specs.Acceptance.{BothSound}
use Rattle.calculation.specs.Prices.{Pricing, prices_of}
use Rattle.calculation.specs.Calculation.{start_line, start_lines, start_at, start, stages, analysed_at, analysed}
use Rattle.calculation.specs.Settled.{in_order}
use Rattle.calculation.specs.Advice.{with_pad, observed_with}
use Rattle.calculation.proofs.Places.{node-inside, node_index, start-at}
use Rattle.calculation.proofs.Prices.{own-figures}
use Rattle.calculation.proofs.Bounds.{settled}
use Rattle.calculation.proofs.Outputs.{Seen, co-looks, so-apart, output-tried}
use Rattle.calculation.proofs.Pads.{both-sound, pad-added, pad-figures}

-- ---- CO rests

module _ (cells : List Cell) (ss : List Statement) (sound : BothSound cells ss) where
  -- SO, which runs after it, changes nothing that CO reads.
  rest_of : (zs counts : List ℕ) → Stages (stages cells (gates_of ss)) (start ss) counts zs → Rests lower (observing_visits combinational cells (gates_of ss)) zs
  rest_of zs counts (stage a (stage b (stage c (stage d (ended e))))) =
      rw e
      (rests-alike lower lower-stores lower-reads Seen (observing_visits combinational cells (gates_of ss)) (co-looks cells ss sound)
      (record {
        long = sym (settles-length lower lower-stores d);
        same = λ n p. sym (settles-other lower lower-stores d n (λ v. so-apart cells ss sound n v p));
      })
      c.rests)

  pub co-rests : Rests lower (observing_visits combinational cells (gates_of ss)) (analysed cells ss).numbers
  co-rests = rest_of (analysed cells ss).numbers (in_order (analysed cells ss).counts) (settled cells ss sound (prices_of ss) (own-figures sound))

-- ---- the pad

-- The starts differ at the pad alone, but for SO.
module _ (price : Pricing) (ss : List Statement) (l : ℕ) where
  lines-near : (n first i : ℕ) → Seen i → (first ≤ l → i ≡ (l - first) * Size.costs + Size.observed_at → ⊥)
      → at (start_lines price (with_pad ss l) n first) i ≡ at (start_lines price ss n first) i
  unfolding at start_lines start_line
  lines-near zero first i p h = refl
  lines-near (suc n) first zero p h = rw (pad-inputs ss l first)
  lines-near (suc n) first (suc zero) p h = rw (pad-inputs ss l first)
  lines-near (suc n) first (suc (suc zero)) p h = rw (pad-inputs ss l first)
  lines-near (suc n) first (suc (suc (suc zero))) p h = rw (pad-inputs ss l first)
  lines-near (suc n) first (suc (suc (suc (suc zero)))) p h =
      let other : l ≡ first → ⊥ = λ e. h (omega arith) (omega arith) in
      rw (pad-outputs ss l first, ne_eqb l first other, or-false (is_output first ss))
  lines-near (suc n) first (suc (suc (suc (suc (suc zero))))) p h = absurd (omega arith)
  lines-near (suc n) first (suc (suc (suc (suc (suc (suc i)))))) p h =
      lines-near n (suc first) i (omega arith) (λ b e. h (omega arith) (omega arith))

module _ (cells : List Cell) (ss : List Statement) (l : ℕ) (sound : BothSound cells ss) (said : mentioned l ss ≡ true) (free : is_output l ss ≡ false) where
  ranged : InRange l
  ranged = mentioned-in-range cells ss sound.netlist l said

  abbrev price : Pricing
  price = prices_of ss

  abbrev place : ℕ
  place = node combinational (observe l)

  near : (n : ℕ) → Seen n → (n ≡ place → ⊥) → at (start_at price (with_pad ss l)) n ≡ at (start_at price ss) n
  unfolding start_at node InRange
  near n p h =
      let r : InRange l = ranged in
      lines-near price ss l Size.lines 1 n p (λ b e. h (omega (arith, r.0)))

  priced : at (start_at price (with_pad ss l)) place ≡ 0
  unfolding pick
  priced =
      start-at price (with_pad ss l) combinational (observe l) ranged
      ∙ rw (pad-outputs ss l l, eq-eqb l l refl, or-true (is_output l ss))

  abbrev Tried : ℕ → List ℕ → Type 0
  Tried k zs = Settles lower (observing_visits combinational cells (gates_of ss)) (set (analysed cells ss).numbers place 0) k zs

  -- A run of CO from the numbers that stand, with the pad's CO at 0, leaves the CC, SC and CO of the new analysis.
  pub trial : (k : ℕ) (zs : List ℕ) → Tried k zs → (n : ℕ) → Seen n → at zs n ≡ at (analysed cells (with_pad ss l)).numbers n
  trial k zs s n p =
      subst (λ (q : Pricing). at zs n ≡ at (analysed_at q cells (with_pad ss l)).numbers n) (sym (pad-prices ss l))
      (output-tried cells ss (with_pad ss l) sound (both-sound cells ss l sound said free) (pad-added cells ss l sound said free)
      price (own-figures sound) (pad-figures cells ss l sound said free)
      place (node_index combinational (observe l) ranged) (node-inside combinational (observe l) ranged) near priced k zs s n p)

  pub tried-observed : (k : ℕ) (zs : List ℕ) → Tried k zs → (m : ℕ) → InRange m → at zs (node combinational (observe m)) ≡ observed_with cells ss l m
  unfolding observed_with
  tried-observed k zs s m range = trial k zs s (node combinational (observe m)) (omega (arith, node_index combinational (observe m) range))
