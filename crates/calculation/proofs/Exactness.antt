-- Demand 3 for every number of an analysis: each is what document 01's plans make it.
use Rattle.common_laws.proofs.Base.{false, true, true≢false, List, List-Memᴰ-head, List-Memᴰ-tail, ◌≡◌, refl, sym, ◌∙◌, ℕ, ◌-◌, ◌≤◌, ◌<◌, dec_lt, arith, length, get_or}
use Rattle.common_laws.proofs.Base.{List-get_or-eq-default}
use Rattle.cost.specs.Cost.{never}
use Rattle.plans.specs.System as General
use Rattle.plans.specs.Sweep.{at}
use Rattle.plans.specs.Exact as GeneralExact
use Rattle.plans.proofs.Laws.{at_getD, first_start, stages-exact, stands_carried}
use Rattle.library_table.specs.Cells.{Cell}
use Rattle.netlist_table.specs.Netlist.{Statement, gates_of, mentioned}
use Rattle.calculation.specs.Nodes.{Kind, Purpose, line_of, node}
use Rattle.calculation.specs.Prices.{Pricing, Figures}
use Rattle.calculation.specs.Ways.{pin_line}
use Rattle.calculation.specs.Acceptance.{BothSound}
use Rattle.calculation.specs.Calculation.{start_at, stages, analysed_at}
use Rattle.calculation.specs.Settled.{in_order}
use Rattle.calculation.specs.LinePlans.{Plan, ExactAt, cost_at}
use Rattle.calculation.specs.LinePlans as P
use Rattle.calculation.proofs.Places.{Placed, node-inside}
use Rattle.calculation.proofs.Visits.{getD_listed}
use Rattle.netlist_table.specs.Netlist as NL
use Rattle.netlist_table.proofs.Laws.{marked-mentioned, gate-mentioned}
use Rattle.calculation.proofs.Acceptance.{pin-count}
use Rattle.calculation.proofs.Bounds.{apart, works, settled, all-inside, numbers-length, numbers-bounded}
use Rattle.calculation.specs.Systems.{system_at}
use Rattle.calculation.proofs.PlansAlike.{start_first, generally, written}

module _ (cells : List Cell) (ss : List Statement) (sound : BothSound cells ss) (price : Pricing) (figures : Figures price ss) where
  -- The theorem of crate `plans` at this netlist.
  pub generally-exact : (n : ℕ) → GeneralExact.Exact (system_at price cells ss) n (at (analysed_at price cells ss).numbers n)
  generally-exact =
      stages-exact (system_at price cells ss) (stages cells (gates_of ss)) (start_at price ss) (analysed_at price cells ss).numbers (in_order (analysed_at price cells ss).counts) refl
      (all-inside cells ss sound price figures) (apart cells ss sound) (works cells ss sound price figures) (first_start (system_at price cells ss) (start_at price ss) (start_first price ss figures))
      (settled cells ss sound price figures)

  module _ (k : Kind) (p : Purpose) (placed : Placed p) where
    -- What is exact among the plans of crate `plans` is exact among document 01's.
    pub exact-here : (x : ℕ) → GeneralExact.Exact (system_at price cells ss) (node k p) x → ExactAt price cells ss k p x
    exact-here x e =
        stands_carried (λ q. General.cost q) (λ d. cost_at price d) (λ q. written cells ss sound price figures q k p placed refl)
        (λ d. generally cells ss sound price figures d) x e

    here : at (analysed_at price cells ss).numbers (node k p) ≡ get_or (analysed_at price cells ss).numbers (node k p) 0
    here = at_getD (analysed_at price cells ss).numbers (node k p) 0 (rw (numbers-length cells ss sound price figures) (node-inside k p placed))

    pub exact : ExactAt price cells ss k p (get_or (analysed_at price cells ss).numbers (node k p) 0)
    exact = rw here at (exact-here (at (analysed_at price cells ss).numbers (node k p)) (generally-exact (node k p)))

-- ---- unmentioned lines

module _ (cells : List Cell) (ss : List Statement) (sound : BothSound cells ss) (price : Pricing) (figures : Figures price ss) where
  -- A line with a plan is mentioned.
  plan-mentioned : (k : Kind) (p : Purpose) → Plan cells ss k p → mentioned (line_of p) ss ≡ true
  unfolding pin_line
  plan-mentioned k p (P.Plan.input {l = l} h e) = marked-mentioned NL.input l ss e
  plan-mentioned k p (P.Plan.row {l = l} g m q r i u ps) = gate-mentioned g l ss m (List-Memᴰ-head (sym q))
  plan-mentioned k p (P.Plan.output {l = l} e) = marked-mentioned NL.output l ss e
  plan-mentioned k p (P.Plan.through {l = l} g m i a b q r j ps) =
      gate-mentioned g l ss m (List-Memᴰ-tail (rw q at (getD_listed g.pins (i - 1) 0 (omega (arith, pin-count sound g m)))))

  -- "unmentioned lines hold never"
  pub unmentioned : (k : Kind) (p : Purpose) → Placed p → mentioned (line_of p) ss ≡ false → get_or (analysed_at price cells ss).numbers (node k p) 0 ≡ never
  unmentioned k p h e = (exact cells ss sound price figures k p h).is_never.1 (λ q. true≢false (sym (plan-mentioned k p q) ∙ e))

  -- No entry is above never.
  pub entry-bounded : (n : ℕ) → get_or (analysed_at price cells ss).numbers n 0 ≤ never
  entry-bounded n = place (dec_lt n (length (analysed_at price cells ss).numbers))
    where
      place : Dec (n < length (analysed_at price cells ss).numbers) → get_or (analysed_at price cells ss).numbers n 0 ≤ never
      place (yes h) = rw (← at_getD (analysed_at price cells ss).numbers n 0 h) (numbers-bounded cells ss sound price figures n)
      place (no h) = rw (List-get_or-eq-default (analysed_at price cells ss).numbers 0 {n = n} (omega arith)) (omega arith)
