-- Wherever the number of a purpose is a figure, the marks tell a plan for it: one in document 01's own sense, whose rows are those
-- by which the sweeps last lowered each number, at just that cost, than which none costs less. So it is of a line set to a value
-- (document 02, K3) and of a line observed (request E1), loops or not.
use Rattle.common_laws.proofs.Base.{List, [], ◌≡◌, refl, sym, ◌∙◌, ℕ, suc, ◌≤◌, ◌<◌, arith, get_or}
use Rattle.cost.specs.Cost.{most}
use Rattle.plans.specs.Sweep.{at}
use Rattle.plans.proofs.Laws.{at_getD}
use Rattle.library_table.specs.Cells.{Cell}
use Rattle.netlist_table.specs.Netlist.{Statement}
use Rattle.calculation.specs.Prices.{prices_of}
use Rattle.calculation.specs.Nodes.{Kind, Purpose, observe, node}
use Rattle.calculation.specs.Acceptance.{BothSound}
use Rattle.calculation.specs.Calculation.{analysed}
use Rattle.calculation.proofs.Laws.{own-figures, exact}
use Rattle.calculation.proofs.Places.{Placed, node-inside}
use Rattle.calculation.proofs.Bounds.{numbers-length}
use Rattle.plan_marks.specs.Lowered.{observing_trace}
use Rattle.plan_marks.proofs.Observed.{reported}
use Rattle.plan_text.specs.PlanText.{stamp_of, text_for}
use Rattle.plan_text.specs.Plan.{Told, Seen}
use Rattle.plan_text.proofs.Planned as P

module _ (cells : List Cell) (ss : List Statement) (sound : BothSound cells ss) (k : Kind) where
  module _ (Covered : Purpose → Type 0) (code : ℕ → ℕ → Purpose → List ℕ) (codes : P.Codes cells ss sound k Covered code) where
    -- .. and what is written of it is its text.
    pub figure-told : (p : Purpose) → Placed p → get_or (analysed cells ss).numbers (node k p) 0 ≤ most
        → Told cells ss k p × (Covered p → (before : ℕ) → stamp_of k cells ss p < before → code before 0 p ≡ text_for k cells ss p)
    unfolding text_for
    figure-told p placed small =
        let n = node k p in
        let entry : at (analysed cells ss).numbers n ≡ get_or (analysed cells ss).numbers n 0 =
        at_getD (analysed cells ss).numbers n 0 (rw (numbers-length cells ss sound (prices_of ss) (own-figures sound)) (node-inside k p placed)) in
        let same : at (observing_trace k cells ss).numbers n ≡ get_or (analysed cells ss).numbers n 0 = sym (reported cells ss sound k p placed) ∙ entry in
        let s = P.shown cells ss sound k Covered code codes (suc (stamp_of k cells ss p)) p placed (rw same small) (omega arith) in
        let text = s.tree (suc (stamp_of k cells ss p)) 0 (omega arith) in (
          record {
            plan = s.plan;
            lowered = s.lowered;
            text = text;
            costs = s.costs ∙ same;
            least = λ q. rw (s.costs ∙ same) ((((exact cells ss sound (prices_of ss) (own-figures sound) k p placed).figure _ small).0 refl).1 q);
          },
          λ c before h. s.written c before 0 h ∙ sym text,
        )

  nothing : P.Codes cells ss sound k (λ p. ⊥) (λ before depth p. [])
  nothing = record { unmarked_code = λ p placed q. absurd q; marked_code = λ p placed q. absurd q; covers = λ g role d h q. q }

  -- Of whatever purpose, and of a line observed: the promise of request E1, whose call is to come (D196).
  pub all_told : (p : Purpose) → Placed p → get_or (analysed cells ss).numbers (node k p) 0 ≤ most → Told cells ss k p
  all_told p placed small = (figure-told (λ p. ⊥) (λ before depth p. []) nothing p placed small).0

  pub seen : (l : ℕ) → Placed (observe l) → get_or (analysed cells ss).numbers (node k (observe l)) 0 ≤ most → Seen cells ss k l
  seen l placed small = all_told (observe l) placed small
