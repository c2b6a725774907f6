-- Outputs that are added, as pads are, change nothing of what the sweeps that set lines remember. Of request E1 (D196).
use Rattle.common_laws.proofs.Base.{List, ◌≡◌, refl, sym, ap, ◌∙◌, ℕ, ◌+◌, ◌*◌, length}
use Rattle.plans.specs.Sweep.{at, renew}
use Rattle.plans.specs.Continued.{Alike}
use Rattle.plans.specs.Trace.{mark_at}
use Rattle.plans.proofs.Laws.{renew-stores, renew-reads, alike_traces}
use Rattle.library_table.specs.Cells.{Cell}
use Rattle.netlist_table.specs.Netlist.{Statement, gates_of}
use Rattle.calculation.specs.Prices.{prices_of}
use Rattle.calculation.specs.Nodes.{Kind, set, node}
use Rattle.calculation.specs.Ways.{setting_visits, setting_turns}
use Rattle.calculation.specs.Acceptance.{BothSound}
use Rattle.calculation.specs.Added.{OutputsAdded}
use Rattle.calculation.specs.Calculation.{start}
use Rattle.calculation.proofs.Places.{Placed, start-length, start-at}
use Rattle.plan_marks.specs.Lowered.{setting_trace, mark_for, turns_for}
use Rattle.plan_marks.proofs.Rest as R

module _ (cells : List Cell) (ss ts : List Statement) (old : BothSound cells ss) (added : OutputsAdded ss ts) (prices : prices_of ts ≡ prices_of ss) (k : Kind) where
  start-same : (l v : ℕ) → Placed (set l v) → at (start ts) (node k (set l v)) ≡ at (start ss) (node k (set l v))
  start-same l v placed =
      start-at (prices_of ts) ts k (set l v) placed ∙ rw (added.inputs l, prices) refl ∙ sym (start-at (prices_of ss) ss k (set l v) placed)

  alike : Alike (R.Own cells ss old k) (start ts) (start ss)
  alike =
      record {
        long = start-length (prices_of ts) ts ∙ sym (start-length (prices_of ss) ss);
        same = λ n o. rw o.3 (start-same o.0 o.1 o.2);
      }

  remembered : ((setting_trace k cells ts).marks ≡ (setting_trace k cells ss).marks) × ((setting_trace k cells ts).time ≡ (setting_trace k cells ss).time)
  unfolding setting_trace
  remembered =
      rw added.gates
      (alike_traces renew renew-stores renew-reads (R.Own cells ss old k) (setting_visits k cells (gates_of ss)) (2 * length (gates_of ss) + 1) (start ts) (start ss)
      (R.looks cells ss old k) alike)

  pub set-mark : (l v : ℕ) → mark_for k cells ts (set l v) ≡ mark_for k cells ss (set l v)
  unfolding mark_for
  set-mark l v = ap (λ ms. mark_at ms (node k (set l v))) remembered.0

  pub set-turns : (l v : ℕ) → turns_for cells ts (set l v) ≡ turns_for cells ss (set l v)
  unfolding turns_for
  set-turns l v = ap setting_turns added.gates
