-- Visits with their marks one after the other.
use Rattle.common_laws.proofs.Base.{Bool, false, ◌||◌, List, [], ◌∷◌, ◌≡◌, refl, sym, ap, ◌∙◌, ℕ, ◌+◌, le_trans, add-one, length}
use Rattle.reading.specs.Choice.{pick}
use Rattle.plans.specs.System.{Visit}
use Rattle.plans.specs.Sweep.{lower, Bounded}
use Rattle.plans.specs.Idle.{in_turn}
use Rattle.plans.specs.Trace.{trace_sweep}
use Rattle.plans.proofs.Laws.{numbers_fall, lower-stores}
use Rattle.calculation.proofs.Sweeps.{unchanged}
use Rattle.sweep_groups.specs.Tables.{by_role}
use Rattle.sweep_turns.specs.Order.{gate_visits}
use Rattle.sweep_turns.specs.Renewed.{Swept}
use Rattle.sweep_turns.proofs.VisitsLaws.{next-turn}
use Rattle.plan_marks.specs.Visits.{turn_visit, Traced}
use Rattle.plan_marks.proofs.Remembered.{trace-append, trace-time}

-- ---- what a sweep leaves of the numbers

pub swept-still : {vs : List Visit} {xs ys : List ℕ} {changed : Bool} → changed ≡ false → Swept vs xs ys changed → ys ≡ xs
swept-still {vs} {xs} e w = w.numbers ∙ unchanged lower lower-stores vs xs (sym w.flag ∙ e)

pub swept-bounded : {vs : List Visit} {xs ys : List ℕ} {changed : Bool} → Swept vs xs ys changed → Bounded xs → Bounded ys
swept-bounded {vs} {xs} w b n = rw w.numbers (le_trans (numbers_fall vs xs n) (b n))

module _ (kind : ℕ) (library netlist : List ℕ) where
  pub traced_next : (visits : ℕ → List Visit) (i : ℕ) {clock time : ℕ} {n0 m0 n1 m1 n2 m2 : List ℕ} {a b : Bool} → time ≡ clock + length (in_turn visits i)
      → Traced kind library netlist (in_turn visits i) clock n0 m0 n1 m1 a → Traced kind library netlist (visits i) time n1 m1 n2 m2 b
      → Traced kind library netlist (in_turn visits (i + 1)) clock n0 m0 n2 m2 (a || b)
  unfolding in_turn
  traced_next visits i e f g =
      record {
        stands = λ t q s.
            rw (add-one i, trace-append lower (in_turn visits i) (visits i) t)
            (g.stands (trace_sweep lower (in_turn visits i) t) (trace-time lower (in_turn visits i) t ∙ ap (λ (x : ℕ). x + length (in_turn visits i)) q ∙ sym e) (f.stands t q s));
        swept = next-turn visits i f.swept g.swept;
        marks_long = g.marks_long ∙ f.marks_long;
      }

  pub traced_gate : (g : ℕ) {clock : ℕ} {n0 m0 n1 m1 n2 m2 : List ℕ} {a b : Bool}
      → Traced kind library netlist (turn_visit kind library netlist g 0 ∷ []) clock n0 m0 n1 m1 a
      → Traced kind library netlist (turn_visit kind library netlist g 1 ∷ []) (clock + 1) n1 m1 n2 m2 b
      → Traced kind library netlist (gate_visits 0 kind library netlist g) clock n0 m0 n2 m2 (a || b)
  unfolding in_turn by_role pick
  traced_gate g f s = traced_next (λ i. turn_visit kind library netlist g i ∷ []) 1 refl f s
