-- The turns of a sweep with their marks, and those that are passed over.
use Rattle.common_laws.proofs.Base.{Bool, false, List, [], ◌≡◌, refl, sym, ap, ◌∙◌, ℕ, zero, suc, ◌*◌, arith, length, length-append}
use Rattle.sizes.specs.Sizes as Size
use Rattle.reading.specs.Choice.{pick}
use Rattle.plans.specs.System.{Visit}
use Rattle.plans.specs.Sweep.{lower}
use Rattle.plans.specs.Idle.{in_turn, Skipped}
use Rattle.plans.specs.Trace.{Trace, trace_sweep}
use Rattle.sweep_groups.specs.Tables.{by_role}
use Rattle.sweep_turns.specs.Order.{gate_visits}
use Rattle.sweep_turns.proofs.VisitsLaws.{swept_none}
use Rattle.sweep_runs.specs.Order.{first_gates}
use Rattle.sweep_runs.proofs.Asleep.{skipped-swept}
use Rattle.plan_marks.specs.Marks.{Stands}
use Rattle.plan_marks.specs.Visits.{Traced}
use Rattle.plan_marks.proofs.Remembered.{trace-append, idle-sweep}
use Rattle.plan_marks.proofs.Marks.{stands_same}

module _ (kind : ℕ) (library netlist : List ℕ) where
  pub traced_none : (clock : ℕ) (numbers marks : List ℕ) → Traced kind library netlist [] clock numbers marks numbers marks false
  unfolding trace_sweep
  traced_none clock numbers marks = record { stands = λ t q s. s; swept = swept_none numbers; marks_long = refl }

  -- Visits that are passed over change no number, and so leave no mark.
  pub traced_skipped : {visits : ℕ → List Visit} {from to clock : ℕ} {n0 m0 n1 m1 : List ℕ} {a : Bool} → length n1 ≡ Size.numbers → Skipped lower visits from to n1
      → Traced kind library netlist (in_turn visits from) clock n0 m0 n1 m1 a
      → Traced kind library netlist (in_turn visits to) clock n0 m0 n1 m1 a
  traced_skipped {visits} {from} {to} {n1 = n1} {m1 = m1} long k f =
      record {
        stands = λ t q s. past t (f.stands t q s);
        swept = skipped-swept k f.swept;
        marks_long = f.marks_long;
      }
    where
      past : (t : Trace) → Stands kind library netlist (trace_sweep lower (in_turn visits from) t) n1 m1 → Stands kind library netlist (trace_sweep lower (in_turn visits to) t) n1 m1
      past t s =
          let u = trace_sweep lower (in_turn visits from) t in
          rw (k.split, trace-append lower (in_turn visits from) k.between t)
          (stands_same kind library netlist
          (idle-sweep k.between u (s.long ∙ sym long ∙ ap length s.numbers_are) (rw (← s.numbers_are) k.idle))
          s)

  -- A gate has two visits.
  pub gates-length : (count : ℕ) → length (first_gates 0 kind library netlist count) ≡ 2 * count
  unfolding in_turn by_role pick
  gates-length zero = refl
  gates-length (suc count) = length-append (first_gates 0 kind library netlist count) (gate_visits 0 kind library netlist count) ∙ omega (arith, gates-length count)
