-- Sweeps that remember, one after the other: where they rest, they remember nothing more.
use Rattle.common_laws.proofs.Base.{Bool, true, false, List, [], ◌∷◌, ◌++◌, List-Memᴰ-head, List-Memᴰ-tail, Option, some, ◌≡◌, refl, sym, ap, ◌∙◌, ℕ, zero, suc, ◌+◌, ◌≤◌, ◌<◌}
use Rattle.common_laws.proofs.Base.{dec_lt, le_trans, arith, le-ltb, ltb, length, set_out}
use Rattle.reading.specs.Choice.{pick}
use Rattle.cost.specs.Cost.{lesser, counted}
use Rattle.plans.specs.System.{Visit}
use Rattle.plans.specs.Sweep.{at, least, Rule, lower, Rests, Inside}
use Rattle.plans.specs.Idle.{Idles}
use Rattle.plans.specs.Trace.{Mark, Trace, mark_of, trace_visit, trace_sweep, trace_sweeps}
use Rattle.plans.proofs.Laws.{at_set_same, least-bound, lower-still, rests-least}

pub trace-append : (rule : Rule) (us vs : List Visit) (t : Trace) → trace_sweep rule (us ++ vs) t ≡ trace_sweep rule vs (trace_sweep rule us t)
unfolding trace_sweep
trace-append rule [] vs t = refl
trace-append rule (u ∷ us) vs t = trace-append rule us vs (trace_visit rule t u)

pub trace-time : (rule : Rule) (vs : List Visit) (t : Trace) → (trace_sweep rule vs t).time ≡ t.time + length vs
unfolding trace_sweep trace_visit
trace-time rule [] t = omega arith
trace-time rule (v ∷ vs) t = omega (arith, trace-time rule vs (trace_visit rule t v))

-- One sweep more.
pub traces_last : (rule : Rule) (vs : List Visit) (k : ℕ) (t : Trace) → trace_sweeps rule vs (suc k) t ≡ trace_sweep rule vs (trace_sweeps rule vs k t)
unfolding trace_sweeps
traces_last rule vs zero t = refl
traces_last rule vs (suc k) t = traces_last rule vs k (trace_sweep rule vs t)

pub traces_add : (rule : Rule) (vs : List Visit) (j k : ℕ) (t : Trace) → trace_sweeps rule vs (j + k) t ≡ trace_sweeps rule vs k (trace_sweeps rule vs j t)
unfolding trace_sweeps
traces_add rule vs zero k t = let e : 0 + k ≡ k = omega arith in rw e refl
traces_add rule vs (suc j) k t =
    let e : suc j + k ≡ suc (j + k) = omega arith in
    rw e (traces_add rule vs j k (trace_sweep rule vs t))

-- ---- where nothing is lowered

-- The two remember the same, if not at the same time.
pub record Same (s t : Trace) : Type 0 where
  pub numbers : s.numbers ≡ t.numbers
  pub marks : s.marks ≡ t.marks

-- A visit whose number is not above its least sum,
pub idle-visit : (t : Trace) (v : Visit) → at t.numbers v.node ≤ least t.numbers v.ways → Same (trace_visit lower t v) t
unfolding trace_visit pick
idle-visit t v h =
    record {
      numbers = lower-still t.numbers v (le_trans h (least-bound t.numbers v.ways)) h;
      marks = rw (le-ltb (least t.numbers v.ways) (at t.numbers v.node) h);
    }

-- and one that changes nothing: of a node past the table's end there is no mark either.
unchanged-visit : (t : Trace) (v : Visit) → length t.marks ≡ length t.numbers → lower t.numbers v ≡ t.numbers → Same (trace_visit lower t v) t
unfolding trace_visit pick lower lesser counted
unchanged-visit t v long e = place (dec_lt v.node (length t.numbers))
  where
    either_way : (b : Bool) {xs ys : List (Option Mark)} → xs ≡ ys → pick b xs ys ≡ ys
    either_way true q = q
    either_way false q = refl

    place : Dec (v.node < length t.numbers) → Same (trace_visit lower t v) t
    place (yes b) =
        let xs = t.numbers in
        let kept : at xs v.node ≡ lesser (at xs v.node) (least xs v.ways) =
        ap (λ (zs : List ℕ). at zs v.node) (sym e) ∙ at_set_same xs v.node (lesser (at xs v.node) (least xs v.ways)) b in
        idle-visit t v (omega (arith, kept, least-bound xs v.ways))
    place (no b) =
        record {
          numbers = e;
          marks = either_way (ltb (least t.numbers v.ways) (at t.numbers v.node)) (set_out t.marks v.node (some (mark_of t.numbers t.time v)) (omega arith));
        }

pub idle-sweep : (vs : List Visit) (t : Trace) → length t.marks ≡ length t.numbers → Idles lower t.numbers vs → Same (trace_sweep lower vs t) t
unfolding trace_sweep
idle-sweep [] t long h = record { numbers = refl; marks = refl }
idle-sweep (v ∷ vs) t long h =
    let one = unchanged-visit t v long (h v (List-Memᴰ-head refl)) in
    let rest =
    idle-sweep vs (trace_visit lower t v) (ap length one.marks ∙ long ∙ ap length (sym one.numbers))
    (rw one.numbers (λ u m. h u (List-Memᴰ-tail m))) in
    record { numbers = rest.numbers ∙ one.numbers; marks = rest.marks ∙ one.marks }

idle-sweeps : (vs : List Visit) (k : ℕ) (t : Trace) → length t.marks ≡ length t.numbers → Idles lower t.numbers vs → Same (trace_sweeps lower vs k t) t
unfolding trace_sweeps
idle-sweeps vs zero t long h = record { numbers = refl; marks = refl }
idle-sweeps vs (suc k) t long h =
    let one = idle-sweep vs t long h in
    let rest =
    idle-sweeps vs k (trace_sweep lower vs t) (ap length one.marks ∙ long ∙ ap length (sym one.numbers))
    (rw one.numbers h) in
    record { numbers = rest.numbers ∙ one.numbers; marks = rest.marks ∙ one.marks }

-- Sweeps after one that changes nothing remember nothing more.
pub resting : (vs : List Visit) (k : ℕ) (t : Trace) → length t.marks ≡ length t.numbers → Inside vs t.numbers → Rests lower vs t.numbers → Same (trace_sweeps lower vs k t) t
resting vs k t long inside rests =
    idle-sweeps vs k t long
    (λ v m.
    let h = rests-least vs t.numbers inside rests v m in
    lower-still t.numbers v (le_trans h (least-bound t.numbers v.ways)) h)
