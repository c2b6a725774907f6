-- A mark's time is before the end of the sweeps, which are few.
use Rattle.common_laws.proofs.Base.{List, [], ◌∷◌, ◌⊎◌, inl, inr, Option, none, some, Option-some-injective, Option-none-ne-some, ◌≡◌, sym, ap, subst, ◌∙◌, ℕ, zero, suc, ◌+◌}
use Rattle.common_laws.proofs.Base.{◌*◌, ◌≤◌, ◌<◌, ℕ_discrete, dec_lt, arith, lt-ltb, le-ltb, length, get_or, set, replicate, length-replicate, get_or-replicate, List-get_or-eq-default}
use Rattle.common_laws.proofs.Base.{get_or-set_same, get_or-set_other, set_out}
use Rattle.sizes.specs.Sizes as Size
use Rattle.reading.specs.Choice.{pick}
use Rattle.plans.specs.System.{Visit}
use Rattle.plans.specs.Sweep.{at, least, lower}
use Rattle.plans.specs.Trace.{Mark, Trace, mark_at, mark_of, trace_visit, trace_sweep, trace_sweeps, untraced}
use Rattle.library_table.specs.Cells.{Cell}
use Rattle.netlist_table.specs.Netlist.{Statement, gates_of}
use Rattle.calculation.specs.Nodes.{Kind}
use Rattle.calculation.specs.Acceptance.{BothSound}
use Rattle.calculation.specs.Calculation.{start}
use Rattle.calculation.proofs.Visits.{setting-length}
use Rattle.plan_marks.specs.Lowered.{setting_trace}
use Rattle.plan_marks.proofs.Remembered.{trace-time}
use Rattle.plan_marks.proofs.Rest.{visits, most-sweeps, trace-lower}

-- Every mark was made before the present time.
abbrev Timely : Trace → Type 0
Timely t = (n : ℕ) (m : Mark) → mark_at t.marks n ≡ some m → m.time < t.time

mark_set : (ms : List (Option Mark)) (i n : ℕ) (new m : Mark) → mark_at (set ms i (some new)) n ≡ some m → (new ≡ m) ⊎ (mark_at ms n ≡ some m)
unfolding mark_at
mark_set ms i n new m e = place (ℕ_discrete n i) (dec_lt i (length ms))
  where
    place : Dec (n ≡ i) → Dec (i < length ms) → (new ≡ m) ⊎ (get_or ms n none ≡ some m)
    place (no q) d = inr (sym (get_or-set_other ms i n (some new) none q) ∙ e)
    place (yes q) (yes h) = inl (Option-some-injective new m (sym (get_or-set_same ms i (some new) none h) ∙ ap (λ (j : ℕ). get_or (set ms i (some new)) j none) (sym q) ∙ e))
    place (yes q) (no h) = inr (ap (λ (ns : List (Option Mark)). get_or ns n none) (sym (set_out ms i (some new) (omega arith))) ∙ e)

timely-visit : (t : Trace) (v : Visit) → Timely t → Timely (trace_visit lower t v)
unfolding trace_visit pick mark_of
timely-visit t v h n m = split (dec_lt (least t.numbers v.ways) (at t.numbers v.node))
  where
    side : (mark_of t.numbers t.time v ≡ m) ⊎ (mark_at t.marks n ≡ some m) → m.time < suc t.time
    side (inl q) = omega (arith, ap (λ (x : Mark). x.time) q)
    side (inr q) = omega (arith, h n m q)

    split : Dec (least t.numbers v.ways < at t.numbers v.node) → mark_at (trace_visit lower t v).marks n ≡ some m → m.time < suc t.time
    split (yes l) e = side (mark_set t.marks v.node n (mark_of t.numbers t.time v) m (rw (lt-ltb (least t.numbers v.ways) (at t.numbers v.node) l) at e))
    split (no l) e = side (inr (rw (le-ltb (least t.numbers v.ways) (at t.numbers v.node) (omega arith)) at e))

timely-sweep : (vs : List Visit) (t : Trace) → Timely t → Timely (trace_sweep lower vs t)
unfolding trace_sweep
timely-sweep [] t h = h
timely-sweep (v ∷ vs) t h = timely-sweep vs (trace_visit lower t v) (timely-visit t v h)

timely-sweeps : (vs : List Visit) (k : ℕ) (t : Trace) → Timely t → Timely (trace_sweeps lower vs k t)
unfolding trace_sweeps
timely-sweeps vs zero t h = h
timely-sweeps vs (suc k) t h = timely-sweeps vs k (trace_sweep lower vs t) (timely-sweep vs t h)

timely-start : (xs : List ℕ) → Timely (untraced xs)
unfolding untraced mark_at
timely-start xs n m e = absurd (Option-none-ne-some m (sym (unmarked (dec_lt n (length xs))) ∙ e))
  where
    unmarked : Dec (n < length xs) → get_or (replicate {A = Option Mark} (length xs) none) n none ≡ none
    unmarked (yes h) = get_or-replicate (length xs) n none none h
    unmarked (no h) = List-get_or-eq-default (replicate (length xs) none) none {n = n} (rw (length-replicate {A = Option Mark} (length xs) none) (omega arith))

sweeps-time : (vs : List Visit) → length vs ≤ 2 * Size.gates → (k : ℕ) (t : Trace) → (trace_sweeps lower vs k t).time ≤ t.time + 2 * Size.gates * k
unfolding trace_sweeps
sweeps-time vs h zero t = omega arith
sweeps-time vs h (suc k) t = omega (arith, sweeps-time vs h k (trace_sweep lower vs t), trace-time lower vs t)

module _ (cells : List Cell) (ss : List Statement) (sound : BothSound cells ss) (k : Kind) where
  pub early : (n : ℕ) (m : Mark) → mark_at (setting_trace k cells ss).marks n ≡ some m → m.time < 2 * Size.gates * (2 * Size.gates + 1)
  unfolding untraced
  early n m e =
      let t = trace_sweeps lower (visits cells ss sound k) (most-sweeps cells ss sound k) (untraced (start ss)) in
      let q : mark_at t.marks n ≡ some m = ap (λ (x : Trace). mark_at x.marks n) (sym (trace-lower cells ss sound k)) ∙ e in
      let before = timely-sweeps (visits cells ss sound k) (most-sweeps cells ss sound k) (untraced (start ss)) (timely-start (start ss)) n m q in
      let gates = sound.netlist.few in
      omega (arith, before, gates, sweeps-time (visits cells ss sound k) (omega (arith, gates, setting-length k cells (gates_of ss))) (most-sweeps cells ss sound k) (untraced (start ss)))

  -- .. and before their end.
  pub timely : (n : ℕ) (m : Mark) → mark_at (setting_trace k cells ss).marks n ≡ some m → m.time < (setting_trace k cells ss).time
  timely n m =
      subst (λ (t : Trace). mark_at t.marks n ≡ some m → m.time < t.time) (sym (trace-lower cells ss sound k))
      (timely-sweeps (visits cells ss sound k) (most-sweeps cells ss sound k) (untraced (start ss)) (timely-start (start ss)) n m)
