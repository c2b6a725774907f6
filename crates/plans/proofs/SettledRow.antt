-- The settled row: the way by which a figure was last lowered still sums to it where sweeps have settled.
-- Were one of its needs lowered later, its sum would be lower now than the number, and the number would not be settled.
use Rattle.common_laws.proofs.Base.{List, [], ◌∷◌, ◌++◌, List-as-Memᴰ, List-Memᴰ-head, List-Memᴰ-tail, Memᴰ-append-right, append_assoc, append-nil, ◌⊎◌, inl, inr, Option, none, some}
use Rattle.common_laws.proofs.Base.{Option-some-injective, Option-none-ne-some, ◌≡◌, refl, sym, ◌∙◌, ap, subst, ℕ, zero, suc, ◌+◌, ◌*◌, ◌%◌, ◌≤◌, ◌<◌, min, ℕ_discrete, dec_le}
use Rattle.common_laws.proofs.Base.{dec_lt, le_refl, le_trans, zero-mul, suc-mul, add_comm, mod-eq_of_lt, add-mul-mod_self_right, arith, le-leb, lt-leb, lt-ltb, le-ltb, length}
use Rattle.common_laws.proofs.Base.{length-append, set, length-set, replicate, length-replicate, get_or-replicate, List-get_or-eq-default, get_or-set_same, get_or-set_other}
use Rattle.common_laws.proofs.Base.{get_or-append-add}
use Rattle.cost.specs.Cost.{most, never, ◌⊕◌, capped, counted, lesser}
use Rattle.reading.specs.Choice.{pick}
use Rattle.cost.proofs.Laws.{sum-small, sum-exact, sum_left, sum-right}
use Rattle.plans.specs.System.{Way, Visit}
use Rattle.plans.specs.Sweep.{at, sums, way, least, Rule, renew, lower, sweep, sweeps, Rests, Inside, Bounded, Once, Above}
use Rattle.plans.specs.Trace.{
  first_place,
  way_at,
  visit_at,
  Mark,
  Trace,
  mark_at,
  mark_of,
  trace_visit,
  trace_sweep,
  trace_sweeps,
  untraced,
  SettledBy,
}
use Rattle.plans.specs.Statements.{FirstLeast, TracedNumbers, TracesAgree, UnmarkedStood, SettledRow}
use Rattle.plans.proofs.Lowered.{
  sums_mono,
  way_mono,
  way_same,
  least-bound,
  least-below,
  lower_under,
  lower-here,
  lower-still,
  rests-least,
}
use Rattle.plans.proofs.Kept.{lower-stores, rule-length, rule-other, rule-bounded}
use Rattle.plans.proofs.BothRules.{renew-lower, above_lower}

-- ---- the first among the least

module _ (xs : List ℕ) (w : Way) (ws : List Way) where
  first_here : way xs w ≤ least xs ws → (first_place xs (w ∷ ws) ≡ 0) × (least xs (w ∷ ws) ≡ way xs w)
  unfolding first_place least pick lesser counted
  first_here h = (rw (le-leb (way xs w) (least xs ws) h), omega (arith, least-bound xs ws))

  first_later : least xs ws < way xs w → (first_place xs (w ∷ ws) ≡ suc (first_place xs ws)) × (least xs (w ∷ ws) ≡ least xs ws)
  unfolding first_place least pick lesser counted
  first_later h = (rw (lt-leb (way xs w) (least xs ws) h), omega (arith, least-bound xs ws))

abbrev First : List ℕ → List Way → ℕ → ℕ → Type 0
First xs ws p x = (p < length ws) × (way xs (way_at ws p) ≡ x) × ((q : ℕ) → q < p → x < way xs (way_at ws q))

first_step : (xs : List ℕ) (w : Way) (ws : List Way) → least xs ws < way xs w → First xs ws (first_place xs ws) (least xs ws) → First xs (w ∷ ws) (suc (first_place xs ws)) (least xs ws)
unfolding way_at
first_step xs w ws h r = (omega arith, r.1, before)
  where
    before : (q : ℕ) → q < suc (first_place xs ws) → least xs ws < way xs (way_at (w ∷ ws) q)
    before zero l = h
    before (suc q) l = r.2 q (omega arith)

least-none : (xs : List ℕ) → least xs [] ≡ never
unfolding least
least-none xs = refl

pub first_least : FirstLeast
first_least xs [] h = absurd (omega (arith, least-none xs))
first_least xs (w ∷ ws) h = split (dec_le (way xs w) (least xs ws)) (first_least xs ws)
  where
    split : Dec (way xs w ≤ least xs ws) → (least xs ws < never → First xs ws (first_place xs ws) (least xs ws)) → First xs (w ∷ ws) (first_place xs (w ∷ ws)) (least xs (w ∷ ws))
    split (yes l) r =
        let e : (first_place xs (w ∷ ws) ≡ 0) × (least xs (w ∷ ws) ≡ way xs w) = first_here xs w ws l in
        rw (e.0, e.1) (omega arith, unfold way_at in refl, λ q i. absurd (omega arith))
    split (no l) r =
        let e : (first_place xs (w ∷ ws) ≡ suc (first_place xs ws)) × (least xs (w ∷ ws) ≡ least xs ws) = first_later xs w ws (omega arith) in
        rw (e.0, e.1) (first_step xs w ws (omega arith) (r (rw e.1 at h)))

way-among : (ws : List Way) (p : ℕ) → p < length ws → List-as-Memᴰ (way_at ws p) ws
unfolding way_at
way-among [] p h = absurd (omega arith)
way-among (w ∷ ws) zero h = List-Memᴰ-head refl
way-among (w ∷ ws) (suc p) h = List-Memᴰ-tail (way-among ws p (omega arith))

-- ---- a lower need makes a lower sum

sum_strict : (a b c d : ℕ) → a ≤ c → b ≤ d → (a < c) ⊎ (b < d) → c ⊕ d ≤ most → a ⊕ b < c ⊕ d
sum_strict a b c d h k l m = side (sum-small c d m) l
  where
    side : c ⊕ d ≡ c + d → (a < c) ⊎ (b < d) → a ⊕ b < c ⊕ d
    side e (inl i) = rw (e, sum-exact a b (omega arith)) (omega arith)
    side e (inr i) = rw (e, sum-exact a b (omega arith)) (omega arith)

sums_strict : (ys xs ns : List ℕ) (k : ℕ) → ((n : ℕ) → at ys n ≤ at xs n) → List-as-Memᴰ k ns → at ys k < at xs k → sums xs ns ≤ most → sums ys ns < sums xs ns
unfolding sums
sums_strict ys xs [] k h i l m = elim i [ ]
sums_strict ys xs (n ∷ ns) k h (List-Memᴰ-head e) l m =
    sum_strict (at ys n) (sums ys ns) (at xs n) (sums xs ns) (h n) (sums_mono ys xs ns (λ j i. h j)) (inl (rw e at l)) m
sums_strict ys xs (n ∷ ns) k h (List-Memᴰ-tail i) l m =
    sum_strict (at ys n) (sums ys ns) (at xs n) (sums xs ns) (h n) (sums_mono ys xs ns (λ j i. h j))
    (inr (sums_strict ys xs ns k h i l (omega (arith, sum-small (at xs n) (sums xs ns) m))))
    m

way_strict : (ys xs : List ℕ) (w : Way) (k : ℕ) → ((n : ℕ) → at ys n ≤ at xs n) → List-as-Memᴰ k w.needs → at ys k < at xs k → way xs w ≤ most → way ys w < way xs w
unfolding way
way_strict ys xs w k h i l m =
    sum_strict (capped w.depth) (sums ys w.needs) (capped w.depth) (sums xs w.needs) (le_refl (capped w.depth))
    (sums_mono ys xs w.needs (λ j i. h j))
    (inr (sums_strict ys xs w.needs k h i l (omega (arith, sum-small (capped w.depth) (sums xs w.needs) m))))
    m

-- A way costs at least each node that it needs.
sums-need : (xs ns : List ℕ) (k : ℕ) → List-as-Memᴰ k ns → min (at xs k) never ≤ sums xs ns
unfolding sums
sums-need xs [] k i = elim i [ ]
sums-need xs (n ∷ ns) k (List-Memᴰ-head e) = rw e (sum_left (at xs n) (sums xs ns))
sums-need xs (n ∷ ns) k (List-Memᴰ-tail i) = omega (arith, sums-need xs ns k i, sum-right (at xs n) (sums xs ns))

way-need : (xs : List ℕ) (w : Way) (k : ℕ) → List-as-Memᴰ k w.needs → min (at xs k) never ≤ way xs w
unfolding way
way-need xs w k i = omega (arith, sums-need xs w.needs k i, sum-right (capped w.depth) (sums xs w.needs))

-- ---- the visit that is made at a time

turn_at_lem : (vs past us : List Visit) (v : Visit) (s t : ℕ) → vs ≡ past ++ (v ∷ us) → t ≡ length past + s * length vs → visit_at vs t ≡ v
unfolding visit_at
turn_at_lem vs past us v s t e c =
    let long : length vs ≡ length past + suc (length us) = ap length e ∙ length-append past (v ∷ us) in
    let place : t % length vs ≡ length past + 0 =
    ap (λ (x : ℕ). x % length vs) c ∙ add-mul-mod_self_right (length past) s (length vs) ∙ mod-eq_of_lt (omega (arith, long)) ∙ omega arith in
    rw (place, e) (get_or-append-add past (v ∷ us) 0 _)

-- ---- what holds of the marks, visit by visit

module _ (vs : List Visit) (xs : List ℕ) where
  -- The mark's way is the one at its place among the ways of a visit to the node.
  record Origin (n : ℕ) (m : Mark) : Type 0 where
    visit : Visit
    listed : List-as-Memᴰ visit vs
    same : visit.node ≡ n
    within : m.place < length visit.ways
    placed : way_at visit.ways m.place ≡ m.way
    turned : visit_at vs m.time ≡ visit

  -- It sums to the number, and its needs were lowered earlier.
  record Stands (t : Trace) (n : ℕ) (m : Mark) : Type 0 where
    sums : way t.numbers m.way ≡ at t.numbers n
    earlier : (j : ℕ) → List-as-Memᴰ j m.way.needs → (l : Mark) → mark_at t.marks j ≡ some l → l.time < m.time

  record Marked (t : Trace) (n : ℕ) (m : Mark) : Type 0 where
    past : m.time < t.time
    origin : Origin n m
    stands : at t.numbers n ≤ most → Stands t n m ⊎ (way t.numbers m.way < at t.numbers n)

  record Traced (t : Trace) : Type 0 where
    long : length t.numbers ≡ length xs
    marks_long : length t.marks ≡ length xs
    bounded : Bounded t.numbers
    unmarked : (n : ℕ) → mark_at t.marks n ≡ none → at t.numbers n ≡ at xs n
    marked : (n : ℕ) (m : Mark) → mark_at t.marks n ≡ some m → Marked t n m

  traced_start : Bounded xs → Traced (untraced xs)
  unfolding untraced
  traced_start b =
      record {
        long = refl;
        marks_long = length-replicate (length xs) none;
        bounded = b;
        unmarked = λ n e. refl;
        marked = λ n m e. absurd (Option-none-ne-some m (sym (none-at n) ∙ e));
      }
    where
      none-at : (n : ℕ) → mark_at (replicate (length xs) none) n ≡ none
      none-at n = place (dec_lt n (length xs))
        where
          place : Dec (n < length xs) → mark_at (replicate (length xs) none) n ≡ none
          place (yes h) = unfold mark_at in get_or-replicate (length xs) n none none h
          place (no h) = unfold mark_at in List-get_or-eq-default (replicate (length xs) none) none (rw (length-replicate {A = Option Mark} (length xs) none) (omega arith))

  -- A visit that lowers nothing.
  module _ (t : Trace) (v : Visit) (f : Traced t) where
    abbrev still : Trace
    still = record { numbers = t.numbers; marks = t.marks; time = suc t.time }

    visit-still : at t.numbers v.node ≤ least t.numbers v.ways → trace_visit lower t v ≡ still
    unfolding trace_visit pick
    visit-still h = rw (lower-still t.numbers v (f.bounded v.node) h, le-ltb (least t.numbers v.ways) (at t.numbers v.node) h)

    traced_still : Traced still
    traced_still =
        record {
          long = f.long;
          marks_long = f.marks_long;
          bounded = f.bounded;
          unmarked = f.unmarked;
          marked = λ n m e.
              record {
                past = omega (arith, (f.marked n m e).past);
                origin = (f.marked n m e).origin;
                stands = λ h. again n m ((f.marked n m e).stands h);
              };
        }
      where
        again : (n : ℕ) (m : Mark) → Stands t n m ⊎ (way t.numbers m.way < at t.numbers n) → Stands still n m ⊎ (way t.numbers m.way < at t.numbers n)
        again n m (inl s) = inl (record { sums = s.sums; earlier = s.earlier })
        again n m (inr l) = inr l

  -- A visit that lowers its node's number.
  module _
      (t : Trace)
      (v : Visit)
      (f : Traced t)
      (listed : List-as-Memᴰ v vs)
      (turn : visit_at vs t.time ≡ v)
      (inside : v.node < length xs)
      (falls : least t.numbers v.ways < at t.numbers v.node)
    where
      abbrev new : Mark
      new = mark_of t.numbers t.time v

      abbrev fallen : Trace
      fallen = record { numbers = lower t.numbers v; marks = set t.marks v.node (some new); time = suc t.time }

      visit_falls : trace_visit lower t v ≡ fallen
      unfolding trace_visit pick
      visit_falls = rw (lt-ltb (least t.numbers v.ways) (at t.numbers v.node) falls)

      number-here : at (lower t.numbers v) v.node ≡ least t.numbers v.ways
      unfolding lesser counted
      number-here = lower-here t.numbers v (rw f.long inside) ∙ omega (arith, least-bound t.numbers v.ways)

      mark-here : mark_at fallen.marks v.node ≡ some new
      unfolding mark_at
      mark-here = get_or-set_same t.marks v.node (some new) none (rw f.marks_long inside)

      mark-other : (n : ℕ) → (v.node ≡ n → ⊥) → mark_at fallen.marks n ≡ mark_at t.marks n
      unfolding mark_at
      mark-other n h = get_or-set_other t.marks v.node n (some new) none (λ e. h (sym e))

      number-other : (n : ℕ) → (v.node ≡ n → ⊥) → at fallen.numbers n ≡ at t.numbers n
      number-other n h = rule-other lower lower-stores t.numbers v n h

      first : First t.numbers v.ways (first_place t.numbers v.ways) (least t.numbers v.ways)
      first = first_least t.numbers v.ways (omega (arith, f.bounded v.node))

      -- The way that is now remembered does not need the node itself ..
      not_itself : (j : ℕ) → List-as-Memᴰ j new.way.needs → v.node ≡ j → ⊥
      unfolding mark_of
      not_itself j i e =
          omega (arith, way-need t.numbers new.way j i, first.1, f.bounded v.node, ap (at t.numbers) e)

      -- .. so that it still has its sum.
      marked-here : Marked fallen v.node new
      unfolding mark_of
      marked-here =
          record {
            past = omega arith;
            origin = record { visit = v; listed = listed; same = refl; within = first.0; placed = refl; turned = turn };
            stands = λ h.
                inl
                (record {
                  sums =
                      way_same fallen.numbers t.numbers new.way (λ j i. number-other j (not_itself j i))
                      ∙ first.1
                      ∙ sym number-here;
                  earlier = λ j i l e. (f.marked j l (sym (mark-other j (not_itself j i)) ∙ e)).past;
                });
          }

      -- Another mark stands as it did, or its way has now a lower sum.
      marked_other : (n : ℕ) (m : Mark) → (v.node ≡ n → ⊥) → Marked t n m → Marked fallen n m
      marked_other n m d r =
          record {
            past = omega (arith, r.past);
            origin = r.origin;
            stands = λ h.
                again (r.stands (rw (number-other n d) at h)) (dec_lt (way fallen.numbers m.way) (at fallen.numbers n)) (rw (number-other n d) at h);
          }
        where
          below : way fallen.numbers m.way ≤ way t.numbers m.way
          below = way_mono fallen.numbers t.numbers m.way (lower_under t.numbers v).below

          again : Stands t n m ⊎ (way t.numbers m.way < at t.numbers n) → Dec (way fallen.numbers m.way < at fallen.numbers n) → at t.numbers n ≤ most → Stands fallen n m ⊎ (way fallen.numbers m.way < at fallen.numbers n)
          again s (yes l) h = inr l
          again (inr s) (no l) h = inr (omega (arith, below, number-other n d))
          again (inl s) (no l) h =
              inl
              (record {
                sums = omega (arith, below, number-other n d, s.sums);
                earlier = λ j i k e. s.earlier j i k (sym (mark-other j (kept j i)) ∙ e);
              })
            where
              kept : (j : ℕ) → List-as-Memᴰ j m.way.needs → v.node ≡ j → ⊥
              kept j i e =
                  omega (
                    arith,
                    way_strict fallen.numbers t.numbers m.way v.node (lower_under t.numbers v).below (rw (← e) at i)
                        (omega (arith, number-here)) (omega (arith, s.sums)),
                    s.sums,
                    number-other n d,
                  )

      traced_falls : Traced fallen
      traced_falls =
          record {
            long = rule-length lower lower-stores t.numbers v ∙ f.long;
            marks_long = length-set t.marks v.node (some new) ∙ f.marks_long;
            bounded = rule-bounded lower lower-stores t.numbers v f.bounded;
            unmarked = λ n e. free n e (ℕ_discrete v.node n);
            marked = λ n m e. place n m e (ℕ_discrete v.node n);
          }
        where
          free : (n : ℕ) → mark_at fallen.marks n ≡ none → Dec (v.node ≡ n) → at fallen.numbers n ≡ at xs n
          free n e (yes q) = absurd (Option-none-ne-some new (sym e ∙ ap (mark_at fallen.marks) (sym q) ∙ mark-here))
          free n e (no q) = number-other n q ∙ f.unmarked n (sym (mark-other n q) ∙ e)

          place : (n : ℕ) (m : Mark) → mark_at fallen.marks n ≡ some m → Dec (v.node ≡ n) → Marked fallen n m
          place n m e (yes q) =
              let g : new ≡ m = Option-some-injective new m (sym mark-here ∙ ap (mark_at fallen.marks) q ∙ e) in
              subst (λ (j : ℕ). Marked fallen j m) q (subst (λ (l : Mark). Marked fallen v.node l) g marked-here)
          place n m e (no q) = marked_other n m q (f.marked n m (sym (mark-other n q) ∙ e))

  module _ (inside : Inside vs xs) where
    traced_visit : (t : Trace) (v : Visit) → List-as-Memᴰ v vs → visit_at vs t.time ≡ v → Traced t → Traced (trace_visit lower t v)
    traced_visit t v i r f = split (dec_lt (least t.numbers v.ways) (at t.numbers v.node))
      where
        split : Dec (least t.numbers v.ways < at t.numbers v.node) → Traced (trace_visit lower t v)
        split (yes h) = rw (visit_falls t v f i r (inside v i) h) (traced_falls t v f i r (inside v i) h)
        split (no h) = rw (visit-still t v f (omega arith)) (traced_still t v f)

    -- After the visits `past` of sweep s, those left are `us`.
    traced_sweep : (s : ℕ) (past us : List Visit) (t : Trace) → vs ≡ past ++ us → t.time ≡ length past + s * length vs → Traced t
        → Traced (trace_sweep lower us t) × ((trace_sweep lower us t).time ≡ length vs + s * length vs)
    unfolding trace_sweep trace_visit
    traced_sweep s past [] t e c f = (f, c ∙ ap (λ (x : ℕ). x + s * length vs) (sym (ap length (e ∙ append-nil past))))
    traced_sweep s past (v ∷ us) t e c f =
        traced_sweep s (past ++ (v ∷ [])) us (trace_visit lower t v) (e ∙ sym (append_assoc past (v ∷ []) us))
        (rw (length-append past (v ∷ [])) (omega (arith, c)))
        (traced_visit t v (rw e (Memᴰ-append-right past (List-Memᴰ-head refl))) (turn_at_lem vs past us v s t.time e c) f)

    traced_sweeps : (k s : ℕ) (t : Trace) → t.time ≡ s * length vs → Traced t → Traced (trace_sweeps lower vs k t)
    unfolding trace_sweeps
    traced_sweeps zero s t c f = f
    traced_sweeps (suc k) s t c f =
        let r = traced_sweep s [] vs t refl (omega (arith, c)) f in
        traced_sweeps k (suc s) (trace_sweep lower vs t) (r.1 ∙ sym (suc-mul s (length vs) ∙ add_comm (s * length vs) (length vs))) r.0

-- ---- the numbers are those of the sweeps

pub sweep-numbers : (rule : Rule) (vs : List Visit) (t : Trace) → (trace_sweep rule vs t).numbers ≡ sweep rule vs t.numbers
unfolding trace_sweep trace_visit sweep
sweep-numbers rule [] t = refl
sweep-numbers rule (v ∷ vs) t = sweep-numbers rule vs (trace_visit rule t v)

sweeps-numbers : (rule : Rule) (vs : List Visit) (k : ℕ) (t : Trace) → (trace_sweeps rule vs k t).numbers ≡ sweeps rule vs k t.numbers
unfolding trace_sweeps sweeps
sweeps-numbers rule vs zero t = refl
sweeps-numbers rule vs (suc k) t =
    sweeps-numbers rule vs k (trace_sweep rule vs t) ∙ ap (sweeps rule vs k) (sweep-numbers rule vs t)

pub traced_numbers : TracedNumbers
unfolding untraced
traced_numbers rule vs k xs = sweeps-numbers rule vs k (untraced xs)

-- ---- by both rules

module _ (vs : List Visit) (once : Once vs) where
  visit-agrees : (t : Trace) (v : Visit) → least t.numbers v.ways ≤ at t.numbers v.node → trace_visit renew t v ≡ trace_visit lower t v
  unfolding trace_visit
  visit-agrees t v h = rw (renew-lower t.numbers v h)

  visit-above : (t : Trace) (v : Visit) → List-as-Memᴰ v vs → Above vs t.numbers → Above vs (trace_visit lower t v).numbers
  unfolding trace_visit
  visit-above t v m h = above_lower vs once t.numbers v m h

  trace-agrees : (us : List Visit) (t : Trace) → ((v : Visit) → List-as-Memᴰ v us → List-as-Memᴰ v vs) → Above vs t.numbers → (trace_sweep renew us t ≡ trace_sweep lower us t) × Above vs (trace_sweep lower us t).numbers
  unfolding trace_sweep
  trace-agrees [] t i h = (refl, h)
  trace-agrees (v ∷ us) t i h =
      let m : List-as-Memᴰ v vs = i v (List-Memᴰ-head refl) in
      let r : (trace_sweep renew us (trace_visit lower t v) ≡ trace_sweep lower us (trace_visit lower t v)) × Above vs (trace_sweep lower us (trace_visit lower t v)).numbers =
      trace-agrees us (trace_visit lower t v) (λ u k. i u (List-Memᴰ-tail k)) (visit-above t v m h) in
      (ap (trace_sweep renew us) (visit-agrees t v (h v m)) ∙ r.0, r.1)

  traces_same : (k : ℕ) (t : Trace) → Above vs t.numbers → trace_sweeps renew vs k t ≡ trace_sweeps lower vs k t
  unfolding trace_sweeps
  traces_same zero t h = refl
  traces_same (suc k) t h =
      let r : (trace_sweep renew vs t ≡ trace_sweep lower vs t) × Above vs (trace_sweep lower vs t).numbers =
      trace-agrees vs t (λ v m. m) h in
      ap (trace_sweeps renew vs k) r.0 ∙ traces_same k (trace_sweep lower vs t) r.1

pub traces_agree : TracesAgree
unfolding untraced
traces_agree vs k xs once above = traces_same vs once k (untraced xs) above

-- ---- where sweeps have settled

pub unmarked-stood : UnmarkedStood
unmarked-stood vs k xs bounded inside n e =
    rw (← traced_numbers lower vs k xs)
    ((traced_sweeps vs xs inside k 0 (untraced xs) (unfold untraced in sym (zero-mul (length vs))) (traced_start vs xs bounded)).unmarked n e)

pub settled_row : SettledRow
settled_row vs k xs bounded inside rest n m e h =
    row (f.marked n m e) ((f.marked n m e).stands (rw (← traced_numbers lower vs k xs) at h))
  where
    t : Trace
    t = trace_sweeps lower vs k (untraced xs)

    f : Traced vs xs t
    f = traced_sweeps vs xs inside k 0 (untraced xs) (unfold untraced in sym (zero-mul (length vs))) (traced_start vs xs bounded)

    settled : Rests lower vs t.numbers
    settled = rw (traced_numbers lower vs k xs) rest

    -- At rest the number is no more than the way's sum.
    least_row : Marked vs xs t n m → at t.numbers n ≤ way t.numbers m.way
    least_row r =
        rw (← r.origin.same)
        (le_trans
        (rests-least vs t.numbers (λ v i. rw f.long (inside v i)) settled r.origin.visit r.origin.listed)
        (least-below t.numbers r.origin.visit.ways m.way
        (rw r.origin.placed at (way-among r.origin.visit.ways m.place r.origin.within))))

    need : (j : ℕ) (l : Mark) → ((i : Mark) → mark_at t.marks j ≡ some i → i.time < l.time) → (o : Option Mark) → mark_at t.marks j ≡ o → ((mark_at t.marks j ≡ none) × (at t.numbers j ≡ at xs j)) ⊎ ((i : Mark) × (mark_at t.marks j ≡ some i) × (i.time < l.time))
    need j l g none q = inl (q, f.unmarked j q)
    need j l g (some i) q = inr (i, q, g i q)

    row : Marked vs xs t n m → Stands vs xs t n m ⊎ (way t.numbers m.way < at t.numbers n) → SettledBy vs xs t n m
    row r (inr l) = absurd (omega (arith, least_row r))
    row r (inl s) =
        record {
          visit = r.origin.visit;
          listed = r.origin.listed;
          same = r.origin.same;
          within = r.origin.within;
          placed = r.origin.placed;
          turned = r.origin.turned;
          sums = s.sums;
          earlier = λ j i. need j m (s.earlier j i) (mark_at t.marks j) refl;
        }
