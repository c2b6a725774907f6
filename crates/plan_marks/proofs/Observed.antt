-- The sweeps that observe lines, of one kind, from the numbers that those that set lines leave: they rest after as many as
-- document 01 allows, what they remember tells the way of each number, and their numbers are those reported.
use Rattle.common_laws.proofs.Base.{List, none, some, ◌≡◌, refl, sym, ap, ◌∙◌, ℕ, ◌+◌, ◌*◌, ◌%◌, ◌≤◌, le_trans, arith, length}
use Rattle.sizes.specs.Sizes as Size
use Rattle.cost.specs.Cost.{most}
use Rattle.plans.specs.System.{Visit}
use Rattle.plans.specs.Sweep.{at, renew, lower, sweeps, Rests, run, Settles, Inside, Bounded, Visited}
use Rattle.plans.specs.Stages.{Stages, Stages.ended, Stages.stage}
use Rattle.plans.specs.Continued.{Looks}
use Rattle.plans.specs.Statements.{SettlesWithin}
use Rattle.plans.specs.Trace.{Mark, Trace, mark_at, SettledBy}
use Rattle.plans.proofs.Laws.{traced_numbers, unmarked-stood, settled_row, settled_stays, lower-reads, alike-settles, settles-once, settles-other, settles-length, settles_under, renew-stores, lower-stores, left_here}
use Rattle.library_table.specs.Cells.{Cell}
use Rattle.netlist_table.specs.Netlist.{Gate, Statement, gates_of}
use Rattle.calculation.specs.Prices.{prices_of}
use Rattle.calculation.specs.Nodes.{Kind, combinational, sequential, kind_number, Purpose, set, observe, node}
use Rattle.calculation.specs.Ways.{cell_of, asked, purpose_of, setting_visits, observing_visits}
use Rattle.calculation.specs.Acceptance.{BothSound}
use Rattle.calculation.specs.Calculation.{start, stages, analysed}
use Rattle.calculation.proofs.Laws.{own-figures}
use Rattle.calculation.proofs.Places.{Placed, kind-small, node_index, start-length, start-bounded}
use Rattle.calculation.proofs.Visits.{Observes, visiting_node, visiting_more, Offer, offer, offer-need, observing_from, observes-has, asks_named}
use Rattle.calculation.proofs.Acceptance.{purpose_placed, asked-placed}
use Rattle.calculation.proofs.Bounds.{visiting_inside, setting-visited, observing-visited, observing-works, settled}
use Rattle.plan_marks.specs.Lowered.{setting_trace, observing_trace}
use Rattle.plan_marks.proofs.Rest as R

module _ (cells : List Cell) (ss : List Statement) (sound : BothSound cells ss) where
  abbrev gs : List Gate
  gs = gates_of ss

  -- ---- which nodes a run visits

  not-observed : (j k : Kind) (l v : ℕ) → Placed (set l v) → Visited (observing_visits j cells gs) (node k (set l v)) → ⊥
  not-observed j k l v placed x =
      omega (arith, observing-visited cells ss sound j (node k (set l v)) x, node_index k (set l v) placed, placed.1, kind-small k)

  not_set : (j k : Kind) (l : ℕ) → Placed (observe l) → Visited (setting_visits j cells gs) (node k (observe l)) → ⊥
  not_set j k l placed x =
      omega (arith, (setting-visited cells ss sound j (node k (observe l)) x).1, node_index k (observe l) placed, kind-small j)

  module _ (k : Kind) where
    abbrev pub seeing : List Visit
    seeing = observing_visits k cells gs

    abbrev pub most-seeing : ℕ
    most-seeing = length gs + 1

    -- ---- the numbers that they begin with

    abbrev pub values : List ℕ
    values = (setting_trace k cells ss).numbers

    values_settle : Settles lower (setting_visits k cells gs) (start ss) (run lower (setting_visits k cells gs) (2 * length gs + 1) (start ss)).count values
    values_settle = rw (R.trace-numbers cells ss sound k ∙ R.reached cells ss sound k) (R.settled-lower cells ss sound k).0

    values-long : length values ≡ Size.numbers
    values-long = (settles_under values_settle).long ∙ start-length (prices_of ss) ss

    pub values-bounded : Bounded values
    values-bounded n = le_trans ((settles_under values_settle).below n) (start-bounded (prices_of ss) ss (own-figures sound) n)

    pub seeing-inside : Inside seeing values
    seeing-inside v m = rw values-long (visiting_inside cells ss sound (visiting_more observes-has (observing_from k cells gs v m)))

    -- A line's CO and SO are then those of the start.
    values_seen : (l : ℕ) → Placed (observe l) → at values (node k (observe l)) ≡ at (start ss) (node k (observe l))
    values_seen l placed = settles-other lower lower-stores values_settle (node k (observe l)) (not_set k k l placed)

    -- ---- they come to rest

    within : SettlesWithin lower seeing values most-seeing most-seeing
    within = (observing-works cells ss sound values values-long values-bounded k).within values (left_here seeing values)

    reached : sweeps lower seeing most-seeing values ≡ (run lower seeing most-seeing values).numbers
    reached = settled_stays lower seeing values _ _ most-seeing within.0 within.1

    rests : Rests lower seeing (sweeps lower seeing most-seeing values)
    rests = rw reached within.0.rests

    trace-numbers : (observing_trace k cells ss).numbers ≡ sweeps lower seeing most-seeing values
    unfolding observing_trace
    trace-numbers = traced_numbers lower seeing most-seeing values

    settles : Settles lower seeing values (run lower seeing most-seeing values).count (observing_trace k cells ss).numbers
    settles = rw (trace-numbers ∙ reached) within.0

    -- ---- what they remember

    pub settled_by : (n : ℕ) (m : Mark) → mark_at (observing_trace k cells ss).marks n ≡ some m → at (observing_trace k cells ss).numbers n ≤ most → SettledBy seeing values (observing_trace k cells ss) n m
    unfolding observing_trace
    settled_by n m e h =
        settled_row seeing most-seeing values values-bounded seeing-inside rests n m e (rw (traced_numbers lower seeing most-seeing values) at h)

    pub unmarked : (l : ℕ) → Placed (observe l) → mark_at (observing_trace k cells ss).marks (node k (observe l)) ≡ none → at (observing_trace k cells ss).numbers (node k (observe l)) ≡ at (start ss) (node k (observe l))
    unmarked l placed e =
        ap (λ (xs : List ℕ). at xs (node k (observe l))) trace-numbers
        ∙ unmarked-stood seeing most-seeing values values-bounded seeing-inside (node k (observe l)) (unfold observing_trace in e)
        ∙ values_seen l placed

    -- The values keep their numbers.
    pub kept : (l v : ℕ) → Placed (set l v) → at (observing_trace k cells ss).numbers (node k (set l v)) ≡ at values (node k (set l v))
    kept l v placed = settles-other lower lower-stores settles (node k (set l v)) (not-observed k k l v placed)

    -- ---- a run looks at numbers of its kind alone

    abbrev Own : ℕ → Type 0
    Own n = (p : Purpose) × Placed p × (n ≡ node k p)

    looks : Looks Own seeing
    looks =
        record {
          visits = λ v m.
              let t = observing_from k cells gs v m in
              (purpose_of t.gate t.role, purpose_placed sound t.gate t.listed t.role (observes-has (cell_of cells t.gate) t.role t.allowed), visiting_node t);
          needs = λ v m n d.
              let t = observing_from k cells gs v m in
              let o : Offer Observes k cells gs v.node d.way = offer (record { visit = v; listed = m; same = refl; among = d.listed }) t in
              let f = offer-need o n d.among in (
                asked o.gate f.0,
                asked-placed sound o.gate o.listed o.role f.0 (asks_named o.gate (cell_of cells o.gate) o.role o.row f.0 f.1),
                sym f.2,
              );
        }

    -- So a run from numbers that are alike there comes to the same.
    alone : (xs ys : List ℕ) (count : ℕ) → length xs ≡ length values → ((p : Purpose) → Placed p → at xs (node k p) ≡ at values (node k p))
        → Settles lower seeing xs count ys → (l : ℕ) → Placed (observe l) → at ys (node k (observe l)) ≡ at (observing_trace k cells ss).numbers (node k (observe l))
    alone xs ys count long same s l placed =
        let r = alike-settles lower lower-stores lower-reads Own seeing xs values ys count looks
        (record { long = long; same = λ n o. rw o.2 (same o.0 o.1) }) s in
        r.2.same (node k (observe l)) (observe l, placed, refl)
        ∙ ap (λ (zs : List ℕ). at zs (node k (observe l))) (settles-once lower seeing values r.0 _ _ _ r.1 settles).1

  -- ---- the numbers reported are those of the sweeps of their kind alone

  not-other : (l : ℕ) → Placed (observe l) → Visited (observing_visits combinational cells gs) (node sequential (observe l)) → ⊥
  not-other l placed x = omega (arith, observing-visited cells ss sound combinational (node sequential (observe l)) x, node_index sequential (observe l) placed)

  not_first : (l : ℕ) → Placed (observe l) → Visited (observing_visits sequential cells gs) (node combinational (observe l)) → ⊥
  not_first l placed x = omega (arith, observing-visited cells ss sound sequential (node combinational (observe l)) x, node_index combinational (observe l) placed)

  from_stages : (k : Kind) (zs counts : List ℕ) → zs ≡ (analysed cells ss).numbers → Stages (stages cells gs) (start ss) counts zs → (l : ℕ) → Placed (observe l) → at zs (node k (observe l)) ≡ at (observing_trace k cells ss).numbers (node k (observe l))
  from_stages combinational zs counts q (stage {ys = y1} s1 (stage {ys = y2} s2 (stage {ys = y3} s3 (stage {ys = y4} s4 (ended e))))) l placed =
      ap (λ (xs : List ℕ). at xs (node combinational (observe l))) e
      ∙ settles-other lower lower-stores s4 (node combinational (observe l)) (not_first l placed)
      ∙ alone combinational y2 y3 _
      (settles-length renew renew-stores s2 ∙ settles-length renew renew-stores s1 ∙ start-length (prices_of ss) ss ∙ sym (values-long combinational))
      same s3 l placed
    where
      same : (p : Purpose) → Placed p → at y2 (node combinational p) ≡ at (values combinational) (node combinational p)
      same (set m v) h =
          let n = node combinational (set m v) in
          sym (settles-other lower lower-stores s3 n (not-observed combinational combinational m v h))
          ∙ sym (settles-other lower lower-stores s4 n (not-observed sequential combinational m v h))
          ∙ ap (λ (xs : List ℕ). at xs n) (sym e ∙ q)
          ∙ R.reported cells ss sound m v h combinational
      same (observe m) h =
          let n = node combinational (observe m) in
          settles-other renew renew-stores s2 n (not_set sequential combinational m h)
          ∙ settles-other renew renew-stores s1 n (not_set combinational combinational m h)
          ∙ sym (values_seen combinational m h)
  from_stages sequential zs counts q (stage {ys = y1} s1 (stage {ys = y2} s2 (stage {ys = y3} s3 (stage {ys = y4} s4 (ended e))))) l placed =
      ap (λ (xs : List ℕ). at xs (node sequential (observe l))) e
      ∙ alone sequential y3 y4 _
      (settles-length lower lower-stores s3 ∙ settles-length renew renew-stores s2 ∙ settles-length renew renew-stores s1 ∙ start-length (prices_of ss) ss ∙ sym (values-long sequential))
      same s4 l placed
    where
      same : (p : Purpose) → Placed p → at y3 (node sequential p) ≡ at (values sequential) (node sequential p)
      same (set m v) h =
          let n = node sequential (set m v) in
          sym (settles-other lower lower-stores s4 n (not-observed sequential sequential m v h))
          ∙ ap (λ (xs : List ℕ). at xs n) (sym e ∙ q)
          ∙ R.reported cells ss sound m v h sequential
      same (observe m) h =
          let n = node sequential (observe m) in
          settles-other lower lower-stores s3 n (not-other m h)
          ∙ settles-other renew renew-stores s2 n (not_set sequential sequential m h)
          ∙ settles-other renew renew-stores s1 n (not_set combinational sequential m h)
          ∙ sym (values_seen sequential m h)

  -- Of every purpose: what the sweeps that remember leave is the number reported.
  pub reported : (k : Kind) (p : Purpose) → Placed p → at (analysed cells ss).numbers (node k p) ≡ at (observing_trace k cells ss).numbers (node k p)
  reported k (set l v) placed = R.reported cells ss sound l v placed k ∙ sym (kept k l v placed)
  reported k (observe l) placed = from_stages k (analysed cells ss).numbers _ refl (settled cells ss sound (prices_of ss) (own-figures sound)) l placed
