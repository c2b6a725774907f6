-- Sweeps that remember, for each node, the way by which its number was last lowered and the visit at which that was: what a
-- cheapest plan is read off from ("the row is the one by which the sweeps last lowered the number, the first in library
-- order among equals at that visit"). Request K3, which writes that plan out (`plan_marks`, `plan_text`), rests on it and on
-- proofs/SettledRow.antt.
use mathlib.Core.List.{List, [], ◌∷◌, Memᴰ}
use Rattle.std.specs.Prelude.{◌⊎◌, ◌≡◌, ℕ, zero, suc, ◌%◌, ◌<◌, leb, ltb, length, get_or, set, replicate}
use Rattle.std.proofs.Math.Option.{Option, none, some}
use Rattle.reading.specs.Choice.{pick}
use Rattle.plans.specs.System.{Way, Visit}
use Rattle.plans.specs.Sweep.{at, way, least, Rule}

-- The place, from 0, of the first of the ways that sum to the least.
unfoldable pub first_place : List ℕ → List Way → ℕ
first_place xs [] = 0
first_place xs (w ∷ ws) = pick (leb (way xs w) (least xs ws)) 0 (suc (first_place xs ws))

-- The way at a place; there is none past the end, and this one is never remembered.
unfoldable pub way_at : List Way → ℕ → Way
way_at ws p = get_or ws p (record { depth = 0; needs = [] })

-- A number was last lowered by this way, that stands at this place among the ways of the visit, at this time.
pub record Mark : Type 0 where
  pub way : Way
  pub place : ℕ
  pub time : ℕ

-- The visit that is made at a time, where sweeps over these visits began at time 0: of several visits to one node, as those of
-- the pins that read a line, a mark's time tells which one it was.
unfoldable pub visit_at : List Visit → ℕ → Visit
visit_at vs t = get_or vs (t % length vs) (record { node = 0; ways = [] })

-- The time is the count of visits before, over all sweeps.
pub record Trace : Type 0 where
  pub numbers : List ℕ
  pub marks : List (Option Mark)
  pub time : ℕ

unfoldable pub mark_at : List (Option Mark) → ℕ → Option Mark
mark_at ms n = get_or ms n none

-- The mark that a visit makes.
unfoldable pub mark_of : List ℕ → ℕ → Visit → Mark
mark_of xs t v =
    record {
      way = way_at v.ways (first_place xs v.ways);
      place = first_place xs v.ways;
      time = t;
    }

-- A visit renews the number by the rule, and marks its node where the number was lowered.
unfoldable pub trace_visit : Rule → Trace → Visit → Trace
trace_visit rule t v =
    record {
      numbers = rule t.numbers v;
      marks =
          pick (ltb (least t.numbers v.ways) (at t.numbers v.node))
          (set t.marks v.node (some (mark_of t.numbers t.time v)))
          t.marks;
      time = suc t.time;
    }

unfoldable pub trace_sweep : Rule → List Visit → Trace → Trace
trace_sweep rule [] t = t
trace_sweep rule (v ∷ vs) t = trace_sweep rule vs (trace_visit rule t v)

unfoldable pub trace_sweeps : Rule → List Visit → ℕ → Trace → Trace
trace_sweeps rule vs zero t = t
trace_sweeps rule vs (suc k) t = trace_sweeps rule vs k (trace_sweep rule vs t)

-- At the start nothing was lowered.
unfoldable pub untraced : List ℕ → Trace
untraced xs = record { numbers = xs; marks = replicate (length xs) none; time = 0 }

-- To compute the marks of a closed system, say `unfolding sweep_open trace_open`.
unfoldable pub trace_open : ℕ
unfolding first_place way_at visit_at mark_at mark_of trace_visit trace_sweep trace_sweeps untraced
trace_open = 0

-- What holds of a mark of the node `n` where sweeps have settled and the number is a figure. `xs` are the numbers at the
-- start, `t` what the sweeps leave.
pub record SettledBy (vs : List Visit) (xs : List ℕ) (t : Trace) (n : ℕ) (m : Mark) : Type 0 where
  -- the way is the one at its place among the ways of a visit to the node
  pub visit : Visit
  pub listed : Memᴰ visit vs
  pub same : visit.node ≡ n
  pub within : m.place < length visit.ways
  pub placed : way_at visit.ways m.place ≡ m.way
  -- which is the one made at the mark's time
  pub turned : visit_at vs m.time ≡ visit
  -- it still sums to the number
  pub sums : way t.numbers m.way ≡ at t.numbers n
  -- and each node that it needs was never lowered, or last at an earlier visit
  pub earlier :
      (j : ℕ) → Memᴰ j m.way.needs →
      ((mark_at t.marks j ≡ none) × (at t.numbers j ≡ at xs j))
      ⊎ ((l : Mark) × (mark_at t.marks j ≡ some l) × (l.time < m.time))
