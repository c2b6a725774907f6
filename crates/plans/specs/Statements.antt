-- The theorems of this crate, stated, but for those on runs one after the other, which stand in Stages.antt, and those on idle
-- visits, in Idle.antt. Each is proved in proofs/Laws.antt under the name that stands beside it.
use mathlib.Core.List.{List, Memᴰ}
use Rattle.std.proofs.Math.Option.{none, some}
use Rattle.std.specs.Prelude.{◌≡◌, ℕ, ◌+◌, ◌≤◌, ◌<◌, length}
use Rattle.cost.specs.Cost.{most, never, capped}
use Rattle.plans.specs.System.{Way, Visit, System, Offers, Plan, cost}
use Rattle.plans.specs.Sweep.{
  at,
  way,
  least,
  Rule,
  renew,
  lower,
  sweep,
  sweeps,
  Rests,
  Settles,
  run,
  Inside,
  Bounded,
  Visited,
  Once,
  Above,
  Leads,
}
use Rattle.plans.specs.Exact.{Exact, Attained, Start, first}
use Rattle.plans.specs.Trace.{first_place, way_at, Mark, mark_at, trace_sweeps, untraced, SettledBy}

-- ---- the numbers

-- `attained-lower`: by the rule `lower`, every number that is not never is the capped cost of some plan, after any sweeps.
abbrev pub AttainedStays : Rule → Type 0
AttainedStays rule =
    (S : System) (vs : List Visit) (k : ℕ) (xs : List ℕ) →
    ((v : Visit) → Memᴰ v vs → Memᴰ v S.visits) →
    ((n : ℕ) → Attained S n (at xs n)) →
    (n : ℕ) → Attained S n (at (sweeps rule vs k xs) n)

-- `none_cheaper`: where a sweep changes nothing, no plan, however it goes round loops, costs less than its node's number.
abbrev pub NoneCheaper : Type 0
NoneCheaper =
    (S : System) (xs : List ℕ) →
    Inside S.visits xs →
    ((n c : ℕ) → S.price n ≡ some c → at xs n ≤ capped c) →
    Rests lower S.visits xs →
    (n : ℕ) (p : Plan S n) → at xs n ≤ capped (cost p)

-- `run-exact`: where sweeps have settled, from any start, every number is exact, of whatever node.
abbrev pub RunExact : Type 0
RunExact =
    (S : System) (xs ys : List ℕ) (k : ℕ) →
    Inside S.visits xs →
    Start S xs →
    Settles lower S.visits xs k ys →
    (n : ℕ) → Exact S n (at ys n)

-- `first_start`: document 01's start, each priced node at its price and every other never, is a start.
abbrev pub FirstStart : Type 0
FirstStart = (S : System) (xs : List ℕ) → ((n : ℕ) → at xs n ≡ first (S.price n)) → Start S xs

-- `exact-once`: a node has one exact number.
abbrev pub ExactOnce : Type 0
ExactOnce = (S : System) (n x y : ℕ) → Exact S n x → Exact S n y → x ≡ y

-- ---- the sweeps

-- `numbers_fall`: a sweep that keeps the lesser raises no number.
abbrev pub NumbersFall : Type 0
NumbersFall = (vs : List Visit) (xs : List ℕ) (n : ℕ) → at (sweep lower vs xs) n ≤ at xs n

-- `rules_agree`: "becomes the least row sum" is "keeps the lesser", sweep after sweep, where no node has two different
-- visits and each visited number is at least its own least way sum at the start; and that stays so.
abbrev pub RulesAgree : Type 0
RulesAgree =
    (vs : List Visit) (k : ℕ) (xs : List ℕ) →
    Once vs →
    Above vs xs →
    (sweeps renew vs k xs ≡ sweeps lower vs k xs) × Above vs (sweeps lower vs k xs)

-- `runs_agree`: so do the runs.
abbrev pub RunsAgree : Type 0
RunsAgree =
    (vs : List Visit) (fuel : ℕ) (xs : List ℕ) →
    Once vs →
    Above vs xs →
    run renew vs fuel xs ≡ run lower vs fuel xs

-- `settles-once`: where sweeps have settled, count and numbers are settled by the start.
abbrev pub SettlesOnce : Type 0
SettlesOnce =
    (rule : Rule) (vs : List Visit) (xs ys zs : List ℕ) (k l : ℕ) →
    Settles rule vs xs k ys →
    Settles rule vs xs l zs →
    (k ≡ l) × (ys ≡ zs)

-- ---- how many sweeps

-- The run settles with this fuel, and takes at most `bound` sweeps.
abbrev pub SettlesWithin : Rule → List Visit → List ℕ → ℕ → ℕ → Type 0
SettlesWithin rule vs xs fuel bound =
    Settles rule vs xs (run rule vs fuel xs).count (run rule vs fuel xs).numbers × ((run rule vs fuel xs).count ≤ bound)

-- `visited-bound`: one sweep more than there are visited nodes, from any start: "at most 2G + 1 sweeps", the visited nodes
-- being the two values of each of the G gates' outputs.
abbrev pub VisitedBound : Type 0
VisitedBound =
    (vs : List Visit) (us xs : List ℕ) (fuel : ℕ) →
    ((n : ℕ) → Visited vs n → Memᴰ n us) →
    Bounded xs →
    Inside vs xs →
    length us < fuel →
    SettlesWithin lower vs xs fuel (length us + 1)

-- `renew-bound`: the same where a number becomes the least way sum.
abbrev pub RenewBound : Type 0
RenewBound =
    (vs : List Visit) (us xs : List ℕ) (fuel : ℕ) →
    ((n : ℕ) → Visited vs n → Memᴰ n us) →
    Bounded xs →
    Inside vs xs →
    Once vs →
    Above vs xs →
    length us < fuel →
    SettlesWithin renew vs xs fuel (length us + 1)

-- `lead_bound`: where each way needs one of the nodes `outs`, and no other node that is visited, one sweep more than there
-- are such nodes: "CO and SO at most G + 1", `outs` being the G gates' outputs, observed.
abbrev pub LeadBound : Type 0
LeadBound =
    (vs : List Visit) (outs xs : List ℕ) (fuel : ℕ) →
    Leads vs outs →
    Bounded xs →
    Inside vs xs →
    length outs < fuel →
    SettlesWithin lower vs xs fuel (length outs + 1)

-- ---- more to plan with: request K14 (rows added to a library) rests on this

-- `attained-more`: numbers that stand are still attained where prices and ways are added, so that sweeps go on from them.
abbrev pub AttainedMore : Type 0
AttainedMore =
    (S T : System) →
    ((n c : ℕ) → S.price n ≡ some c → T.price n ≡ some c) →
    ((n : ℕ) (w : Way) → Offers S.visits n w → Offers T.visits n w) →
    (n x : ℕ) → Attained S n x → Attained T n x

-- ---- the settled row: request K3 (the cheapest way written out) rests on these

-- `first_least`: the place that a visit remembers is that of the first among the ways of the least sum.
abbrev pub FirstLeast : Type 0
FirstLeast =
    (xs : List ℕ) (ws : List Way) →
    least xs ws < never →
    (first_place xs ws < length ws)
    × (way xs (way_at ws (first_place xs ws)) ≡ least xs ws)
    × ((q : ℕ) → q < first_place xs ws → least xs ws < way xs (way_at ws q))

-- `traced_numbers`: sweeps that remember leave the same numbers ..
abbrev pub TracedNumbers : Type 0
TracedNumbers =
    (rule : Rule) (vs : List Visit) (k : ℕ) (xs : List ℕ) →
    (trace_sweeps rule vs k (untraced xs)).numbers ≡ sweeps rule vs k xs

-- `traces_agree`: .. and by both rules the same marks.
abbrev pub TracesAgree : Type 0
TracesAgree =
    (vs : List Visit) (k : ℕ) (xs : List ℕ) →
    Once vs →
    Above vs xs →
    trace_sweeps renew vs k (untraced xs) ≡ trace_sweeps lower vs k (untraced xs)

-- `unmarked-stood`: a node without a mark has the number that it had at the start.
abbrev pub UnmarkedStood : Type 0
UnmarkedStood =
    (vs : List Visit) (k : ℕ) (xs : List ℕ) →
    Bounded xs →
    Inside vs xs →
    (n : ℕ) →
    mark_at (trace_sweeps lower vs k (untraced xs)).marks n ≡ none →
    at (sweeps lower vs k xs) n ≡ at xs n

-- `settled_row`: where sweeps have settled, the way by which a figure was last lowered still sums to it, and each node that
-- it needs was never lowered or last at an earlier visit.
abbrev pub SettledRow : Type 0
SettledRow =
    (vs : List Visit) (k : ℕ) (xs : List ℕ) →
    Bounded xs →
    Inside vs xs →
    Rests lower vs (sweeps lower vs k xs) →
    (n : ℕ) (m : Mark) →
    mark_at (trace_sweeps lower vs k (untraced xs)).marks n ≡ some m →
    at (sweeps lower vs k xs) n ≤ most →
    SettledBy vs xs (trace_sweeps lower vs k (untraced xs)) n m
