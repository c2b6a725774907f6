-- Runs that go on from numbers that stand, where ways or prices were added since: document 02, K11 (a pad is a price of 0),
-- K13 (a pad on trial) and K14 (rows added to a library). What is shown stands under the names of proofs/Continued.antt.
use mathlib.Core.List.{List, [], ◌∷◌, Memᴰ}
use Rattle.std.proofs.Math.Option.{some}
use Rattle.std.specs.Prelude.{◌≡◌, ℕ, ◌≤◌, length, set}
use Rattle.plans.specs.System.{Way, Visit, System, Offers}
use Rattle.plans.specs.Sweep.{at, Rule, lower, sweeps, Rests, Settles, Inside, Above}
use Rattle.plans.specs.Exact.{Exact, Start}
use Rattle.plans.specs.Stages.{Stage, all_visits, Stages, Apart, AllWork, AllWithin}
use Rattle.plans.specs.Idle.{Needs}
use Rattle.plans.specs.Trace.{trace_sweeps, untraced}

-- ---- by plans: all runs, one after the other

-- Every number of the table is exact.
abbrev pub AllExact : System → List ℕ → Type 0
AllExact S xs = (n : ℕ) → Exact S n (at xs n)

-- `exact-table`: a table of exact numbers is settled by its length.
abbrev pub ExactTable : Type 0
ExactTable = (S : System) (xs ys : List ℕ) → length xs ≡ length ys → AllExact S xs → AllExact S ys → xs ≡ ys

-- `T` has the prices of `S`, and its ways, and perhaps others.
pub record WaysAdded (S T : System) : Type 0 where
  pub prices : (n : ℕ) → S.price n ≡ T.price n
  pub ways : (n : ℕ) (w : Way) → Offers S.visits n w → Offers T.visits n w

-- `standing-start`: numbers that stand are a start where ways are added.
abbrev pub StandingStart : Type 0
StandingStart = (S T : System) → WaysAdded S T → (xs : List ℕ) → AllExact S xs → Start T xs

-- `standing-above`: exact numbers are at least the least sums of visits that have all ways of their nodes, and perhaps others,
-- where no such node has a price. So the numbers that stand may be renewed with rows added, and `renewing_works` gives the
-- bound.
abbrev pub StandingAbove : Type 0
StandingAbove =
    (S : System) (vs : List Visit) (xs : List ℕ) →
    AllExact S xs →
    ((v : Visit) → Memᴰ v vs → (c : ℕ) → S.price v.node ≡ some c → ⊥) →
    ((v : Visit) → Memᴰ v vs → (w : Way) → Offers S.visits v.node w → Memᴰ w v.ways) →
    Above vs xs

-- `continued`: the stages, run from numbers that stand, come to the numbers of a new analysis.
abbrev pub Continued : Type 0
Continued =
    (S T : System) (ss : List Stage) (standing first zs fresh counts others : List ℕ) →
    WaysAdded S T →
    AllExact S standing →
    T.visits ≡ all_visits ss →
    Apart ss →
    length standing ≡ length first →
    Inside (all_visits ss) first →
    AllWork ss standing →
    AllWork ss first →
    Start T first →
    Stages ss standing counts zs →
    Stages ss first others fresh →
    zs ≡ fresh

-- ---- by order: one run that keeps the lesser

-- `settled_stays`: once a run has settled, more sweeps change nothing, whatever its rule.
abbrev pub SettledStays : Type 0
SettledStays = (rule : Rule) (vs : List Visit) (xs ys : List ℕ) (k n : ℕ) → Settles rule vs xs k ys → k ≤ n → sweeps rule vs n xs ≡ ys

-- As long, and nowhere higher.
pub record Under (ys xs : List ℕ) : Type 0 where
  pub long : length ys ≡ length xs
  pub below : (n : ℕ) → at ys n ≤ at xs n

-- `lower-start`: from a lower start a run comes to no higher number: no pad raises a CO or SO.
abbrev pub LowerStart : Type 0
LowerStart =
    (vs : List Visit) (xs ys zs ws : List ℕ) (k l : ℕ) →
    Under ys xs →
    Settles lower vs xs k zs →
    Settles lower vs ys l ws →
    Under ws zs

-- `between-settles`: from any numbers between a run's start and its end, the run comes to the same end.
abbrev pub BetweenSettles : Type 0
BetweenSettles =
    (vs : List Visit) (xs ys zs ws : List ℕ) (k l : ℕ) →
    Settles lower vs xs k zs →
    Under zs ys →
    Under ys xs →
    Settles lower vs ys l ws →
    ws ≡ zs

-- `pad-settles`: a run from `first` ended in `old`. With the number `n` of the start lowered to `a`, a run from the start and a
-- run from `old`, with just `n` lowered, come to the same end.
abbrev pub PadSettles : Type 0
PadSettles =
    (vs : List Visit) (first old new tried : List ℕ) (n a k l m : ℕ) →
    a ≤ at old n →
    Settles lower vs first k old →
    Settles lower vs (set first n a) l new →
    Settles lower vs (set old n a) m tried →
    tried ≡ new

-- `pad-idle`: where sweeps have come to rest and one number is lowered, each visit that does not need it is idle.
abbrev pub PadIdle : Type 0
PadIdle =
    (vs : List Visit) (xs : List ℕ) (n a : ℕ) →
    a ≤ at xs n →
    Rests lower vs xs →
    (v : Visit) → Memᴰ v vs → (Needs v n → ⊥) → lower (set xs n a) v ≡ set xs n a

-- ---- runs on tables that are alike where a run looks

-- As long, and the same at these nodes.
pub record Alike (P : ℕ → Type 0) (xs ys : List ℕ) : Type 0 where
  pub long : length xs ≡ length ys
  pub same : (n : ℕ) → P n → at xs n ≡ at ys n

-- The visits look at these nodes alone.
pub record Looks (P : ℕ → Type 0) (vs : List Visit) : Type 0 where
  pub visits : (v : Visit) → Memᴰ v vs → P v.node
  pub needs : (v : Visit) → Memᴰ v vs → (n : ℕ) → Needs v n → P n

-- What a visit stores is told by its own number and those that it needs: so it is by both rules (`lower-reads`, `renew-reads`).
abbrev pub Reads : Rule → Type 0
Reads rule =
    (xs ys : List ℕ) (v : Visit) →
    length xs ≡ length ys →
    at xs v.node ≡ at ys v.node →
    ((n : ℕ) → Needs v n → at xs n ≡ at ys n) →
    at (rule xs v) v.node ≡ at (rule ys v) v.node

-- `alike-settles`: on alike tables a run takes as many sweeps, and the tables are alike after it.
abbrev pub AlikeSettles : Rule → (ℕ → Type 0) → Type 0
AlikeSettles rule P =
    (vs : List Visit) (xs ys zs : List ℕ) (k : ℕ) →
    Looks P vs →
    Alike P xs ys →
    Settles rule vs xs k zs →
    (ws : List ℕ) × Settles rule vs ys k ws × Alike P zs ws

-- `alike_traces`: .. and sweeps that remember have the same marks: request E1, whose pads change the start of CO and SO alone.
abbrev pub AlikeTraces : Rule → (ℕ → Type 0) → Type 0
AlikeTraces rule P =
    (vs : List Visit) (k : ℕ) (xs ys : List ℕ) →
    Looks P vs →
    Alike P xs ys →
    ((trace_sweeps rule vs k (untraced xs)).marks ≡ (trace_sweeps rule vs k (untraced ys)).marks)
    × ((trace_sweeps rule vs k (untraced xs)).time ≡ (trace_sweeps rule vs k (untraced ys)).time)

-- ---- stages that keep the lesser, whatever their rule

abbrev pub all_by_lower : List Stage → List Stage
all_by_lower [] = []
all_by_lower (s ∷ ss) = record { rule = lower; visits = s.visits; bound = s.bound } ∷ all_by_lower ss

-- `lowered-stages`: they come to what the stages come to, with as many sweeps each.
abbrev pub LoweredStages : Type 0
LoweredStages =
    (ss : List Stage) (xs zs counts : List ℕ) →
    AllWithin ss xs →
    Stages (all_by_lower ss) xs counts zs →
    Stages ss xs counts zs

-- `lowered_under`: from any numbers, they leave none higher.
abbrev pub LoweredUnder : Type 0
LoweredUnder = (ss : List Stage) (xs zs counts : List ℕ) → Stages (all_by_lower ss) xs counts zs → Under zs xs
