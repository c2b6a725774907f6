-- Runs one after the other on one table: CC and SC "run separately. Then CO and SO". What is shown of them stands at the end,
-- under the names of proofs/Laws.antt.
use mathlib.Core.List.{List, [], ◌∷◌, ◌++◌, Memᴰ}
use Rattle.std.specs.Prelude.{◌≡◌, ℕ, ◌≤◌, ◌<◌, length}
use Rattle.plans.specs.System.{Way, Visit, System, Offers}
use Rattle.plans.specs.Sweep.{at, Rule, renew, lower, Settles, Run, run, Inside, Bounded, Visited, Once, Above, Lowering, Leads}
use Rattle.plans.specs.Exact.{Exact, Start}
use Rattle.plans.specs.Statements.{SettlesWithin}

-- One of the runs: its rule, its visits, and how many sweeps it takes at most.
pub record Stage : Type 0 where
  pub rule : Rule
  pub visits : List Visit
  pub bound : ℕ

unfoldable pub run_stage : Stage → List ℕ → Run
run_stage s xs = run s.rule s.visits s.bound xs

-- The visits of all stages.
abbrev pub all_visits : List Stage → List Visit
all_visits [] = []
all_visits (s ∷ ss) = s.visits ++ all_visits ss

-- From `xs`, each stage run until a sweep changes nothing, in their order, leaves `zs`, after so many sweeps each.
pub data Stages : List Stage → List ℕ → List ℕ → List ℕ → Type 0 where
  ended : {xs zs : List ℕ} → zs ≡ xs → Stages [] xs [] zs
  stage :
      {s : Stage} {ss : List Stage} {xs ys zs counts : List ℕ} {count : ℕ} →
      Settles s.rule s.visits xs count ys →
      Stages ss ys counts zs →
      Stages (s ∷ ss) xs (count ∷ counts) zs

-- ---- what the theorems ask of the stages

-- Some way of a visit needs the node.
pub record Needed (vs : List Visit) (n : ℕ) : Type 0 where
  pub node : ℕ
  pub way : Way
  pub offers : Offers vs node way
  pub among : Memᴰ n way.needs

-- A later stage renews no node that an earlier one visits or needs.
abbrev pub Apart : List Stage → Type 0
Apart [] = Unit {0}
Apart (s ∷ ss) = ((n : ℕ) → Visited (all_visits ss) n → (Visited s.visits n → ⊥) × (Needed s.visits n → ⊥)) × Apart ss

-- Numbers that earlier stages may leave of `xs`: as many, none higher, and those of the visited nodes as they were.
pub record Left (vs : List Visit) (xs ys : List ℕ) : Type 0 where
  pub long : length ys ≡ length xs
  pub below : (n : ℕ) → at ys n ≤ at xs n
  pub kept : (n : ℕ) → Visited vs n → at ys n ≡ at xs n

-- From such numbers the stage settles within its bound, and its numbers only fall.
pub record Works (s : Stage) (xs : List ℕ) : Type 0 where
  pub within : (ys : List ℕ) → Left s.visits xs ys → SettlesWithin s.rule s.visits ys s.bound s.bound
  pub lowering : (ys : List ℕ) → Left s.visits xs ys → Lowering s.rule s.visits ys

-- Each of the stages works from the numbers at the start of the first.
abbrev pub AllWork : List Stage → List ℕ → Type 0
AllWork [] xs = Unit {0}
AllWork (s ∷ ss) xs = Works s xs × AllWork ss xs

-- ---- what is shown of them

-- `renewing_works`, `leading_works`: the two ways in which a stage works, with the bounds of `renew-bound` and `lead_bound`.
abbrev pub RenewingWorks : Type 0
RenewingWorks =
    (vs : List Visit) (us xs : List ℕ) →
    ((n : ℕ) → Visited vs n → Memᴰ n us) →
    Bounded xs →
    Inside vs xs →
    Once vs →
    Above vs xs →
    (bound : ℕ) → length us < bound →
    Works (record { rule = renew; visits = vs; bound = bound }) xs

abbrev pub LeadingWorks : Type 0
LeadingWorks =
    (vs : List Visit) (outs xs : List ℕ) →
    Leads vs outs →
    Bounded xs →
    Inside vs xs →
    (bound : ℕ) → length outs < bound →
    Works (record { rule = lower; visits = vs; bound = bound }) xs

-- `ranked-apart`: stages are apart where nodes have ranks, a stage visits nodes from the rank `low` on and needs and visits
-- none from `high` on, where the next stage begins.
abbrev pub Ranked : (ℕ → ℕ) → ℕ → List Stage → Type 0
Ranked rank low [] = Unit {0}
Ranked rank low (s ∷ ss) =
    (high : ℕ)
    × (low ≤ high)
    × ((n : ℕ) → Visited s.visits n → (low ≤ rank n) × (rank n < high))
    × ((n : ℕ) → Needed s.visits n → rank n < high)
    × Ranked rank high ss

abbrev pub RankedApart : Type 0
RankedApart = (rank : ℕ → ℕ) (low : ℕ) (ss : List Stage) → Ranked rank low ss → Apart ss

-- `stages-within`: each stage settles within its bound and only lowers, on whatever those before it settle.
abbrev pub AllWithin : List Stage → List ℕ → Type 0
AllWithin [] xs = Unit {0}
AllWithin (s ∷ ss) xs =
    SettlesWithin s.rule s.visits xs s.bound s.bound
    × ((ys : List ℕ) (count : ℕ) → Settles s.rule s.visits xs count ys → AllWithin ss ys)
    × Lowering s.rule s.visits xs

abbrev pub StagesWithin : Type 0
StagesWithin = (ss : List Stage) (xs : List ℕ) → Apart ss → AllWork ss xs → AllWithin ss xs

-- `stages-once`: the sweeps and the numbers are settled by the start.
abbrev pub StagesOnce : Type 0
StagesOnce =
    (ss : List Stage) (xs ys zs counts others : List ℕ) →
    Stages ss xs counts ys →
    Stages ss xs others zs →
    (counts ≡ others) × (ys ≡ zs)

-- `stages-append`: some stages, and then others.
abbrev pub StagesAppend : Type 0
StagesAppend =
    (ss ts : List Stage) (xs ys zs counts others : List ℕ) →
    Stages ss xs counts ys →
    Stages ts ys others zs →
    Stages (ss ++ ts) xs (counts ++ others) zs

-- `stages-left`: the numbers are as many as at the start, and none is higher.
abbrev pub StagesLeft : Type 0
StagesLeft =
    (ss : List Stage) (xs zs counts : List ℕ) →
    Apart ss →
    AllWork ss xs →
    Stages ss xs counts zs →
    (length zs ≡ length xs) × ((n : ℕ) → at zs n ≤ at xs n)

-- `stages-exact`: every number is exact, of whatever node.
abbrev pub StagesExact : Type 0
StagesExact =
    (S : System) (ss : List Stage) (xs zs counts : List ℕ) →
    S.visits ≡ all_visits ss →
    Inside (all_visits ss) xs →
    Apart ss →
    AllWork ss xs →
    Start S xs →
    Stages ss xs counts zs →
    (n : ℕ) → Exact S n (at zs n)
