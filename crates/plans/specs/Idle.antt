-- Idle visits, those that change nothing, and why a sweep may leave them out: it comes to the numbers of the full sweep, and so
-- a run to the same count of sweeps. The visits of a sweep come in blocks, one block to a turn. A turn is awake or asleep, from
-- sweep to sweep; one that is asleep is left out.
-- What is shown stands at the end, under the names of proofs/Laws.antt.
use mathlib.Core.List.{List, [], ◌++◌, Memᴰ}
use Rattle.std.specs.Prelude.{◌≢◌, ◌≡◌, ℕ, zero, suc, ◌≤◌, ◌<◌}
use Rattle.plans.specs.System.{Way, Visit}
use Rattle.plans.specs.Sweep.{at, Rule, sweep, sweeps, Rests, Settles, Lowering}

-- The visits leave the numbers as they are, each of them.
abbrev pub Idles : Rule → List ℕ → List Visit → Type 0
Idles rule xs vs = (v : Visit) → Memᴰ v vs → rule xs v ≡ xs

-- Some way of the visit needs the node.
pub record Needs (v : Visit) (n : ℕ) : Type 0 where
  pub way : Way
  pub listed : Memᴰ way v.ways
  pub among : Memᴰ n way.needs

-- Each number that the visit needs, but for its own, is in `ys` what it is in `xs`.
abbrev pub Unmoved : List ℕ → List ℕ → Visit → Type 0
Unmoved xs ys v = (n : ℕ) → Needs v n → n ≢ v.node → at ys n ≡ at xs n

-- The visits of turn 0, of turn 1 and so on, of `count` turns.
unfoldable pub in_turn : (ℕ → List Visit) → ℕ → List Visit
in_turn block zero = []
in_turn block (suc count) = in_turn block count ++ block count

-- The turns that are asleep are idle, of `count` turns. Where all are awake, as at the start of a run, this says nothing.
pub record Watched (rule : Rule) (block : ℕ → List Visit) (count : ℕ) (asleep : ℕ → Type 0) (xs : List ℕ) : Type 0 where
  pub idle : (h : ℕ) → h < count → asleep h → Idles rule xs (block h)

-- The visits of the turn `turn` made `ys` of the numbers `xs`. After it no turn is asleep but those that were before and
-- perhaps this one, and none of them needs a number that has changed, but for a visit's own.
pub record Woken (block : ℕ → List Visit) (count turn : ℕ) (before : ℕ → Type 0) (xs : List ℕ) (after : ℕ → Type 0) (ys : List ℕ) : Type 0 where
  pub slept : (h : ℕ) → h < count → after h → h ≢ turn → before h
  pub unmoved : (h : ℕ) → h < count → after h → (v : Visit) → Memᴰ v (block h) → Unmoved xs ys v

-- From turn `turn` up to turn `next` there is nothing to do at the numbers `xs`: all visits between are idle.
pub record Skipped (rule : Rule) (block : ℕ → List Visit) (turn next : ℕ) (xs : List ℕ) : Type 0 where
  pub between : List Visit
  pub split : in_turn block next ≡ in_turn block turn ++ between
  pub idle : Idles rule xs between

-- ---- what is shown of them

-- `idles_rest`: a sweep over idle visits changes nothing, by whatever rule.
abbrev pub IdlesRest : Type 0
IdlesRest = (rule : Rule) (vs : List Visit) (xs : List ℕ) → Idles rule xs vs → Rests rule vs xs

-- `asleep-skipped`: turns that are asleep may be left out, by whatever rule ..
abbrev pub AsleepSkipped : Rule → (ℕ → List Visit) → ℕ → (ℕ → Type 0) → List ℕ → Type 0
AsleepSkipped rule block count asleep xs =
    Watched rule block count asleep xs →
    (turn next : ℕ) →
    turn ≤ next →
    next ≤ count →
    ((h : ℕ) → turn ≤ h → h < next → asleep h) →
    Skipped rule block turn next xs

-- `skipped-sweep`: .. and a sweep that has come to the turn `turn` has then come to the turn `next`.
abbrev pub SkippedSweep : Rule → (ℕ → List Visit) → ℕ → ℕ → List ℕ → Type 0
SkippedSweep rule block turn next ys =
    Skipped rule block turn next ys →
    (xs : List ℕ) → ys ≡ sweep rule (in_turn block turn) xs →
    ys ≡ sweep rule (in_turn block next) xs

-- `made-watched`: after a turn, by either rule, those that are asleep are idle still. A visit may need its own number: a sum
-- is at least each of its terms, so that a visit just made is idle, and stays so when its own number falls.
abbrev pub MadeWatched : Rule → (ℕ → List Visit) → ℕ → ℕ → (ℕ → Type 0) → List ℕ → (ℕ → Type 0) → List ℕ → Type 0
MadeWatched rule block count turn before xs after ys =
    Watched rule block count before xs →
    Woken block count turn before xs after ys →
    turn < count →
    Lowering rule (in_turn block count) xs →
    ys ≡ sweep rule (block turn) xs →
    Watched rule block count after ys × Lowering rule (in_turn block count) ys

-- `asleep-settles`: where all turns are asleep, the next sweep is the one that changes nothing, and it is counted.
abbrev pub AsleepSettles : Rule → (ℕ → List Visit) → ℕ → (ℕ → Type 0) → List ℕ → Type 0
AsleepSettles rule block count asleep ys =
    Watched rule block count asleep ys →
    ((h : ℕ) → h < count → asleep h) →
    (xs : List ℕ) (changes : ℕ) →
    sweeps rule (in_turn block count) changes xs ≡ ys →
    ((i : ℕ) → i < changes → Rests rule (in_turn block count) (sweeps rule (in_turn block count) i xs) → ⊥) →
    Settles rule (in_turn block count) xs (suc changes) ys
