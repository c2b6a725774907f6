-- The sum of a row's columns, over their costs; kinds of places; how costs stand to each other.
use Rattle.common_laws.proofs.Base.{List, ◌≡◌, sym, ap, ◌∙◌, ℕ, ◌+◌, ◌*◌, ◌-◌, ◌%◌, ◌≤◌, ◌<◌, arith, lt-ltb, le-ltb, bit_and, count_trailing_zeros}
use Rattle.common_laws.proofs.Base.{get_or}
use Rattle.sizes.specs.Sizes as Size
use Rattle.sizes.specs.Places.{setting_place, observing_place}
use Rattle.reading.specs.Choice.{pick}
use Rattle.cost.specs.Cost.{◌⊕◌}
use Rattle.plans.specs.Sweep.{at, sums}
use Rattle.plans.proofs.Laws.{at_getD}
use Rattle.sweep_sums.specs.Columns.{ColumnsFit}
use Rattle.sweep_sums.specs.Gone.{columns_gone}
use Rattle.sweep_sums.specs.Sums.{place_kind}
use Rattle.sweep_sums.proofs.Columns.{lowest-below}
use Rattle.sweep_sums.proofs.Gone.{gone-none, gone-next}

pub above-none : {n : ℕ} → (n ≡ 0 → ⊥) → 0 < n
above-none h = omega (arith, h)

pub no_sum : (costs : List ℕ) → 0 ≡ sums costs (columns_gone 0)
unfolding sums
no_sum costs = rw gone-none

module _ {columns : ℕ} {costs : List ℕ} (fit : ColumnsFit columns costs) (some : 0 < columns) where
  -- The lowest column, as the code finds it.
  module _ {place : ℕ} (l : place ≡ count_trailing_zeros 32 columns) where
    pub lowest-inside : place < Size.columns
    lowest-inside = rw l (lowest-below 32 Size.columns columns some fit.few)

    -- Its cost and the sum of the others.
    module _ {others : ℕ} (o : others ≡ bit_and columns (columns - 1)) where
      pub lowest-sum : {rest sum : ℕ} → rest ≡ sums costs (columns_gone others)
          → sum ≡ get_or costs place 0 ⊕ rest → sum ≡ sums costs (columns_gone columns)
      unfolding sums
      lowest-sum r s =
          let j = count_trailing_zeros 32 columns in
          let e : at costs j ≡ get_or costs j 0 = at_getD costs j 0 (rw (fit.size, ← l) lowest-inside) in
          s ∙ rw (l, r, o) (sym (ap (sums costs) (gone-next columns some (omega (arith, fit.few))) ∙ rw e))

      -- Where the lowest column is the last, the sum of the others is 0.
      pub last_sum : {sum : ℕ} → others ≡ 0 → sum ≡ get_or costs place 0 ⊕ 0 → sum ≡ sums costs (columns_gone columns)
      last_sum e = lowest-sum (no_sum costs ∙ ap (λ (c : ℕ). sums costs (columns_gone c)) (sym e))

-- ---- the kind of a place

pub setting-kind : (kind l v : ℕ) → kind ≤ 1 → v ≤ 1 → place_kind (setting_place kind l v) ≡ kind
unfolding place_kind pick
setting-kind kind l v k h =
    let c = setting_place kind l v % Size.costs in
    let e : c ≡ kind * Size.values + v = omega arith in
    rw (lt-ltb c Size.observed_at (omega arith)) (omega arith)

pub observing-kind : (kind l : ℕ) → kind ≤ 1 → place_kind (observing_place kind l) ≡ kind
unfolding place_kind pick
observing-kind kind l k =
    let c = observing_place kind l % Size.costs in
    let e : c ≡ Size.observed_at + kind = omega arith in
    rw (le-ltb c Size.observed_at (omega arith)) (omega arith)
