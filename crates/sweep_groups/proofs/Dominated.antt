-- A row that another dominates: its sum is no lower, whatever the costs, so that the least row sum is the same without it.
use Rattle.common_laws.proofs.Base.{true, List, [], ◌∷◌, inl, some, ◌≡◌, refl, ℕ, zero, suc, ◌+◌, ◌*◌, ◌-◌, ◌/◌, ◌%◌, ◌≤◌, ◌<◌, le_refl, arith, eqb-true, leb-true}
use Rattle.common_laws.proofs.Base.{bit_and, and_step, eqb, leb, get_or}
use Rattle.common_laws.proofs.Tests.{and_left, and_right}
use Rattle.sizes.specs.Sizes as Size
use Rattle.cost.specs.Cost.{never, counted, lesser}
use Rattle.cost.proofs.Laws.{sum-never, sum_bound, sum-right, sum_mono}
use Rattle.plans.specs.Sweep.{at, sums}
use Rattle.sweep_sums.specs.Columns.{with_named, column_places, named_columns}
use Rattle.sweep_sums.specs.declared.Sum.{Sum}
use Rattle.sweep_sums.specs.Sums.{sum_number, sum_kind, Summed, row_sum}
use Rattle.sweep_groups.specs.Fits.{GroupFits}
use Rattle.sweep_groups.specs.Sums.{lesser_row, dominated}
use Rattle.sweep_groups.proofs.Rows.{SummedFrom, summed-none, summed-more}

-- ---- sums over columns, and over some of them

-- Columns that are among others are so bit by bit.
among-rest : (columns others : ℕ) → bit_and columns others ≡ others → bit_and (columns / 2) (others / 2) ≡ others / 2
among-rest columns others e = omega (arith, and_step columns others)

among-lowest : (columns others : ℕ) → bit_and columns others ≡ others → others % 2 ≤ columns % 2
among-lowest columns others e = omega (arith, and_step columns others)

module _ (costs : List ℕ) where
  sums-bound : (ns : List ℕ) → sums costs ns ≤ never
  unfolding sums
  sums-bound [] = omega arith
  sums-bound (n ∷ ns) = sum_bound (at costs n) (sums costs ns)

  named_more : (n : ℕ) (ms ns : List ℕ) (x y : ℕ) → x ≤ y → sums costs ms ≤ sums costs ns
      → sums costs (with_named x n ms) ≤ sums costs (with_named y n ns)
  unfolding with_named sums
  named_more n ms ns zero zero h l = l
  named_more n ms ns zero (suc y) h l = omega (arith, sum-right (at costs n) (sums costs ns), sums-bound ns)
  named_more n ms ns (suc x) zero h l = absurd (omega arith)
  named_more n ms ns (suc x) (suc y) h l = sum_mono (at costs n) (sums costs ms) (at costs n) (sums costs ns) (le_refl (at costs n)) l

  sums-among : (place : ℕ → ℕ) (count first columns others : ℕ) → bit_and columns others ≡ others
      → sums costs (column_places place count first others) ≤ sums costs (column_places place count first columns)
  unfolding column_places sums
  sums-among place zero first columns others e = le_refl 0
  sums-among place (suc count) first columns others e =
      named_more (place first) _ _ (others % 2) (columns % 2) (among-lowest columns others e)
      (sums-among place count (suc first) (columns / 2) (others / 2) (among-rest columns others e))

  dominated-sum : (depth columns other others : ℕ) → dominated depth columns other others ≡ true
      → row_sum costs other others ≤ row_sum costs depth columns
  unfolding dominated row_sum named_columns
  dominated-sum depth columns other others t =
      let e = and_left (eqb (bit_and columns others) others) (leb other depth) t in
      let l = and_right (eqb (bit_and columns others) others) (leb other depth) t in
      sum_mono other _ depth _ (leb-true other depth l) (sums-among (λ j. j) 32 0 columns others (eqb-true (bit_and columns others) others e))

  row_bound : (depth columns : ℕ) → row_sum costs depth columns ≤ never
  unfolding row_sum
  row_bound depth columns = sum_bound depth _

-- ---- the least row sum, with the row that was summed last

module _ (library costs : List ℕ) (group : ℕ) where
  -- Of the rows from `row` on; it is no higher than the sum of a row with this depth and these columns.
  abbrev pub LeastBelow : ℕ → ℕ → Sum → ℕ → ℕ → Type 0
  LeastBelow kind row best depth columns =
      SummedFrom some library costs group kind row best × (sum_number best ≤ row_sum costs depth columns)

  -- Before the first, a row that costs never stands for the one summed last.
  pub below_none : {kind : ℕ} {best : Sum} → Summed kind never best → LeastBelow kind (get_or library group 0) best never 0
  unfolding row_sum
  below_none s = (summed-none some library costs group s, omega (arith, s.comes_to, sum-never never (sums costs (named_columns 0)) (inl (le_refl never))))

  module _ (kind row depth columns : ℕ) (best : Sum) (p : 0 < row) (q : row ≤ get_or library group 0) (f : GroupFits library group Size.columns) (b : LeastBelow kind row best depth columns) where
    abbrev row_at : ℕ
    row_at = group + 1 + Size.row_words * (row - 1)

    -- A row that is dominated changes nothing.
    pub below-same : dominated (get_or library row_at 0) (get_or library (row_at + 1) 0) depth columns ≡ true
        → LeastBelow kind (row - 1) best depth columns
    unfolding lesser_row lesser counted
    below-same d =
        let l = dominated-sum costs (get_or library row_at 0) (get_or library (row_at + 1) 0) depth columns d in
        let m = row_bound costs depth columns in
        (summed-more some library costs group p q f b.0 (record { of_kind = refl; comes_to = omega (arith, b.1, l, m) }), b.1)

    -- Any other is summed.
    pub below_more : {next : Sum} → Summed (sum_kind best) (lesser (row_sum costs (get_or library row_at 0) (get_or library (row_at + 1) 0)) (sum_number best)) next
        → LeastBelow kind (row - 1) next (get_or library row_at 0) (get_or library (row_at + 1) 0)
    unfolding lesser_row lesser counted
    below_more n = (summed-more some library costs group p q f b.0 n, omega (arith, n.comes_to))
