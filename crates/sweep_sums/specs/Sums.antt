-- Sums in the costs of their kind. A kind is a number here, 0 combinational and 1 sequential.
use Rattle.std.specs.Prelude.{List, ◌≡◌, ℕ, ◌-◌, ◌/◌, ◌%◌, ltb}
use Rattle.sizes.specs.Sizes as Size
use Rattle.reading.specs.Choice.{pick}
use Rattle.cost.specs.Cost.{◌⊕◌}
use Rattle.plans.specs.Sweep.{sums}
use Rattle.sweep_sums.specs.Columns.{named_columns}
use Rattle.sweep_sums.specs.declared.Sum.{Sum}
use Rattle.sweep_sums.specs.declared.Sum.TheVariants.{Combinational, Sequential}

abbrev pub sum_number : Sum → ℕ
sum_number (Combinational s) = s.0
sum_number (Sequential s) = s.0

abbrev pub sum_kind : Sum → ℕ
sum_kind (Combinational s) = 0
sum_kind (Sequential s) = 1

-- A sum of this kind, which comes to this number.
pub record Summed (kind number : ℕ) (sum : Sum) : Type 0 where
  pub of_kind : sum_kind sum ≡ kind
  pub comes_to : sum_number sum ≡ number

-- The kind of the number at a place of the numbers table, which has each line's six costs "in the report's order", those of
-- setting it before those of observing it: a sum is stored where its own kind stands.
unfoldable pub place_kind : ℕ → ℕ
place_kind place =
    let cost = place % Size.costs in
    pick (ltb cost Size.observed_at) (cost / Size.values) (cost - Size.observed_at)

-- "the sum of those plans plus the depth", over the costs of the columns
unfoldable pub row_sum : List ℕ → ℕ → ℕ → ℕ
row_sum costs depth columns = depth ⊕ sums costs (named_columns columns)
