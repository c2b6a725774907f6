-- What one visit asks of the tables and the numbers (specs/Fits.antt of crate `sweep_groups`).
use Rattle.std.specs.Prelude.{Bool, List, ◌≡◌, ℕ, ◌≤◌, ◌<◌, length}
use Rattle.sizes.specs.Sizes as Size
use Rattle.sweep_sums.specs.declared.Sum.{Sum}
use Rattle.sweep_sums.specs.Sums.{sum_kind, place_kind}
use Rattle.sweep_groups.specs.Fits.{Gathered, GroupFits, LeastFits}

-- A sum may be stored at a place of the numbers: one whose kind is the sum's.
pub record StoreFits (place : ℕ) (sum : Sum) (numbers : List ℕ) : Type 0 where
  pub inside : place < Size.numbers
  pub size : length numbers ≡ Size.numbers
  pub of_kind : sum_kind sum ≡ place_kind place

-- One visit: a group, the costs of its columns, the place of its number, which is of the kind, and the pins of its cell.
pub record VisitFits (wired : Bool) (kind : ℕ) (library : List ℕ) (group : ℕ) (costs numbers : List ℕ) (place pins : ℕ) : Type 0 where
  pub least_fits : LeastFits wired kind library group pins costs
  pub size : length numbers ≡ Size.numbers
  pub place_fits : place < Size.numbers
  pub of_kind : place_kind place ≡ kind

-- Costs are those of the columns which the rows of a group name, at a gate with these lines.
pub record CostsOf (kind : ℕ) (library : List ℕ) (group : ℕ) (lines : List ℕ) (pins : ℕ) (numbers costs : List ℕ) : Type 0 where
  pub count : ℕ
  pub few : count ≤ Size.columns
  pub gathered : Gathered count kind lines pins numbers costs
  pub group_fits : GroupFits library group count
