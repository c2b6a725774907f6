-- What a run asks of its sweeps.
use Rattle.std.specs.Prelude.{List, ℕ, ◌^◌, ◌<◌}
use Rattle.plans.specs.System.{Visit}
use Rattle.plans.specs.Sweep.{lower}
use Rattle.plans.specs.Statements.{SettlesWithin}

-- The sweeps settle, after so few that the count holds their number.
pub record Runs (vs : List Visit) (xs : List ℕ) : Type 0 where
  pub fuel : ℕ
  pub bound : ℕ
  pub within : SettlesWithin lower vs xs fuel bound
  pub small : bound < 2 ^ 32
