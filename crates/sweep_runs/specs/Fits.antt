-- What sweeps and runs ask of the tables and the numbers (specs/Fits.antt of crate `sweep_turns`).
use Rattle.std.specs.Prelude.{List, ◌≡◌, ℕ, length}
use Rattle.sizes.specs.Sizes as Size
use Rattle.sweep_turns.specs.Fits.{LinksFit}
use Rattle.sweep_runs.specs.Order.{sweep_visits}
use Rattle.sweep_runs.specs.Runs.{Runs}
use Rattle.sweep_runs.specs.Asleep.{Resting}

-- A sweep.
pub record SweepFits (role kind : ℕ) (library netlist numbers awake : List ℕ) : Type 0 where
  pub links_fit : LinksFit role kind library netlist
  pub size : length numbers ≡ Size.numbers
  pub resting : Resting role kind library netlist awake numbers

-- Sweeps until nothing changes.
pub record RunFits (role kind : ℕ) (library netlist numbers awake : List ℕ) : Type 0 where
  pub sweep_fits : SweepFits role kind library netlist numbers awake
  pub runs : Runs (sweep_visits role kind library netlist) numbers

-- The same with all gates awake.
pub record FreshFits (role kind : ℕ) (library netlist numbers : List ℕ) : Type 0 where
  pub links_fit : LinksFit role kind library netlist
  pub size : length numbers ≡ Size.numbers
  pub runs : Runs (sweep_visits role kind library netlist) numbers
