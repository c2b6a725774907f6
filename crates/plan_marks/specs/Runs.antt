-- What a sweep and the run ask.
use Rattle.std.specs.Prelude.{List, ◌≡◌, ℕ, ◌+◌, ◌*◌, ◌^◌, ◌≤◌, ◌<◌, replicate}
use Rattle.sizes.specs.Sizes as Size
use Rattle.library_table.specs.Cells.{Cell}
use Rattle.netlist_table.specs.Netlist.{Statement}
use Rattle.calculation.specs.Stored.{Holds}
use Rattle.sweep_runs.specs.Asleep.{Resting}
use Rattle.plan_marks.specs.Visits.{Fits}

-- A sweep from a time on: gates that are asleep are idle.
pub record SweepFits (kind : ℕ) (library netlist numbers marks awake : List ℕ) (clock : ℕ) : Type 0 where
  pub fits : Fits kind library netlist numbers marks
  pub timed : clock + 2 * Size.gates < 2 ^ 32
  pub resting : Resting 0 kind library netlist awake numbers

-- The tables hold accepted cells and statements, and nothing is marked.
pub record Traceable (kind : ℕ) (library netlist marks : List ℕ) : Type 0 where
  pub kind_fits : kind ≤ 1
  pub cells : List Cell
  pub statements : List Statement
  pub holds : Holds library netlist cells statements
  pub unmarked : marks ≡ replicate Size.marks 0
