-- What each half of the calculation asks and leaves: the setting half, CC and SC, and the observing half, CO and SO.
use Rattle.std.specs.Prelude.{List, [], ◌∷◌, ◌≡◌, ℕ, length}
use Rattle.sizes.specs.Sizes as Size
use Rattle.plans.specs.Sweep.{Bounded}
use Rattle.plans.specs.Stages.{Stage, Stages}
use Rattle.plans.specs.Continued.{all_by_lower}
use Rattle.library_table.specs.Cells.{Cell}
use Rattle.netlist_table.specs.Netlist.{Gate, Statement, gates_of}
use Rattle.sweep_runs.specs.declared.Sweeps.{Sweeps}
use Rattle.calculation.specs.Stored.{Holds}
use Rattle.calculation.specs.declared.Counts.{Counts}
use Rattle.calculation.specs.Calculation.{stages}
use Rattle.calculation.specs.Runs.{setting_stages, observing_stages}
use Rattle.calculation.specs.Settled.{in_order}
use Rattle.sweep_groups.specs.declared.turns.Role.{Role}
use Rattle.sweep_groups.specs.declared.turns.Role.TheVariants.{Setting, Observing}

-- The runs of a half, by its role.
abbrev pub half_stages : Role → List Cell → List Gate → List Stage
half_stages Setting = setting_stages
half_stages Observing = observing_stages

-- The tables hold accepted cells and statements, and the numbers are costs, whatever they are.
pub record HalfFits (library netlist numbers : List ℕ) : Type 0 where
  pub cells : List Cell
  pub statements : List Statement
  pub holds : Holds library netlist cells statements
  pub size : length numbers ≡ Size.numbers
  pub costs : Bounded numbers

-- The two runs of a half, from the numbers that stood there, left these and took so many sweeps. Each keeps the lesser.
abbrev pub Ran : List Stage → List ℕ → Sweeps → List ℕ → Type 0
Ran ss before said after = Stages (all_by_lower ss) before (said.combinational ∷ said.sequential ∷ []) after

-- The four runs of both halves.
abbrev pub BothRan : List Cell → List Statement → List ℕ → Counts → List ℕ → Type 0
BothRan cells ss before said after = Stages (all_by_lower (stages cells (gates_of ss))) before (in_order said) after
