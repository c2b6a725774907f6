-- What a visit and a gate's two visits ask and leave.
use Rattle.std.specs.Prelude.{Bool, List, ◌≡◌, ℕ, ◌+◌, ◌^◌, ◌<◌, length, get_or}
use Rattle.sizes.specs.Sizes as Size
use Rattle.plans.specs.System.{Visit}
use Rattle.plans.specs.Sweep.{lower, Bounded}
use Rattle.plans.specs.Trace.{Trace, trace_sweep}
use Rattle.sweep_groups.specs.Tables.{gate_visit}
use Rattle.sweep_turns.specs.Fits.{LinksFit}
use Rattle.sweep_turns.specs.Renewed.{Swept}
use Rattle.plan_marks.specs.Marks.{Stands}

-- The tables and the arrays beside them.
pub record Fits (kind : ℕ) (library netlist numbers marks : List ℕ) : Type 0 where
  pub links_fit : LinksFit 0 kind library netlist
  pub size : length numbers ≡ Size.numbers
  pub bounded : Bounded numbers
  pub marks_size : length marks ≡ Size.marks

-- The two visits of a gate, from a time on.
pub record GateFits (kind : ℕ) (library netlist numbers marks : List ℕ) (gate clock : ℕ) : Type 0 where
  pub fits : Fits kind library netlist numbers marks
  pub inside : gate < get_or netlist 0 0
  pub timed : clock + 2 < 2 ^ 32

-- The visit of a gate's output at a value, of the visits by turn.
abbrev pub turn_visit : ℕ → List ℕ → List ℕ → ℕ → ℕ → Visit
turn_visit kind library netlist g v = gate_visit 0 kind library netlist g v

-- Visits made at a time leave what they remember, and say whether a number changed.
pub record Traced (kind : ℕ) (library netlist : List ℕ) (vs : List Visit) (clock : ℕ) (numbers marks numbers' marks' : List ℕ) (said : Bool) : Type 0 where
  pub stands : (t : Trace) → t.time ≡ clock → Stands kind library netlist t numbers marks
      → Stands kind library netlist (trace_sweep lower vs t) numbers' marks'
  pub swept : Swept vs numbers numbers' said
  pub marks_long : length marks' ≡ length marks
