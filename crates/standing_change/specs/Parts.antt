-- What the parts of a change ask and leave.
use Rattle.std.specs.Prelude.{Bool, true, List, ◌≡◌, ℕ, ◌≤◌, length}
use Rattle.sizes.specs.Sizes as Size
use Rattle.reading.specs.Refusal.{Read, read}
use Rattle.calculation.specs.Pads.{State, statements_of, placeable}
use Rattle.calculation.specs.Stored.{Holds}
use Rattle.standing_table.specs.StandingTable.{pads_held, analysis_held}
use Rattle.standing_change.specs.RunParts.{read_under}
use Rattle.standing_change.specs.Calls.{Change, answer_of, table_after}

-- ---- the state that a table holds, whatever its numbers are

-- The library table holds its cells, the netlist table its statements with its pads, which may be placed; the standing table
-- says the rest.
pub record StateHeld (net library netlist table : List ℕ) (s : State) : Type 0 where
  pub reads : read_under s.cells net ≡ read s.statements
  pub places : placeable s.statements s.pads ≡ true
  pub few : length s.pads ≤ Size.pads
  pub pads : s.pads ≡ pads_held table
  pub analysis : s.analysis ≡ analysis_held table
  pub holds : Holds library netlist s.cells (statements_of s)

pub record SomeState (net library netlist table : List ℕ) : Type 0 where
  pub state : State
  pub is : StateHeld net library netlist table state
  pub brief : length net ≤ Size.text_bytes
  pub long : Size.standing ≤ length table

-- What a change comes to is answered and left.
pub record Changes (o : Read Change) (before after : List ℕ) (said : Read Bool) : Type 0 where
  pub answers : said ≡ answer_of o
  pub leaves : after ≡ table_after o before
