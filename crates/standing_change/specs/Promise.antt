-- What a change of library promises. Document 02, K14: by equation of every table, whatever stands in it (specs/Calls.antt);
-- and of a standing analysis, `StandsIn`, what document 02 says of it. Whatever list of asks, commits and changes led to it:
-- what they leave stands (`CallsStand` of specs/CallList.antt).
use Rattle.std.specs.Prelude.{Bool, true, false, List, ◌≡◌, ℕ}
use Rattle.reading.specs.Refusal.{Read, refused, read}
use Rattle.library_table.specs.Cells.{Cell}
use Rattle.library_table.specs.Library.{library}
use Rattle.netlist_table.specs.Netlist.{Statement}
use Rattle.netlist_table.specs.Reread.{ForCell}
use Rattle.calculation.specs.Growth.{grown}
use Rattle.calculation.specs.Pads.{State}
use Rattle.calculation.specs.StandingAnalysis.{went_on, changed_to, GoesOn, Unmoved}
use Rattle.demands.specs.Outcome.{Given}
use Rattle.standing_table.specs.StandingTable.{StandsIn}
use Rattle.standing_calls.specs.Promise.{Meant}
use Rattle.standing_change.specs.Calls.{comes, answer_of, table_after, told}

-- Of a standing analysis and a library that was read.
pub record Follows (h : Given) (s : State) (more : List Cell) (after : List ℕ) : Type 0 where
  -- The state that `changed_to` names stands then, under the new library's text,
  pub stands : (ss : List Statement) → h.statements more ≡ read ss → StandsIn h after (changed_to s more (read ss))
  -- and where the library has only grown, the sweeps went on, the netlist was read as before, and each run kept its bound.
  pub goes : grown s.cells more ≡ true → (h.statements more ≡ read s.statements) × GoesOn s more

pub record ChangePromised (g h : Given) (before after : List ℕ) (said : Read Bool) : Type 0 where
  pub answers : said ≡ answer_of (comes g h before)
  pub leaves : after ≡ table_after (comes g h before) before
  pub untouched : (number line : ℕ) → said ≡ refused number line → after ≡ before
  -- A standing analysis is refused for its new library alone.
  pub tells : (s : State) → StandsIn g before s → said ≡ told h s
  pub follows : (s : State) → StandsIn g before s → (more : List Cell) → h.long ≡ false → library h.library ≡ read more
      → Follows h s more after
  -- Under a library that is accepted the netlist is refused for the cell of a gate alone, 12 or 13.
  pub for_cell : (s : State) → StandsIn g before s → (more : List Cell) → h.long ≡ false → library h.library ≡ read more
      → (number line : ℕ) → said ≡ refused number line → ForCell number
  -- "rows added to groups, perhaps none": where none is, the numbers stay, and each run takes the one sweep that changes nothing.
  pub unmoved : (s : State) → StandsIn g before s → h.long ≡ false → library h.library ≡ read s.cells
      → (said ≡ read true) × StandsIn h after (went_on s s.cells) × Unmoved s
  -- "The six numbers are those of a new analysis under the new library with the same pads": demands 2 and 3 of what stands.
  pub means : (s : State) → StandsIn h after s → Meant s after
