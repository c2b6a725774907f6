-- What was lent to a call on a standing analysis: the entry, the state that texts and table hold, and the causes of a pad.
-- Document 02, K11.
use Rattle.std.specs.Prelude.{Bool, not, ◌||◌, List, [], ◌∷◌, ℕ, ltb, length}
use Rattle.sizes.specs.Sizes as Size
use Rattle.reading.specs.Numbers as No
use Rattle.reading.specs.Refusal.{Read, read, ◌>>=◌, ◌>>◌, weigh}
use Rattle.calculation.specs.Pads.{State, placeable}
use Rattle.demands.specs.Outcome as O
use Rattle.standing_table.specs.StandingTable.{state_held}

-- "1 a lent table below its published size; 2 a text above 65,535 bytes"
unfoldable pub entered : Bool → O.Given → Read (Unit {0})
entered short g = weigh 0 ((No.table_short, short) ∷ ((No.text_long, g.long) ∷ []))

-- A table that no commits left: it has more pads than there are lines, or one that would be refused.
unfoldable pub foreign : State → Bool
foreign s = ltb Size.pads (length s.pads) || not (placeable s.statements s.pads)

-- What was read with what the table holds of it; a foreign table is 23.
unfoldable pub held_by : O.Given → List ℕ → Read State
held_by g table =
    O.read_pair g >>= λ p.
    weigh 0 ((No.unpaddable, foreign (state_held p.cells p.statements table)) ∷ [])
    >> read (state_held p.cells p.statements table)

-- "23 ..; then 24": the causes of a pad, on a line that takes none and by a stale ticket. Those of an ask are the same with no
-- ticket that could be stale.
abbrev pub pad_causes : (taken stale : Bool) → List (ℕ × Bool)
pad_causes taken stale = (No.unpaddable, taken) ∷ ((No.ticket_stale, stale) ∷ [])
