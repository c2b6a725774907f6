-- What the parts of asking and committing ask and leave.
use Rattle.std.specs.Prelude.{Bool, true, false, not, List, [], ◌∷◌, ◌++◌, ◌≡◌, ℕ}
use Rattle.reading.specs.Numbers as No
use Rattle.reading.specs.Refusal.{Read, read, ◌>>=◌, ◌>>◌, weigh}
use Rattle.reading.specs.Answer.{done_read}
use Rattle.library_table.specs.Cells.{Cell}
use Rattle.netlist_table.specs.Netlist.{Statement, mark, output}
use Rattle.calculation.specs.Pads.{padded, State, statements_of, takes_none, unpaddable, placeable, placed}
use Rattle.calculation.specs.Stored.{Holds}
use Rattle.demands.specs.Outcome.{Given, Pair, read_pair}
use Rattle.standing_table.specs.StandingTable.{state_held}
use Rattle.standing_table.specs.Held.{entered, foreign, held_by, pad_causes}

-- A pad on a line: whether it may be placed, and, where it was, the netlist table with its mark.
pub record PadTried (library : List ℕ) (cells : List Cell) (ss : List Statement) (l : ℕ) (netlist' : List ℕ) (said : Bool) : Type 0 where
  pub answers : said ≡ not (takes_none ss l)
  pub holds : said ≡ true → Holds library netlist' cells (ss ++ (mark output l ∷ []))

-- Pads one after the other.
pub record PadsTried (library : List ℕ) (cells : List Cell) (ss : List Statement) (ls : List ℕ) (netlist' : List ℕ) (said : Bool)
    : Type 0 where
  pub answers : said ≡ placeable ss ls
  pub holds : said ≡ true → Holds library netlist' cells (padded ss ls)

-- The pads of a standing table: 23 where it is foreign.
pub record PadsJudged (library : List ℕ) (cells : List Cell) (ss : List Statement) (table netlist' : List ℕ) (said : Read (Unit {0}))
    : Type 0 where
  pub answers : said ≡ weigh 0 ((No.unpaddable, foreign (state_held cells ss table)) ∷ [])
  pub holds : said ≡ read tt → Holds library netlist' cells (statements_of (state_held cells ss table))

-- Both texts.
pub record TextsRead (g : Given) (library' netlist' : List ℕ) (said : Read (Unit {0})) : Type 0 where
  pub answers : said ≡ done_read (entered false g >> read_pair g)
  pub holds : (p : Pair) → said ≡ read tt → read_pair g ≡ read p → Holds library' netlist' p.cells p.statements

-- Both texts and the pads of a table.
pub record HeldRead (g : Given) (table library' netlist' : List ℕ) (said : Read (Unit {0})) : Type 0 where
  pub answers : said ≡ done_read (entered false g >> held_by g table)
  pub holds : (s : State) → said ≡ read tt → held_by g table ≡ read s → Holds library' netlist' s.cells (statements_of s)

-- Both texts, the pads of a table, and one pad more, whose ticket may be stale.
pub record PadRead (g : Given) (table : List ℕ) (l : ℕ) (stale : Bool) (library' netlist' : List ℕ) (said : Read (Unit {0}))
    : Type 0 where
  pub answers : said ≡ done_read (entered false g >> (held_by g table >>= λ s. weigh 0 (pad_causes (unpaddable s l) stale)))
  pub holds : (s : State) → said ≡ read tt → held_by g table ≡ read s → Holds library' netlist' s.cells (statements_of (placed s l))
