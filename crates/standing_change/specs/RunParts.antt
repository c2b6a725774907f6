-- What the runs of a change of library, and the reading before them, ask and leave.
use Rattle.std.specs.Prelude.{List, ◌++◌, ◌≡◌, ℕ, ◌≤◌, length, drop}
use Rattle.sizes.specs.Sizes as Size
use Rattle.reading.specs.Refusal.{Read, refused, read}
use Rattle.library_table.specs.Cells.{Cell}
use Rattle.netlist_table.specs.declared.Rules.TheVariants.{New}
use Rattle.netlist_table.specs.Netlist.{Statement, gates_of, netlist}
use Rattle.calculation.specs.Calculation.{Analysed}
use Rattle.calculation.specs.Runs.{lesser_runs}
use Rattle.standing_table.specs.StandingTable.{standing_words, pads_held, analysis_held}
use Rattle.standing_table.specs.Parts.{PadsJudged}

-- ---- the numbers

-- An analysis in a standing table, with the pads that it has.
abbrev pub Stores : Analysed → List ℕ → List ℕ → Type 0
Stores a before after = after ≡ standing_words (pads_held before) a ++ drop Size.standing before

-- The runs that keep the lesser, from the numbers of a table.
abbrev pub lesser_held : List Cell → List Statement → List ℕ → Analysed
lesser_held cells ss table = lesser_runs cells (gates_of ss) (analysis_held table).numbers

-- ---- the netlist under a new library

abbrev pub read_under : List Cell → List ℕ → Read (List Statement)
read_under cells net = netlist New cells net

pub record AgainFits (net netlist table : List ℕ) : Type 0 where
  pub brief : length net ≤ Size.text_bytes
  pub wide : Size.netlist ≤ length netlist
  pub long : Size.standing ≤ length table

-- A netlist that is refused, or one whose table has the marks of the pads too.
abbrev pub Again : Read (List Statement) → List ℕ → List Cell → List ℕ → List ℕ → Read (Unit {0}) → Type 0
Again (refused number line) library cells table netlist' said = said ≡ refused number line
Again (read ss) library cells table netlist' said = PadsJudged library cells ss table netlist' said

abbrev pub ReadAgain : List ℕ → List ℕ → List Cell → List ℕ → List ℕ → Read (Unit {0}) → Type 0
ReadAgain net library cells table netlist' said = Again (read_under cells net) library cells table netlist' said
