-- Every list of calls on a standing table, each with what it promises. Document 02, K11: "For every list of asks and commits
-- from a freshly analysed netlist"; K14: "one that an analysis, commits and earlier changes of library left".
use Rattle.std.specs.Prelude.{Bool, List, [], ◌∷◌, map, ◌≡◌, ℕ}
use Rattle.reading.specs.Numbers as No
use Rattle.reading.specs.Refusal.{Read, refused, read, ◌>>◌, weigh}
use Rattle.library_table.specs.Cells.{Cell}
use Rattle.library_table.specs.Library.{library}
use Rattle.netlist_table.specs.declared.Rules.TheVariants.{New}
use Rattle.netlist_table.specs.Netlist.{Statement, netlist}
use Rattle.calculation.specs.Pads.{State, fresh, AsNew}
use Rattle.calculation.specs.Pads as P
use Rattle.calculation.specs.StandingAnalysis.{Event, operate, reacts}
use Rattle.calculation.specs.StandingAnalysis as A
use Rattle.demands.specs.declared.Summary.{Summary}
use Rattle.demands.specs.Demands.{PairRead}
use Rattle.demands.specs.Outcome.{text_long, given_texts}
use Rattle.standing_table.specs.StandingTable.{StandsIn}
use Rattle.standing_calls.specs.Promise.{Meant, StandPromised, AskPromised, CommitPromised}
use Rattle.standing_change.specs.Promise.{ChangePromised}

-- A call: an ask, a commit, a change to a library text.
pub data Call : Type 0 where
  ask : (line : ℕ) → Call
  commit : (line count : ℕ) → Call
  change : (text : List ℕ) → Call

-- What a library text comes to, its length included.
unfoldable pub library_read : List ℕ → Read (List Cell)
library_read text = weigh 0 ((No.text_long, text_long text) ∷ []) >> library text

-- What it makes of a state.
unfoldable pub event_of : Call → Event
event_of (ask l) = operate (P.ask l)
event_of (commit l n) = operate (P.commit l n)
event_of (change text) = A.change (library_read text)

-- The library that is lent from then on: the new one, unless it was refused.
unfoldable pub lent_next : Read Bool → (old new : List ℕ) → List ℕ
lent_next (refused number line) old new = old
lent_next (read on) old new = new

-- The calls one after the other, over one netlist text; an ask is lent any answer.
pub data Made (net : List ℕ) : List Call → (lib table lib' table' : List ℕ) → Type 0 where
  none : {lib table : List ℕ} → Made net [] lib table lib table
  asked :
      {lib table lib' table' : List ℕ} {cs : List Call} (l : ℕ) (before after : List ℕ) (said : Read ℕ) →
      AskPromised (given_texts lib net) table l before after said →
      Made net cs lib table lib' table' →
      Made net (ask l ∷ cs) lib table lib' table'
  committed :
      {lib table after lib' table' : List ℕ} {cs : List Call} (l n : ℕ) (said : Read ℕ) →
      CommitPromised (given_texts lib net) table l n after said →
      Made net cs lib after lib' table' →
      Made net (commit l n ∷ cs) lib table lib' table'
  changed :
      {lib table after lib' table' : List ℕ} {cs : List Call} (text : List ℕ) (said : Read Bool) →
      ChangePromised (given_texts lib net) (given_texts text net) table after said →
      Made net cs (lent_next said lib text) after lib' table' →
      Made net (change text ∷ cs) lib table lib' table'

abbrev pub under : List ℕ → List Cell → Read (List Statement)
under net cells = netlist New cells net

-- What a list of calls leaves.
pub record Left (lib net table : List ℕ) (s : State) : Type 0 where
  -- The table holds what the calls make of the fresh analysis, under the library that is lent then;
  pub stands : StandsIn (given_texts lib net) table s
  -- "the numbers equal those of a new analysis with the committed pads as outputs", and demands 2 and 3 hold of them.
  pub means : Meant s table

-- `calls-stand` of proofs/CallList.antt: whatever list of calls follows an accepted `stand`, refused ones among them.
abbrev pub CallsStand : Type 0
CallsStand =
    (lib net before report table report' : List ℕ) (said : Read Summary) →
    StandPromised (given_texts lib net) before report table report' said →
    (pair : PairRead (given_texts lib net)) (a : Summary) → said ≡ read a →
    (cs : List Call) (lib' table' : List ℕ) → Made net cs lib table lib' table' →
    Left lib' net table' (reacts (under net) (fresh pair.cells pair.statements) (map event_of cs))

-- `pads-stand`: where all of them are asks and commits, the library is the one that was lent, and the four counts too are those
-- of a new analysis: "CO and SO sweep counts are those of that new analysis."
abbrev pub PadCalls : List Call → Type 0
PadCalls [] = Unit {0}
PadCalls (ask l ∷ cs) = PadCalls cs
PadCalls (commit l n ∷ cs) = PadCalls cs
PadCalls (change text ∷ cs) = ⊥

abbrev pub PadsStand : Type 0
PadsStand =
    (lib net before report table report' : List ℕ) (said : Read Summary) →
    StandPromised (given_texts lib net) before report table report' said →
    (pair : PairRead (given_texts lib net)) (a : Summary) → said ≡ read a →
    (cs : List Call) → PadCalls cs → (lib' table' : List ℕ) → Made net cs lib table lib' table' →
    (lib' ≡ lib) × AsNew (reacts (under net) (fresh pair.cells pair.statements) (map event_of cs))
