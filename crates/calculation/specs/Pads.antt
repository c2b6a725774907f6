-- Pads, and the CO and SO that follow from one more. Document 02, K11.
use Rattle.std.specs.Prelude.{Bool, true, not, ◌&&◌, ◌||◌, List, [], ◌∷◌, ◌++◌, map, ◌≡◌, ℕ, ◌≤◌, eqb, length}
use Rattle.reading.specs.Choice.{pick}
use Rattle.reading.specs.Numbers as No
use Rattle.reading.specs.Refusal.{Read, read, ◌>>◌, weigh}
use Rattle.plans.specs.Sweep.{at}
use Rattle.library_table.specs.Cells.{Cell}
use Rattle.netlist_table.specs.Netlist.{Statement, mark, output, mentioned, is_output}
use Rattle.calculation.specs.Acceptance.{BothSound}
use Rattle.calculation.specs.Nodes.{Kind, set, node}
use Rattle.calculation.specs.Prices.{prices_of}
use Rattle.calculation.specs.Calculation.{Analysed, analysed}
use Rattle.calculation.specs.Runs.{observed_anew}

-- "with the committed pads as outputs": their marks behind the netlist's own statements, in the order of the commits.
unfoldable pub padded : List Statement → List ℕ → List Statement
padded ss pads = ss ++ map (mark output) pads

-- ---- the standing analysis, as a list of operations leaves it

-- The netlist's statements and the pads; the analysis that stands.
pub record State : Type 0 where
  pub cells : List Cell
  pub statements : List Statement
  pub pads : List ℕ
  pub analysis : Analysed

abbrev pub statements_of : State → List Statement
statements_of s = padded s.statements s.pads

-- A freshly analysed netlist.
unfoldable pub fresh : List Cell → List Statement → State
fresh cells ss = record { cells = cells; statements = ss; pads = []; analysis = analysed cells ss }

-- "a line that the netlist doesn't mention or already an output"
unfoldable pub takes_none : List Statement → ℕ → Bool
takes_none ss l = not (mentioned l ss) || is_output l ss

-- "23 for" such a line.
unfoldable pub unpaddable : State → ℕ → Bool
unpaddable s l = takes_none (statements_of s) l

-- Whether pads may be placed, one after the other.
unfoldable pub placeable : List Statement → List ℕ → Bool
placeable ss [] = true
placeable ss (l ∷ ls) = not (takes_none ss l) && placeable (ss ++ (mark output l ∷ [])) ls

-- "24 for a ticket whose count isn't the present one"
unfoldable pub stale : State → ℕ → Bool
stale s count = not (eqb count (length s.pads))

-- The state with one pad more: CO and SO run again; CC, SC and their counts stand.
unfoldable pub placed : State → ℕ → State
placed s l =
    let pads = s.pads ++ (l ∷ []) in
    let ss = padded s.statements pads in
    record {
      cells = s.cells;
      statements = s.statements;
      pads = pads;
      analysis = observed_anew (prices_of ss) s.cells ss s.analysis;
    }

pub data Operation : Type 0 where
  ask : (line : ℕ) → Operation
  commit : (line count : ℕ) → Operation

-- "Refused: 23 ..; then 24 ... Asking checks 23, committing both": the causes in their order.
unfoldable pub causes_of : State → Operation → List (ℕ × Bool)
causes_of s (ask l) = (No.unpaddable, unpaddable s l) ∷ []
causes_of s (commit l n) = (No.unpaddable, unpaddable s l) ∷ ((No.ticket_stale, stale s n) ∷ [])

-- What its checks come to: a refusal, at line 0, or the state of which it asks.
unfoldable pub checked : State → Operation → Read State
checked s o = weigh 0 (causes_of s o) >> read s

-- "Asking .. changing nothing"; "Committing a ticket marks the line and makes exactly those numbers stand"; a refused one
-- leaves the state untouched.
unfoldable pub step : State → Operation → State
step s (ask l) = s
step s (commit l n) = pick (unpaddable s l || stale s n) s (placed s l)

unfoldable pub steps : State → List Operation → State
steps s [] = s
steps s (o ∷ os) = steps (step s o) os

-- ---- what is shown of them, under the names of proofs/Pads.antt

-- "the numbers equal those of a new analysis with the committed pads as outputs", and so do the four counts.
pub record AsNew (s : State) : Type 0 where
  pub sound : BothSound s.cells (statements_of s)
  pub analysed : s.analysis ≡ analysed s.cells (statements_of s)

-- `all-stand`: "For every list of asks and commits from a freshly analysed netlist".
abbrev pub AllStand : Type 0
AllStand = (cells : List Cell) (ss : List Statement) → BothSound cells ss → (os : List Operation) → AsNew (steps (fresh cells ss) os)

-- `pads-values`: pads change no CC and no SC. So a plan that sets a line, of the netlist without its pads, costs the number that
-- stands with them: "a plan written out has the reported cost" (K14).
abbrev pub PadsValues : Type 0
PadsValues =
    (cells : List Cell) (ss : List Statement) (pads : List ℕ) →
    BothSound cells ss →
    placeable ss pads ≡ true →
    (k : Kind) (l v : ℕ) → v ≤ 1 →
    at (analysed cells (padded ss pads)).numbers (node k (set l v)) ≡ at (analysed cells ss).numbers (node k (set l v))
