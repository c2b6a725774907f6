-- A standing analysis: "one that an analysis, commits and earlier changes of library left". Document 02, K11 and K14.
use Rattle.std.specs.Prelude.{true, false, List, [], ◌∷◌, ◌≡◌, ℕ, ◌≤◌, length}
use Rattle.reading.specs.Choice.{pick}
use Rattle.reading.specs.Refusal.{Read, refused, read}
use Rattle.plans.specs.Stages.{Stages}
use Rattle.plans.specs.Sweep.{at}
use Rattle.library_table.specs.Cells.{Cell}
use Rattle.library_table.specs.Sound as C
use Rattle.netlist_table.specs.Netlist.{Statement, gates_of}
use Rattle.calculation.specs.Acceptance.{BothSound}
use Rattle.calculation.specs.Calculation.{stages, analysed}
use Rattle.calculation.specs.Settled.{in_order, FewSweeps}
use Rattle.calculation.specs.Growth.{grown}
use Rattle.calculation.specs.Runs.{runs_from}
use Rattle.calculation.specs.Pads.{padded, State, statements_of, fresh, unpaddable, placeable, placed, Operation, step, steps}

-- What may happen to a standing analysis: an ask or a commit, and a change to what a library text comes to.
pub data Event : Type 0 where
  operate : Operation → Event
  change : (library : Read (List Cell)) → Event

-- "CC and SC sweeps then go on from the standing numbers, CO and SO after them."
unfoldable pub went_on : State → List Cell → State
went_on s more =
    record {
      cells = more;
      statements = s.statements;
      pads = s.pads;
      analysis = runs_from more (gates_of (statements_of s)) s.analysis.numbers;
    }

-- "Any other accepted library is analysed from the beginning, pads kept".
unfoldable pub begun_again : State → List Cell → List Statement → State
begun_again s more ss =
    record { cells = more; statements = ss; pads = s.pads; analysis = analysed more (padded ss s.pads) }

-- "one .. under which the netlist is [refused], leaves the standing analysis untouched".
unfoldable pub changed_to : State → List Cell → Read (List Statement) → State
changed_to s more (refused number line) = s
changed_to s more (read ss) = pick (grown s.cells more) (went_on s more) (begun_again s more ss)

module _ (given : List Cell → Read (List Statement)) where
  -- "one that is refused .. leaves the standing analysis untouched".
  unfoldable pub react : State → Event → State
  react s (operate o) = step s o
  react s (change (refused number line)) = s
  react s (change (read more)) = changed_to s more (given more)

  unfoldable pub reacts : State → List Event → State
  reacts s [] = s
  reacts s (e ∷ es) = reacts (react s e) es

  -- What holds of a standing analysis: its pads are on lines that the netlist mentions, no line an output twice; "The six
  -- numbers are those of a new analysis under the new library with the same pads"; the counts "stay within document 01's
  -- bounds".
  pub record Standing (s : State) : Type 0 where
    pub was_read : given s.cells ≡ read s.statements
    pub pads : placeable s.statements s.pads ≡ true
    pub sound : BothSound s.cells (statements_of s)
    pub numbers : s.analysis.numbers ≡ (analysed s.cells (statements_of s)).numbers
    pub few : FewSweeps (length (gates_of (statements_of s))) s.analysis.counts

-- What one pad more makes of a standing analysis: "the numbers equal those of a new analysis with the committed pads as
-- outputs", "CO and SO sweep counts are those of that new analysis", those of CC and SC stand as they were, and "No pad raises
-- any CO or SO", nor any other number.
pub record OnePadMore (s : State) (l : ℕ) : Type 0 where
  pub numbers : (placed s l).analysis.numbers ≡ (analysed s.cells (statements_of (placed s l))).numbers
  pub co : (placed s l).analysis.counts.co ≡ (analysed s.cells (statements_of (placed s l))).counts.co
  pub so : (placed s l).analysis.counts.so ≡ (analysed s.cells (statements_of (placed s l))).counts.so
  pub cc : (placed s l).analysis.counts.cc ≡ s.analysis.counts.cc
  pub sc : (placed s l).analysis.counts.sc ≡ s.analysis.counts.sc
  pub lower : (n : ℕ) → at (placed s l).analysis.numbers n ≤ at s.analysis.numbers n

-- `one-pad-more` of proofs/StandingAnalysis.antt.
abbrev pub PadPlaced : (List Cell → Read (List Statement)) → Type 0
PadPlaced given = (s : State) → Standing given s → (l : ℕ) → unpaddable s l ≡ false → OnePadMore s l

-- `none_raised_lem`: the same of every list of asks and commits, after a change of library too.
abbrev pub NoneRaised : (List Cell → Read (List Statement)) → Type 0
NoneRaised given =
    (s : State) → Standing given s → (os : List Operation) (n : ℕ) → at (steps s os).analysis.numbers n ≤ at s.analysis.numbers n

-- ---- other libraries, under the names of proofs/NewLibrary.antt

-- Each library that it changes to is refused, or is one that was read.
abbrev pub AllRead : List Event → Type 0
AllRead [] = Unit {0}
AllRead (operate o ∷ es) = AllRead es
AllRead (change (refused number line) ∷ es) = AllRead es
AllRead (change (read more) ∷ es) = C.Sound more × AllRead es

-- `grown-reads`: a library that has only grown reads the netlist as the old one did, and so never refuses it.
abbrev pub GrownReads : (List Cell → Read (List Statement)) → Type 0
GrownReads given = (cells more : List Cell) → grown cells more ≡ true → given more ≡ given cells

-- `on-goes`: "CC and SC sweeps then go on from the standing numbers, CO and SO after them", each until the first that changes
-- nothing, "and stay within document 01's bounds"; they come to the numbers of a new analysis.
pub record GoesOn (s : State) (more : List Cell) : Type 0 where
  pub settled : Stages (stages more (gates_of (statements_of s))) s.analysis.numbers (in_order (went_on s more).analysis.counts) (went_on s more).analysis.numbers
  pub numbers : (went_on s more).analysis.numbers ≡ (analysed more (statements_of s)).numbers
  pub few : FewSweeps (length (gates_of (statements_of s))) (went_on s more).analysis.counts

abbrev pub OnGoes : (List Cell → Read (List Statement)) → Type 0
OnGoes given = (s : State) → Standing given s → (more : List Cell) → C.Sound more → grown s.cells more ≡ true → GoesOn s more

-- `same-library`: the library that stands has only grown, by no row, and each run takes the one sweep that changes nothing.
pub record Unmoved (s : State) : Type 0 where
  pub goes : grown s.cells s.cells ≡ true
  pub numbers : (went_on s s.cells).analysis.numbers ≡ s.analysis.numbers
  pub counts : (went_on s s.cells).analysis.counts ≡ record { cc = 1; sc = 1; co = 1; so = 1 }

abbrev pub SameLibrary : (List Cell → Read (List Statement)) → Type 0
SameLibrary given = (s : State) → Standing given s → Unmoved s

-- `all-standing`: whatever happens to a fresh analysis, it stands; so of a ticket asked before a change and committed after it,
-- since a commit sees the present state alone.
abbrev pub AllStanding : (List Cell → Read (List Statement)) → Type 0
AllStanding given =
    (cells : List Cell) (ss : List Statement) →
    C.Sound cells →
    given cells ≡ read ss →
    (es : List Event) → AllRead es →
    Standing given (reacts given (fresh cells ss) es)
