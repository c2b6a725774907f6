-- The standing table: how it holds a standing analysis, and what any table says. Document 02, K11; docs/TABLES.md has the
-- layout in words.
use Rattle.std.specs.Prelude.{List, [], ◌∷◌, ◌++◌, false, ◌≡◌, ℕ, ◌+◌, ◌*◌, ◌-◌, ◌%◌, ◌/◌, length, get_or, take, drop}
use Rattle.sizes.specs.Sizes as Size
use Rattle.sizes.specs.Places.{observing_place}
use Rattle.table.specs.Blocks.{fitted}
use Rattle.reading.specs.Refusal.{read}
use Rattle.library_table.specs.Cells.{Cell}
use Rattle.library_table.specs.Library.{library}
use Rattle.netlist_table.specs.Layout.{line_words}
use Rattle.netlist_table.specs.Netlist.{Statement}
use Rattle.calculation.specs.declared.Counts.{Counts}
use Rattle.calculation.specs.Calculation.{Analysed}
use Rattle.calculation.specs.Nodes.{Kind, kind_number}
use Rattle.calculation.specs.Pads.{State}
use Rattle.calculation.specs.Prices.{prices_of}
use Rattle.calculation.specs.Runs.{observed_anew}
use Rattle.calculation.specs.StandingAnalysis.{Standing}
use Rattle.sweep_reruns.specs.Kept.{held}
use Rattle.demands.specs.Outcome.{Given}

-- The count of pads, the counts of the four runs, the pads in the order of their commits, 0 after the last, and the numbers:
-- the published size.
unfoldable pub standing_words : List ℕ → Analysed → List ℕ
standing_words pads a =
    length pads
    ∷ (a.counts.cc
    ∷ (a.counts.sc
    ∷ (a.counts.co
    ∷ (a.counts.so ∷ (fitted 0 Size.pads pads ++ a.numbers)))))

-- ---- what any table says

unfoldable pub pads_held : List ℕ → List ℕ
pads_held table = take (get_or table 0 0) (drop Size.pads_at table)

unfoldable pub counts_held : List ℕ → Counts
counts_held table =
    record {
      cc = get_or table Size.runs_at 0;
      sc = get_or table (Size.runs_at + 1) 0;
      co = get_or table (Size.runs_at + 2) 0;
      so = get_or table (Size.runs_at + 3) 0;
    }

-- Its numbers as costs: none is above never.
unfoldable pub analysis_held : List ℕ → Analysed
analysis_held table = record { numbers = held (drop Size.standing_numbers table); counts = counts_held table }

unfoldable pub state_held : List Cell → List Statement → List ℕ → State
state_held cells ss table =
    record { cells = cells; statements = ss; pads = pads_held table; analysis = analysis_held table }

-- ---- a standing analysis

-- What is given to a call reads as the cells and the statements of a standing analysis, and the table holds it; "Entries past a
-- table's published size" may be any.
pub record StandsIn (g : Given) (table : List ℕ) (s : State) : Type 0 where
  pub past : List ℕ
  pub words : table ≡ standing_words s.pads s.analysis ++ past
  pub brief : g.long ≡ false
  pub cells_read : library g.library ≡ read s.cells
  pub standing : Standing g.statements s

-- ---- what asking answers with

-- "the CO and SO of all lines": two numbers for each line from 1 on, CO before SO.
abbrev pub observed_place : ℕ → ℕ
observed_place i = observing_place (i % Size.kinds) (i / Size.kinds + 1)

unfoldable pub observed_words : List ℕ → List ℕ
observed_words numbers = line_words (λ i. get_or numbers (observed_place i) 0) Size.observed 0

-- Where the CO or SO of a line stands in the answer.
abbrev pub answer_place : Kind → ℕ → ℕ
answer_place k l = (l - 1) * Size.kinds + kind_number k

-- ---- one pad more

-- One pad more, from tables that hold the statements with its mark: CO and SO again over the values that stand, and the pad
-- behind the others.
abbrev pub StoresPad : List Cell → List Statement → ℕ → ℕ → List ℕ → List ℕ → Type 0
StoresPad cells ss pads l before after =
    after ≡ standing_words (take pads (drop Size.pads_at before) ++ (l ∷ [])) (observed_anew (prices_of ss) cells ss (analysis_held before))
    ++ drop Size.standing before
