-- What the three calls promise. Document 02, K11: `g` is what a call was given to read, `said` what it answered. By equation of
-- every table, whatever stands in it (specs/Calls.antt); and of a standing analysis, `StandsIn`, what document 02 says of it.
use Rattle.std.specs.Prelude.{true, false, ◌||◌, List, ◌++◌, ◌⊎◌, ◌≡◌, ℕ, ◌+◌, ◌≤◌, ◌<◌, length, get_or, drop, replicate}
use Rattle.sizes.specs.Sizes as Size
use Rattle.sizes.specs.Places.{observing_place}
use Rattle.reading.specs.Numbers as No
use Rattle.reading.specs.Refusal.{Read, refused, read}
use Rattle.calculation.specs.Nodes.{Kind, Purpose, kind_number, set, observe, node}
use Rattle.calculation.specs.Calculation.{analysed}
use Rattle.calculation.specs.Settled.{Settled, FewSweeps}
use Rattle.calculation.specs.LinePlans.{Exact}
use Rattle.calculation.specs.Pads.{State, statements_of, fresh, unpaddable, stale, placed, ask, commit, step}
use Rattle.calculation.specs.StandingAnalysis.{OnePadMore}
use Rattle.netlist_table.specs.Netlist.{gates_of}
use Rattle.demands.specs.declared.Summary.{Summary}
use Rattle.demands.specs.Demands.{Reported, PairRead, Promised}
use Rattle.demands.specs.Outcome as O
use Rattle.demands.specs.Own.{own_tables}
use Rattle.standing_table.specs.StandingTable.{observed_words, StandsIn, answer_place}
use Rattle.standing_calls.specs.Calls.{comes, table_short, answer_short, ticket_of, answer_after, placed_of, table_after, asked, committed, standing, stood, reported}

-- Demands 2 and 3 of the numbers that stand in a table: they are those of a new analysis with the pads as outputs, to which the
-- sweeps settle; each is exact; and the counts keep document 01's bounds.
pub record Meant (s : State) (table : List ℕ) : Type 0 where
  pub settled : Settled s.cells (statements_of s) (analysed s.cells (statements_of s))
  pub numbers : (i : ℕ) → i < Size.numbers
      → get_or table (Size.standing_numbers + i) 0 ≡ get_or (analysed s.cells (statements_of s)).numbers i 0
  pub exact : (k : Kind) (p : Purpose) → Reported p
      → Exact s.cells (statements_of s) k p (get_or table (Size.standing_numbers + node k p) 0)
  pub few : FewSweeps (length (gates_of (statements_of s))) s.analysis.counts
  -- CC and SC do not depend on pads: they are those of the netlist as its text says it, of which a plan is written out.
  pub values : (k : Kind) (l v : ℕ) → Reported (set l v)
      → get_or table (Size.standing_numbers + node k (set l v)) 0 ≡ get_or (analysed s.cells s.statements).numbers (node k (set l v)) 0

-- ---- the analysis that is to stand

pub record StandPromised (g : O.Given) (before report after report' : List ℕ) (said : Read Summary) : Type 0 where
  pub answers : said ≡ O.answer (standing g before report)
  pub leaves : after ≡ stood g before report
  pub reports : report' ≡ reported g before report
  -- It is the analysis of `analyse`, with its whole promise.
  pub analyses : table_short before ≡ false → (tables : O.Lent) × Promised g (own_tables report) tables said × (report' ≡ tables.report)
  -- "a freshly analysed netlist" stands,
  pub stands : (pair : PairRead g) (a : Summary) → said ≡ read a → StandsIn g after (fresh pair.cells pair.statements)
  -- and demands 2 and 3 hold of what stands.
  pub means : (s : State) → StandsIn g after s → Meant s after
  -- A refusal by its number alone: "Entry refusals leave lent memory untouched; later ones leave every table and the report
  -- buffer zero."
  pub untouched : (number line : ℕ) → said ≡ refused number line → No.of_entry number ≡ true → (after ≡ before) × (report' ≡ report)
  pub cleared : (number line : ℕ) → said ≡ refused number line → No.of_entry number ≡ false
      → (after ≡ replicate (length before) 0) × (report' ≡ replicate (length report) 0)

-- ---- asking

-- What is said and left where a standing analysis is asked.
abbrev pub Answered : Read (ℕ × List ℕ) → List ℕ → List ℕ → Read ℕ → Type 0
Answered (refused number line) before after said = (said ≡ refused number line) × (after ≡ before)
Answered (read x) before after said = (said ≡ read x.0) × (after ≡ x.1 ++ drop Size.observed before)

-- Why a standing analysis is asked in vain: an answer below its size is 1, a line that takes no pad 23, both at line 0.
abbrev pub AskRefused : State → ℕ → List ℕ → ℕ → ℕ → Type 0
AskRefused s l before number line =
    (line ≡ 0) × (((number ≡ No.table_short) × (answer_short before ≡ true)) ⊎ ((number ≡ No.unpaddable) × (unpaddable s l ≡ true)))

-- What an accepted ask says of each line: the number is exact with the pad as an output, and not above the one that stands.
pub record PadSeen (s : State) (l : ℕ) (table after : List ℕ) : Type 0 where
  pub exact : (k : Kind) (m : ℕ) → 1 ≤ m → m ≤ Size.lines
      → Exact s.cells (statements_of (placed s l)) k (observe m) (get_or after (answer_place k m) 0)
  pub lower : (k : Kind) (m : ℕ) → 1 ≤ m → m ≤ Size.lines
      → get_or after (answer_place k m) 0 ≤ get_or table (Size.standing_numbers + observing_place (kind_number k) m) 0

pub record AskPromised (g : O.Given) (table : List ℕ) (l : ℕ) (before after : List ℕ) (said : Read ℕ) : Type 0 where
  pub answers : said ≡ ticket_of (comes g (table_short table || answer_short before) table (ask l))
  pub leaves : after ≡ answer_after (comes g (table_short table || answer_short before) table (ask l)) l before
  pub untouched : (number line : ℕ) → said ≡ refused number line → after ≡ before
  -- An answer that no caller takes for a refusal.
  pub few : (n : ℕ) → said ≡ read n → n ≤ Size.pads
  pub stands : (s : State) → StandsIn g table s → answer_short before ≡ false → Answered (asked s l) before after said
  pub refuses : (s : State) → StandsIn g table s → (number line : ℕ) → said ≡ refused number line → AskRefused s l before number line
  pub sees : (s : State) → StandsIn g table s → (n : ℕ) → said ≡ read n → PadSeen s l table after

-- ---- committing

-- Why a standing analysis refuses a commit.
abbrev pub CommitRefused : State → ℕ → ℕ → ℕ → ℕ → Type 0
CommitRefused s l n number line =
    (line ≡ 0) × (((number ≡ No.unpaddable) × (unpaddable s l ≡ true)) ⊎ ((number ≡ No.ticket_stale) × (stale s n ≡ true)))

pub record CommitPromised (g : O.Given) (before : List ℕ) (l n : ℕ) (after : List ℕ) (said : Read ℕ) : Type 0 where
  pub answers : said ≡ placed_of (comes g (table_short before) before (commit l n)) l
  pub leaves : after ≡ table_after (comes g (table_short before) before (commit l n)) l before
  pub untouched : (number line : ℕ) → said ≡ refused number line → after ≡ before
  pub few : (k : ℕ) → said ≡ read k → k ≤ Size.pads
  -- "makes exactly those numbers stand": the CO and SO that an ask answers with before it.
  pub as_asked : (k : ℕ) → said ≡ read k → (answer : List ℕ) → answer_short answer ≡ false
      → answer_after (comes g (table_short before || answer_short answer) before (ask l)) l answer
      ≡ observed_words (drop Size.standing_numbers after) ++ drop Size.observed answer
  pub stands : (s : State) → StandsIn g before s → (said ≡ committed s l n) × StandsIn g after (step s (commit l n))
  pub refuses : (s : State) → StandsIn g before s → (number line : ℕ) → said ≡ refused number line → CommitRefused s l n number line
  pub more : (s : State) → StandsIn g before s → (k : ℕ) → said ≡ read k → OnePadMore s l
  pub means : (s : State) → StandsIn g after s → Meant s after
