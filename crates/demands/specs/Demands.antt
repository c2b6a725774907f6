-- The three demands of the minutes, and what else holds of one call: `g` is what it was given to read, `before` and `after`
-- what it was lent as it was called and as it returned, `said` what it answered. A call's contract is `Promised`. That the
-- call ends, and relies on no earlier check, is what the checker shows of every function that has no `requires`.
use Rattle.std.specs.Prelude.{true, false, List, ◌++◌, ◌≡◌, ℕ, ◌+◌, ◌≤◌, ◌<◌, length, get_or, take, drop}
use Rattle.sizes.specs.Sizes as Size
use Rattle.sizes.specs.Places.{line_place}
use Rattle.reading.specs.Choice.{pick}
use Rattle.reading.specs.Numbers as No
use Rattle.reading.specs.Refusal.{Read, refused, read}
use Rattle.cost.specs.Cost.{never}
use Rattle.library_table.specs.Cells.{Cell}
use Rattle.library_table.specs.Library.{library}
use Rattle.netlist_table.specs.Netlist.{Statement, mentioned, gates_of, some_range, low_price, high_price}
use Rattle.calculation.specs.Nodes.{Kind, Purpose, set, observe, node}
use Rattle.calculation.specs.Calculation.{Analysed, analysed}
use Rattle.calculation.specs.Prices.{Pricing, WithinRanges}
use Rattle.calculation.specs.Between.{AnalysisAt, Between, EachWithin, ExactEach, BetweenEach}
use Rattle.calculation.specs.Settled.{Settled, FewSweeps}
use Rattle.calculation.specs.LinePlans.{Exact}
use Rattle.report_text.specs.Report.{report_bytes, longest_report, longest_reports}
use Rattle.demands.specs.declared.Summary.{Summary}
use Rattle.demands.specs.Outcome.{Given, Lent, entry, outcome, answer, second, reports, left, zeroed}

-- The purposes whose numbers are reported: "lines 1 to 1,000", values 0 and 1.
abbrev pub Reported : Purpose → Type 0
Reported (set l v) = (1 ≤ l) × (l ≤ Size.lines) × (v ≤ 1)
Reported (observe l) = (1 ≤ l) × (l ≤ Size.lines)

-- The analysis that a call leaves and answers: the entries of the numbers table, and the counts.
abbrev pub standing : Lent → Summary → Analysed
standing m s = record { numbers = take Size.numbers m.numbers; counts = s.counts }

-- The report of the entries that stand in the numbers table.
abbrev pub standing_report : List Statement → Lent → Summary → List ℕ
standing_report ss m s = report_bytes (λ l. mentioned l ss) m.numbers s.counts

-- "accepted library and netlist": what is given reads as these cells and statements.
pub record PairRead (g : Given) : Type 0 where
  pub cells : List Cell
  pub statements : List Statement
  pub cells_read : library g.library ≡ read cells
  pub statements_read : g.statements cells ≡ read statements

-- No report, or two with the line between them, are longer.
unfoldable pub longest : List Statement → ℕ
longest ss = pick (some_range ss) longest_reports longest_report

-- What is given reads, and its own report, or both, are longer than the buffer.
abbrev pub TooShort : Given → Lent → Type 0
TooShort g m = (pair : PairRead g) × (length m.report < length (reports pair.cells pair.statements))

-- Document 02, K10: demands 2 and 3 hold at all prices within the ranges, where each number lies between the two printed; both
-- ends of the ranges are such prices.
pub record AtAllPrices (cells : List Cell) (ss : List Statement) : Type 0 where
  pub low : WithinRanges ss (low_price ss)
  pub high : WithinRanges ss (high_price ss)
  pub analyses : (price : Pricing) → WithinRanges ss price → AnalysisAt cells ss price
  pub between : (price : Pricing) → WithinRanges ss price → (p : Purpose) → Reported p → Between cells ss price p
  -- The same where the two values of an input have prices of their own within its range (D186).
  pub each_value : (price : ℕ → ℕ → ℕ) → EachWithin ss price → (p : Purpose) → Reported p → (x : ℕ)
      → ExactEach price cells ss p x → BetweenEach cells ss p x

-- Demands 2 and 3 of a numbers table, whatever call leaves it: what a call has to say of its numbers that analyses and makes no
-- report.
pub record NumbersStand (cells : List Cell) (ss : List Statement) (numbers : List ℕ) : Type 0 where
  -- "the six numbers of each line .. are those of Goldstein's calculation",
  pub calculated : take Size.numbers numbers ≡ (analysed cells ss).numbers
  -- which is the one that follows the rule: "Sweeps stop after the first that changes nothing",
  pub settled : Settled cells ss (analysed cells ss)
  pub settled_once : (a : Analysed) → Settled cells ss a → a ≡ analysed cells ss
  pub few_sweeps : FewSweeps (length (gates_of ss)) (analysed cells ss).counts
  -- and demand 3 holds "for all six numbers of every line".
  pub exact : (k : Kind) (p : Purpose) → Reported p → Exact cells ss k p (get_or numbers (node k p) 0)

-- Entry by entry, of one lent slice: each is as it was; each is 0.
pub record EntriesKept (before after : List ℕ) : Type 0 where
  pub size : length after ≡ length before
  pub entry : (i : ℕ) → i < length before → get_or after i 0 ≡ get_or before i 0

pub record EntriesZero (before after : List ℕ) : Type 0 where
  pub size : length after ≡ length before
  pub entry : (i : ℕ) → i < length before → get_or after i 1 ≡ 0

-- Of all that is lent, by what holds of one slice.
pub record OfEach (P : List ℕ → List ℕ → Type 0) (before after : Lent) : Type 0 where
  pub library : P before.library after.library
  pub netlist : P before.netlist after.netlist
  pub numbers : P before.numbers after.numbers
  pub report : P before.report after.report

module _ (g : Given) (before after : Lent) (said : Read Summary) where
  -- 1. "The analyser, from the first byte read to the last byte of its report, ends on every pair of texts and refuses a bad
  -- one by the number and line given in document 01. It relies on no earlier check. A refusal at entry touches no lent table;
  -- every other refusal leaves them all zero."
  pub record Demand1 : Type 0 where
    pub refuses : said ≡ answer (outcome g before)
    pub at_entry : (number line : ℕ) → entry g before ≡ refused number line → (said ≡ refused number line) × (after ≡ before)
    pub later : (number line : ℕ) → entry g before ≡ read tt → said ≡ refused number line → after ≡ zeroed before
    -- The same by the number alone: "Entry refusals leave lent memory untouched; later ones leave every table and the report
    -- buffer zero."
    pub untouched : (number line : ℕ) → said ≡ refused number line → No.of_entry number ≡ true → after ≡ before
    pub cleared : (number line : ℕ) → said ≡ refused number line → No.of_entry number ≡ false → after ≡ zeroed before
    -- And entry by entry: "touches no lent table", "leaves them all zero".
    pub kept : (number line : ℕ) → said ≡ refused number line → No.of_entry number ≡ true → OfEach EntriesKept before after
    pub all_zero : (number line : ℕ) → said ≡ refused number line → No.of_entry number ≡ false → OfEach EntriesZero before after

  -- Which calls are accepted.
  pub record Acceptance : Type 0 where
    -- Only an accepted library and netlist have a report,
    pub was_read : (s : Summary) → said ≡ read s → PairRead g
    -- and "demand 2 accepts every text that the table doesn't name", where the buffer has room for its report;
    pub accepts : entry g before ≡ read tt → (pair : PairRead g)
        → length (reports pair.cells pair.statements) ≤ length before.report → (s : Summary) × (said ≡ read s)
    -- "17 report longer than its buffer", where "refusal 17 counts both reports" (02, K10).
    pub report_long : (line : ℕ) → said ≡ refused No.report_long line → TooShort g before
    -- So 17 never comes of a buffer with room for the longest; of the 65,536 bytes that `scoap` lends only where there are
    -- ranges.
    pub short_enough : (pair : PairRead g) → length (reports pair.cells pair.statements) ≤ longest pair.statements

  -- 2. "For every accepted library and netlist, loops included, the six numbers of each line and the four sweep counts are
  -- those of Goldstein's calculation as document 01 sets it out, costs up to 999,999,999 exact."
  pub record Calculated (cells : List Cell) (ss : List Statement) (s : Summary) : Type 0 where
    -- By computation,
    pub numbers : take Size.numbers after.numbers ≡ (analysed cells ss).numbers
    pub counts : s.counts ≡ (analysed cells ss).counts
    -- and by the rule, which has no bound: "Sweeps stop after the first that changes nothing; it is counted. CC and SC run
    -- separately. Then CO and SO". No other numbers and counts follow it.
    pub settled : Settled cells ss (standing after s)
    pub settled_once : (a : Analysed) → Settled cells ss a → a ≡ standing after s
    -- "With G gates, CC and SC take at most 2G + 1 sweeps each, CO and SO at most G + 1."
    pub few_sweeps : FewSweeps (length (gates_of ss)) s.counts
    -- "A cost is a whole number from 0 to 999,999,999, "over" (1,000,000,000 in tables) or "never" (1,000,000,001)."
    pub costs : (i : ℕ) → i < Size.numbers → get_or after.numbers i 0 ≤ never
    -- "The numbers table has six costs for each line 1 to 1,000 ..; unmentioned lines hold never."
    pub unmentioned : (l i : ℕ) → 1 ≤ l → l ≤ Size.lines → i < Size.costs → mentioned l ss ≡ false
        → get_or after.numbers (line_place l + i) 0 ≡ never

  abbrev pub Demand2 : Type 0
  Demand2 = (pair : PairRead g) (s : Summary) → said ≡ read s → Calculated pair.cells pair.statements s

  -- 3. "Whatever fan-out and loops an accepted netlist has, nobody sets a line to 0, sets it to 1 or carries it to an output,
  -- by any finite plan that the library allows, for less than the number reported. This holds for all six numbers of every
  -- line, each against every plan for the same line and the same purpose, in the same terms, combinational or sequential. ..":
  -- `Exact` has the rest of it.
  abbrev pub Demand3 : Type 0
  Demand3 =
      (pair : PairRead g) (s : Summary) → said ≡ read s
      → (k : Kind) (p : Purpose) → Reported p → Exact pair.cells pair.statements k p (get_or after.numbers (node k p) 0)

  -- "The numbers reported are the entries that an accepted analysis leaves in the numbers table, for lines 1 to 1,000, and the
  -- costs in its report." The report is that of the entries in the table, so that demand 3 holds of what its bytes say.
  -- Behind it stands, where there are ranges, the line `high` and the report of the numbers and counts at HIGH, of which
  -- `prices` has the demands.
  pub record ReportStands (cells : List Cell) (ss : List Statement) (s : Summary) : Type 0 where
    pub size : s.length ≡ length (standing_report ss after s ++ second cells ss)
    pub bytes : take s.length after.report ≡ standing_report ss after s ++ second cells ss
    pub prices : AtAllPrices cells ss
    -- "Report bytes past its end keep their values."
    pub past : drop s.length after.report ≡ drop s.length before.report
    pub fits : s.length ≤ length before.report
    -- Below the number from which on a C caller has a refusal.
    pub short : s.length ≤ longest ss

  abbrev pub Reporting : Type 0
  Reporting = (pair : PairRead g) (s : Summary) → said ≡ read s → ReportStands pair.cells pair.statements s

  -- What a call promises: by equation its answer, the refusal and its line, and every entry of every lent slice afterwards;
  -- the three demands; which calls are accepted, and what their reports say.
  pub record Promised : Type 0 where
    pub answers : said ≡ answer (outcome g before)
    pub leaves : after ≡ left g before
    pub demand1 : Demand1
    pub demand2 : Demand2
    pub demand3 : Demand3
    pub acceptance : Acceptance
    pub reporting : Reporting
