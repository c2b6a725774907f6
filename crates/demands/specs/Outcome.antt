-- What an analysis comes to, and what it leaves in what it was lent. Document 01, "Where a text stops", "Report" and
-- "Callers". A caller gives the library as a text, and the netlist as a text or as a list of records.
use Rattle.std.specs.Prelude.{Bool, ◌||◌, List, [], ◌∷◌, ◌++◌, ℕ, ltb, length, drop, replicate}
use Rattle.sizes.specs.Sizes as Size
use Rattle.reading.specs.Choice.{pick}
use Rattle.reading.specs.Numbers as No
use Rattle.reading.specs.Refusal.{Read, refused, read, ◌>>=◌, ◌>>◌, weigh}
use Rattle.library_table.specs.Cells.{Cell}
use Rattle.library_table.specs.Library.{library}
use Rattle.library_table.specs.Layout.{library_words}
use Rattle.netlist_table.specs.declared.Rules.{Rules}
use Rattle.netlist_table.specs.declared.Rules.TheVariants.{New}
use Rattle.netlist_table.specs.Netlist.{Statement, mentioned, high_price, some_range, netlist}
use Rattle.netlist_table.specs.Layout.{netlist_words}
use Rattle.calculation.specs.Calculation.{Analysed, analysed_at, analysed}
use Rattle.report_text.specs.Report.{report_bytes, high_line}
use Rattle.demands.specs.declared.Summary.{Summary}

-- What a caller lends beside the texts: three tables and a report buffer.
pub record Lent : Type 0 where
  pub library : List ℕ
  pub netlist : List ℕ
  pub numbers : List ℕ
  pub report : List ℕ

-- ---- entry (line 0)

-- "1 a lent table below its published size"
unfoldable pub table_short : Lent → Bool
table_short m =
    ltb (length m.library) Size.library
    || (ltb (length m.netlist) Size.netlist || ltb (length m.numbers) Size.numbers)

-- "2 a text above 65,535 bytes"
unfoldable pub text_long : List ℕ → Bool
text_long t = ltb Size.text_bytes (length t)

-- What a caller gives to be read: the library text, the statements that the netlist comes to once the cells are known, and
-- whether a text is too long.
pub record Given : Type 0 where
  pub library : List ℕ
  pub statements : List Cell → Read (List Statement)
  pub long : Bool

-- Two texts, the netlist read by the rules that are named.
unfoldable pub given_by : Rules → List ℕ → List ℕ → Given
given_by rules lib net =
    record { library = lib; statements = λ cells. netlist rules cells net; long = text_long lib || text_long net }

-- Two texts by the rules in force.
abbrev pub given_texts : List ℕ → List ℕ → Given
given_texts lib net = given_by New lib net

-- The two checks of the entry, at line 0.
unfoldable pub entry : Given → Lent → Read (Unit {0})
entry g m = weigh 0 ((No.table_short, table_short m) ∷ (No.text_long, g.long) ∷ [])

-- The same by the lengths of the two texts and the three tables.
unfoldable pub entry_by : ℕ → ℕ → ℕ → ℕ → ℕ → Read (Unit {0})
entry_by lib net library netlist numbers =
    weigh 0
    ((No.table_short, ltb library Size.library || (ltb netlist Size.netlist || ltb numbers Size.numbers))
    ∷ (No.text_long, ltb Size.text_bytes lib || ltb Size.text_bytes net)
    ∷ [])

-- ---- the library and the netlist

-- What was read.
pub record Pair : Type 0 where
  pub cells : List Cell
  pub statements : List Statement

abbrev pub pair_of : List Cell → List Statement → Pair
pair_of cells ss = record { cells = cells; statements = ss }

-- "The library is read first, then the netlist".
unfoldable pub read_pair : Given → Read Pair
read_pair g = do
  cells ← library g.library
  ss ← g.statements cells
  read (pair_of cells ss)

-- ---- the analysis of an accepted library and netlist

-- What was read, and what was made of it.
pub record Accepted : Type 0 where
  pub cells : List Cell
  pub statements : List Statement
  pub analysis : Analysed
  pub report : List ℕ

unfoldable pub report_of : List Statement → Analysed → List ℕ
report_of ss a = report_bytes (λ l. mentioned l ss) a.numbers a.counts

-- "With such a line present the report is printed twice, all inputs at LOW and all at HIGH, the second after a line `high`."
-- (02, K10)
unfoldable pub second : List Cell → List Statement → List ℕ
second cells ss = pick (some_range ss) (high_line ++ report_of ss (analysed_at (high_price ss) cells ss)) []

unfoldable pub reports : List Cell → List Statement → List ℕ
reports cells ss = report_of ss (analysed cells ss) ++ second cells ss

-- "17 report longer than its buffer", which has room for `space` bytes; "refusal 17 counts both reports".
unfoldable pub conclude : List Cell → List Statement → ℕ → Read Accepted
conclude cells ss space =
    let a = analysed cells ss in
    let bs = reports cells ss in
    weigh 0 ((No.report_long, ltb space (length bs)) ∷ [])
    >> read (record { cells = cells; statements = ss; analysis = a; report = bs })

-- What is given, behind the entry.
unfoldable pub reading : Given → ℕ → Read Accepted
reading g space = do
  p ← read_pair g
  conclude p.cells p.statements space

-- Entry first, then what is given.
unfoldable pub outcome : Given → Lent → Read Accepted
outcome g m = entry g m >> reading g (length m.report)

-- ---- what the call answers

-- An accepted analysis by its report's length and its four sweep counts.
unfoldable pub summary : Accepted → Summary
summary a = record { length = length a.report; counts = a.analysis.counts }

unfoldable pub answer : Read Accepted → Read Summary
answer (refused number line) = refused number line
answer (read a) = read (summary a)

-- ---- what the call leaves

unfoldable pub zeroed : Lent → Lent
zeroed m =
    record {
      library = replicate (length m.library) 0;
      netlist = replicate (length m.netlist) 0;
      numbers = replicate (length m.numbers) 0;
      report = replicate (length m.report) 0;
    }

-- "Entries past a table's published size keep their values on acceptance. Report bytes past its end keep their values."
unfoldable pub filled : Accepted → Lent → Lent
filled a m =
    record {
      library = library_words a.cells ++ drop Size.library m.library;
      netlist = netlist_words a.statements ++ drop Size.netlist m.netlist;
      numbers = a.analysis.numbers ++ drop Size.numbers m.numbers;
      report = a.report ++ drop (length a.report) m.report;
    }

-- "Entry refusals leave lent memory untouched; later ones leave every table and the report buffer zero."
unfoldable pub left_later : Read Accepted → Lent → Lent
left_later (refused number line) m = zeroed m
left_later (read a) m = filled a m

unfoldable pub left_from : Read (Unit {0}) → Read Accepted → Lent → Lent
left_from (refused number line) o m = m
left_from (read u) o m = left_later o m

unfoldable pub left : Given → Lent → Lent
left g m = left_from (entry g m) (reading g (length m.report)) m
