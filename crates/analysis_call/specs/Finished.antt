-- What the end of a call does: the numbers and the report of what was read, 17, and clearing.
use Rattle.std.specs.Prelude.{List, ◌++◌, ◌≡◌, ℕ, length, drop, replicate, Ok, Err}
use Rattle.sizes.specs.Sizes as Size
use Rattle.reading.specs.Numbers as No
use Rattle.reading.specs.Refusal.{Read, refused, read}
use Rattle.library_table.specs.Cells.{Cell}
use Rattle.netlist_table.specs.Netlist.{Statement}
use Rattle.calculation.specs.Calculation.{analysed}
use Rattle.calculation.specs.Stored.{Holds, Ready}
use Rattle.writer.specs.Buffer.{text_within, left_by}
use Rattle.demands.specs.declared.Summary.{Summary}
use Rattle.demands.specs.Outcome as O
use Rattle.analysis_texts.specs.Progress.{Progress}
use Rattle.analysis_texts.specs.declared.Stop.TheVariants.{AtEntry, Later}

-- The calculation and the report, or both reports, of accepted cells and statements.
pub record Concluded (cells : List Cell) (ss : List Statement) (numbers_before report_before numbers_after report_after : List ℕ)
    (said : Read Summary) : Type 0 where
  pub answers : said ≡ O.answer (O.conclude cells ss (length report_before))
  pub numbers : numbers_after ≡ (analysed cells ss).numbers ++ drop Size.numbers numbers_before
  pub report : report_after
      ≡ left_by (text_within No.report_long (length report_before) (O.reports cells ss)) report_before

-- What the calculation and the report leave in tables that hold what was read.
unfoldable pub made : Read O.Accepted → O.Lent → O.Lent
made (refused number line) m = O.zeroed m
made (read a) m =
    record {
      library = m.library;
      netlist = m.netlist;
      numbers = a.analysis.numbers ++ drop Size.numbers m.numbers;
      report = a.report ++ drop (length a.report) m.report;
    }

pub record Made (o : Read O.Accepted) (before after : O.Lent) (said : Read Summary) : Type 0 where
  pub answers : said ≡ O.answer o
  pub leaves : after ≡ made o before

-- What the second report asks: the tables hold accepted cells and statements.
pub record Holding (library netlist : List ℕ) : Type 0 where
  pub cells : List Cell
  pub statements : List Statement
  pub holds : Holds library netlist cells statements

-- What the end asks: where nothing is refused, the tables hold what was read.
abbrev pub ReadyIfUnrefused : Progress → List ℕ → List ℕ → List ℕ → Type 0
ReadyIfUnrefused s library netlist numbers = s ≡ Ok tt → Ready library netlist numbers

-- The end of a call: a refusal at entry leaves what was lent, a later one clears it; else the numbers are made.
unfoldable pub Finished : Progress → O.Lent → O.Lent → Read Summary → Type 0
Finished (Err (AtEntry r)) before after said = (said ≡ refused r.number r.line) × (after ≡ before)
Finished (Err (Later r)) before after said = (said ≡ refused r.number r.line) × (after ≡ O.zeroed before)
Finished (Ok u) before after said =
    (cells : List Cell) (ss : List Statement) → Holds before.library before.netlist cells ss
    → Made (O.conclude cells ss (length before.report)) before after said

-- The end of a call whose tables are its own, and are not spoken of after a refusal.
unfoldable pub Told : Progress → (library netlist numbers report numbers' report' : List ℕ) → Read Summary → Type 0
Told (Err (AtEntry r)) library netlist numbers report numbers' report' said = (said ≡ refused r.number r.line) × (report' ≡ report)
Told (Err (Later r)) library netlist numbers report numbers' report' said =
    (said ≡ refused r.number r.line) × (report' ≡ replicate (length report) 0)
Told (Ok u) library netlist numbers report numbers' report' said =
    (cells : List Cell) (ss : List Statement) → Holds library netlist cells ss
    → Concluded cells ss numbers report numbers' report' said
