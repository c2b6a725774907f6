-- What the three tables hold: accepted cells and statements, and the numbers of their analysis. Whoever reads, calculates or
-- tells from tables says it by these records.
use Rattle.std.specs.Prelude.{List, ◌++◌, ◌≡◌, ℕ, ◌≤◌, length, drop}
use Rattle.sizes.specs.Sizes as Size
use Rattle.library_table.specs.Cells.{Cell}
use Rattle.library_table.specs.Layout.{library_words}
use Rattle.netlist_table.specs.Netlist.{Statement}
use Rattle.netlist_table.specs.Layout.{netlist_words}
use Rattle.calculation.specs.Acceptance.{BothSound}
use Rattle.calculation.specs.Prices.{Pricing}
use Rattle.calculation.specs.Calculation.{Analysed, analysed_at, analysed}
use Rattle.calculation.specs.declared.Counts.{Counts}

-- The library and the netlist table hold accepted cells and statements, whatever stands past their published sizes.
pub record Holds (library netlist : List ℕ) (cells : List Cell) (ss : List Statement) : Type 0 where
  pub behind : List ℕ
  pub past : List ℕ
  pub cells_stand : library ≡ library_words cells ++ behind
  pub statements_stand : netlist ≡ netlist_words ss ++ past
  pub sound : BothSound cells ss

-- ---- before the calculation

-- They hold some, and there is room for the numbers.
pub record Ready (library netlist numbers : List ℕ) : Type 0 where
  pub cells : List Cell
  pub statements : List Statement
  pub holds : Holds library netlist cells statements
  pub room : Size.numbers ≤ length numbers

-- ---- what the calculation does

-- Counts and numbers together.
abbrev pub whole : Counts → List ℕ → Analysed
whole counts xs = record { numbers = xs; counts = counts }

-- The numbers and the four sweep counts are those of Goldstein's calculation at these prices; "Entries past a table's published
-- size keep their values on acceptance."
pub record Calculated (price : Pricing) (cells : List Cell) (ss : List Statement) (before after : List ℕ) (said : Counts) : Type 0 where
  pub numbers : after ≡ (analysed_at price cells ss).numbers ++ drop Size.numbers before
  pub counts : said ≡ (analysed_at price cells ss).counts

-- ---- behind the calculation

-- The three tables hold an accepted analysis of these cells and statements.
pub record HoldsAnalysis (library netlist numbers : List ℕ) (cells : List Cell) (ss : List Statement) : Type 0 where
  pub holds : Holds library netlist cells ss
  pub rest : List ℕ
  pub stand : numbers ≡ (analysed cells ss).numbers ++ rest

pub record SomeAnalysis (library netlist numbers : List ℕ) : Type 0 where
  pub cells : List Cell
  pub statements : List Statement
  pub are : HoldsAnalysis library netlist numbers cells statements
