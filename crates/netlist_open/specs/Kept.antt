-- What the copy keeps. Document 02, K5: "Where the copy keeps to document 01's sizes, its six numbers equal those the old rules
-- gave."
use Rattle.std.specs.Prelude.{false, List, ◌≡◌, ℕ}
use Rattle.reading.specs.Refusal.{read}
use Rattle.library_table.specs.Cells.{Cell}
use Rattle.netlist_table.specs.declared.Rules.TheVariants.{Old, New}
use Rattle.netlist_table.specs.Netlist.{Statement, mentioned, some_range, netlist}
use Rattle.calculation.specs.Calculation.{analysed}
use Rattle.netlist_open.specs.Copy.{copy_of, declared_too}

-- Of a netlist that the old rules accept: the new rules accept the copy, so that no line is missing; the six numbers of every
-- line and the four counts are the same; and so are the lines that are mentioned, and with them the report.
pub record Kept (cells : List Cell) (net : List ℕ) (ss : List Statement) : Type 0 where
  pub accepts : netlist New cells (copy_of net ss) ≡ read (declared_too ss)
  pub numbers : analysed cells (declared_too ss) ≡ analysed cells ss
  -- The old rules know no range, so that the copy has one report.
  pub unranged : some_range (declared_too ss) ≡ false
  pub mentions : (l : ℕ) → mentioned l (declared_too ss) ≡ mentioned l ss

abbrev pub CopyKeeps : Type 0
CopyKeeps = (cells : List Cell) (net : List ℕ) (ss : List Statement) → netlist Old cells net ≡ read ss → Kept cells net ss
