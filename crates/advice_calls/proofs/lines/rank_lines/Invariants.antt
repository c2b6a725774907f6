-- `rank_lines` has the ranks of the lines from one on.
use Rattle.common_laws.proofs.Base.{List, ◌≡◌, ℕ, ◌-◌, length}
use Rattle.library_table.specs.Cells.{Cell}
use Rattle.netlist_table.specs.Netlist.{Statement}
use Rattle.calculation.specs.Advice.{allowed, line_rank}
use Rattle.advice_calls.specs.Parts.{Barred, Stands}
use Rattle.advice_calls.proofs.LinesLaws.{above}
use Rattle.advice_calls.proofs.Ranks.{four, RanksLaid}
use Rattle.advice_calls.proofs.lines.rank_lines.Given as goal

abbrev pub invariant-loop-l : goal.invariant-loop-l
invariant-loop-l l = record {
  laid : l.tried ≡ l.numbers;
  ranked : (cells : List Cell) (ss : List Statement) (forbidden : List ℕ) → Stands l.circuit.library.now l.circuit.netlist.now l.numbers cells ss → Barred forbidden l.barred
      → (l.count ≡ length (above (allowed ss forbidden) (l.l - 1)))
      × RanksLaid (line_rank cells ss forbidden) (four cells ss forbidden) l.fn.table (l.l - 1) l.table;
}
