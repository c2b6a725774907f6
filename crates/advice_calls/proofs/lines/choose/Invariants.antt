-- `choose` has the best of the lines from one on.
use Rattle.common_laws.proofs.Base.{Bool, List, ◌≡◌, ℕ, ◌-◌}
use Rattle.library_table.specs.Cells.{Cell}
use Rattle.netlist_table.specs.Netlist.{Statement}
use Rattle.calculation.specs.Advice.{allowed, leaves, largest, best}
use Rattle.advice_calls.specs.Parts.{Barred, Stands}
use Rattle.advice_calls.proofs.LinesLaws.{above}
use Rattle.advice_calls.proofs.lines.choose.Given as goal

abbrev pub invariant-loop-l : goal.invariant-loop-l
invariant-loop-l l = record {
  laid : l.tried ≡ l.numbers;
  found : (cells : List Cell) (ss : List Statement) (forbidden : List ℕ) → Stands l.circuit.library.now l.circuit.netlist.now l.numbers cells ss → Barred forbidden l.barred
      → l.found ≡ best (λ m. largest (leaves cells ss m)) (above (allowed ss forbidden) (l.l - 1));
}
