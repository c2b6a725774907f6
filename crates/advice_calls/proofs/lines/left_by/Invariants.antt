-- `left_by` has added the costs of the mentioned lines from one on.
use Rattle.common_laws.proofs.Base.{map, ◌≡◌, ◌-◌}
use Rattle.netlist_table.specs.Lines.{mention_at}
use Rattle.advice_calls.specs.Parts.{cost_at, left_of}
use Rattle.advice_calls.proofs.LinesLaws.{above}
use Rattle.advice_calls.proofs.lines.left_by.Given as goal

abbrev pub invariant-loop-l : goal.invariant-loop-l
invariant-loop-l l = l.left ≡ left_of (map (cost_at l.numbers) (above (mention_at l.netlist) (l.l - 1)))
