-- The pins of the fields that were passed are gathered.
use Rattle.common_laws.proofs.Base.{◌+◌, ◌-◌, ◌≤◌, length}
use Rattle.netlist_text.proofs.Forms.{Passed}
use Rattle.netlist_text.proofs.statements.pins_from.Given as goal

abbrev pub invariant-loop-at : goal.invariant-loop-at
invariant-loop-at l =
    record {
      few : l.count ≤ l.at;
      passed : Passed l.line l.from l.at (record { pins = l.pins; count = l.count; bad = l.bad });
    }

abbrev pub decreases-loop-at : goal.decreases-loop-at
decreases-loop-at l = length l.line + 1 - l.at
