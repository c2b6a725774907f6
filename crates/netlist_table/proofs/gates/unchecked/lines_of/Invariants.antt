-- `lines_of` copies one line more of the gate with each turn.
use Rattle.common_laws.proofs.Base.{◌++◌, ◌≡◌, ◌+◌, take, drop}
use Rattle.sizes.specs.Places.{gate_place}
use Rattle.netlist_table.proofs.gates.unchecked.lines_of.Given as goal

abbrev pub invariant-loop-i : goal.invariant-loop-i
invariant-loop-i l = l.lines ≡ take l.i (drop (gate_place l.gate + 1) l.table) ++ drop l.i l.initial.lines
