-- `level_ahead` is ahead by the gates below the one that it is at.
use Rattle.netlist_table.specs.Gates.{gates_held}
use Rattle.chip_loops.specs.Marks.{Ahead}
use Rattle.chip_loops.proofs.level_ahead.Given as goal

abbrev pub invariant-loop-gate : goal.invariant-loop-gate
invariant-loop-gate l = Ahead (gates_held l.netlist) l.initial.marks l.marks
