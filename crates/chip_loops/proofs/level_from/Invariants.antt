-- `level_from` goes on from gate to gate while the count lasts.
use Rattle.netlist_table.specs.Gates.{gates_held}
use Rattle.chip_loops.specs.Marks.{Ahead}
use Rattle.chip_loops.proofs.level_from.Given as goal

abbrev pub invariant-loop : goal.invariant-loop
invariant-loop l = Ahead (gates_held l.netlist) l.initial.marks l.marks
