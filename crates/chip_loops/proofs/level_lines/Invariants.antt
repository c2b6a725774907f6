-- `level_lines` has so many passes left, or the last one levelled nothing.
use Rattle.common_laws.proofs.Base.{◌≡◌, ◌-◌}
use Rattle.netlist_table.specs.Gates.{gates_held}
use Rattle.chip_loops.specs.Marks.{passes, most_passes}
use Rattle.chip_loops.proofs.level_lines.Given as goal

abbrev pub invariant-loop : goal.invariant-loop
invariant-loop l = passes (most_passes - l.counter) (gates_held l.netlist) l.marks ≡ passes most_passes (gates_held l.netlist) l.initial.marks
