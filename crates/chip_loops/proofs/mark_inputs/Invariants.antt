-- `mark_inputs` has marked the inputs below the line that it is at.
use Rattle.common_laws.proofs.Base.{◌≡◌, ◌-◌}
use Rattle.sizes.specs.Sizes as Size
use Rattle.netlist_table.specs.Netlist.{lines_where}
use Rattle.netlist_table.specs.Lines.{input_at, inputs_held}
use Rattle.chip_loops.specs.Marks.{mark_each}
use Rattle.chip_loops.proofs.mark_inputs.Given as goal

abbrev pub invariant-loop-l : goal.invariant-loop-l
invariant-loop-l l =
    mark_each l.marks (lines_where (input_at l.netlist) (Size.line_places - l.l) l.l) ≡ mark_each l.initial.marks (inputs_held l.netlist)
