-- `note_pins` has marked the lines of the pins below the one that it is at.
use Rattle.common_laws.proofs.Base.{◌≡◌, ◌-◌}
use Rattle.sizes.specs.Sizes as Size
use Rattle.netlist_table.specs.Gates.{gate_line, each_of, present, pin_lines}
use Rattle.chip_loops.specs.Marks.{once_each, mark_each}
use Rattle.chip_loops.proofs.note_pins.Given as goal

abbrev pub invariant-loop-pin : goal.invariant-loop-pin
invariant-loop-pin l =
    let left = present (each_of (gate_line l.netlist l.gate) (Size.gate_lines - l.pin) l.pin) in
    (once_each l.marks left ≡ once_each l.initial.marks (pin_lines l.netlist l.gate))
    × (mark_each l.marks left ≡ mark_each l.initial.marks (pin_lines l.netlist l.gate))
