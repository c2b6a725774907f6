-- `read_once` goes on while no line has a mark.
use Rattle.common_laws.proofs.Base.{◌≡◌, ◌-◌, ◌≤◌, length}
use Rattle.sizes.specs.Sizes as Size
use Rattle.netlist_table.specs.Gates.{each_of, gate_at}
use Rattle.chip_loops.specs.Marks.{once_each, pins_of, read_once}
use Rattle.chip_loops.proofs.read_once.Given as goal

abbrev pub invariant-loop-gate : goal.invariant-loop-gate
invariant-loop-gate l = record {
  few : l.gate-end ≤ Size.gates;
  size : length l.marks ≡ Size.line_places;
  left : once_each l.marks (pins_of (each_of (gate_at l.netlist) (l.gate-end - l.gate) l.gate)) ≡ read_once l.netlist;
}
