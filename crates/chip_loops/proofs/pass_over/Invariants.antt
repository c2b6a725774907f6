-- `pass_over` has passed over the gates below the one that it is at.
use Rattle.common_laws.proofs.Base.{false, ◌≡◌, ◌-◌, ◌≤◌}
use Rattle.sizes.specs.Sizes as Size
use Rattle.netlist_table.specs.Gates.{each_of, gate_at, gates_held}
use Rattle.chip_loops.specs.Marks.{pass}
use Rattle.chip_loops.proofs.pass_over.Given as goal

abbrev pub invariant-loop-gate : goal.invariant-loop-gate
invariant-loop-gate l = record {
  few : l.gate-end ≤ Size.gates;
  left : pass (each_of (gate_at l.netlist) (l.gate-end - l.gate) l.gate) l.marks ≡ pass (gates_held l.netlist) l.initial.marks;
  same : l.changed ≡ false → l.marks ≡ l.initial.marks;
}
