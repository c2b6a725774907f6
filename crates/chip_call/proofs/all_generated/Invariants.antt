-- `all_generated` goes on while each cell is generated.
use Rattle.common_laws.proofs.Base.{◌≡◌, ◌-◌, ◌≤◌}
use Rattle.sizes.specs.Sizes as Size
use Rattle.netlist_table.specs.Gates.{each_of, gate_at, gates_held}
use Rattle.chip_call.specs.Qualified.{all_generated, Known}
use Rattle.chip_call.proofs.all_generated.Given as goal

abbrev pub invariant-loop-gate : goal.invariant-loop-gate
invariant-loop-gate l = record {
  few : l.gate-end ≤ Size.gates;
  known : Known l.library l.known;
  left : all_generated l.library (each_of (gate_at l.netlist) (l.gate-end - l.gate) l.gate) ≡ all_generated l.library (gates_held l.netlist);
}
