-- With each turn one visit more is done, and its reader is awake.
use Rattle.cost.specs.Kind.{kind_index}
use Rattle.sweep_groups.specs.Fits.{GatherFits}
use Rattle.sweep_turns.specs.Order.{first_visits}
use Rattle.sweep_turns.specs.Renewed.{Swept}
use Rattle.sweep_turns.specs.Wakes.{ChangesWoken}
use Rattle.sweep_turns.proofs.observe_gate.Given as goal

abbrev pub invariant-loop-i : goal.invariant-loop-i
invariant-loop-i l = record {
  swept : Swept (first_visits 1 (kind_index l.kind) l.circuit.library.now l.circuit.netlist.now l.gate l.i) l.fn.numbers l.numbers l.changed;
  wakes : ChangesWoken 1 (kind_index l.kind) l.circuit.library.now l.circuit.netlist.now l.fn.awake l.fn.numbers l.awake l.numbers;
  gather : GatherFits l.stale 1 (kind_index l.kind) l.lines l.pins l.numbers l.costs;
}
