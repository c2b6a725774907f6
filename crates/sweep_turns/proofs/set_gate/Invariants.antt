-- With each turn one visit more is done, and whoever is woken behind them is woken for all.
use Rattle.common_laws.proofs.Base.{List, ℕ, get_or}
use Rattle.cost.specs.Kind.{kind_index}
use Rattle.netlist_table.specs.Gates.{gate_lines}
use Rattle.sweep_groups.specs.Fits.{GatherFits}
use Rattle.sweep_turns.specs.Order.{first_visits}
use Rattle.sweep_turns.specs.Renewed.{Swept}
use Rattle.sweep_turns.specs.Wakes.{LineWoken, ChangesWoken}
use Rattle.sweep_turns.proofs.set_gate.Given as goal

abbrev pub invariant-loop-i : goal.invariant-loop-i
invariant-loop-i l = record {
  swept : Swept (first_visits 0 (kind_index l.kind) l.circuit.library.now l.circuit.netlist.now l.gate l.i) l.fn.numbers l.numbers l.changed;
  wakes : (after : List ℕ) → LineWoken 0 l.circuit.netlist.now (get_or l.circuit.netlist.now 0 0) (get_or (gate_lines l.circuit.netlist.now l.gate) 0 0) l.changed l.awake after
      → ChangesWoken 0 (kind_index l.kind) l.circuit.library.now l.circuit.netlist.now l.awake l.fn.numbers after l.numbers;
  gather : GatherFits l.stale 0 (kind_index l.kind) l.lines l.pins l.numbers l.costs;
}
