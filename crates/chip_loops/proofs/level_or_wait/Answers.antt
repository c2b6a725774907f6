-- `level_or_wait` changes the marks by `level_gate` alone.
use Rattle.common_laws.proofs.Base.{arith}
use Rattle.chip_loops.specs.Marks.{Ahead.none}
use Rattle.chip_loops.proofs.Order.{ahead-gate}
use Rattle.chip_loops.proofs.level_or_wait.Goals as goal

pub returns-then-count-gate : goal.returns-then-count-gate
returns-then-count-gate c = none

pub returns-then-level_gate : goal.returns-then-level_gate
returns-then-level_gate c = ahead-gate c.args.netlist.now c.args.gate (omega arith) c.level_gate.ensures.1

pub returns-in-Some : goal.returns-in-Some
returns-in-Some c = ahead-gate c.args.netlist.now c.args.gate (omega arith) c.level_gate.ensures.1

pub returns-in_default : goal.returns-in_default
returns-in_default c = ahead-gate c.args.netlist.now c.args.gate (omega arith) c.level_gate.ensures.1
