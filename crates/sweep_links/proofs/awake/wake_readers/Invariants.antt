-- The walk along the chain of the line.
use Rattle.common_laws.proofs.Base.{List, ℕ, ◌*◌, ◌≤◌}
use Rattle.sizes.specs.Sizes as Size
use Rattle.sweep_links.specs.Lines.{Chained}
use Rattle.sweep_links.proofs.AwakeLines.{Walked}
use Rattle.sweep_links.proofs.awake.wake_readers.Given as goal

abbrev pub invariant-loop-pin : goal.invariant-loop-pin
invariant-loop-pin l = record {
  inside : l.pin ≤ Size.gates * Size.pins;
  walked : (netlist : List ℕ) (gates : ℕ) → Chained netlist gates l.links → Walked netlist gates l.line l.pin l.fn.awake l.awake;
}

abbrev pub decreases-loop-pin : goal.decreases-loop-pin
decreases-loop-pin l = l.pin
