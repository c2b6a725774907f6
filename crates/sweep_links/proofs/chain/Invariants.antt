-- The chains of the gates passed.
use Rattle.sizes.specs.Sizes as Size
use Rattle.sweep_links.specs.Lines.{Chained, Kept}
use Rattle.sweep_links.proofs.chain.Given as goal

abbrev pub invariant-loop-gate : goal.invariant-loop-gate
invariant-loop-gate l = record {
  chained : Chained l.netlist l.gate l.links;
  kept : Kept Size.readers_at Size.drivers_at l.fn.links l.links;
}
