-- The drivers among the gates passed.
use Rattle.common_laws.proofs.Base.{◌+◌}
use Rattle.sizes.specs.Sizes as Size
use Rattle.sweep_links.specs.Lines.{Highests, driven_line, Kept}
use Rattle.sweep_links.proofs.note_drivers.Given as goal

abbrev pub invariant-loop-gate : goal.invariant-loop-gate
invariant-loop-gate l = record {
  last : Highests (driven_line l.netlist) (l.gate + 1) Size.drivers_at l.links;
  kept : Kept Size.drivers_at Size.tied_at l.fn.links l.links;
}
