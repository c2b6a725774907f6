-- The gates passed are noted.
use Rattle.sizes.specs.Sizes as Size
use Rattle.sweep_links.specs.Lines.{Tied, Kept}
use Rattle.sweep_links.proofs.note_tied.Given as goal

abbrev pub invariant-loop-gate : goal.invariant-loop-gate
invariant-loop-gate l = record {
  tied : Tied l.library l.netlist l.gate l.links;
  kept : Kept Size.tied_at Size.links l.fn.links l.links;
}
