-- The chains of the pins passed.
use Rattle.common_laws.proofs.Base.{ℕ, ◌+◌, ◌*◌, ◌<◌, get_or}
use Rattle.sizes.specs.Sizes as Size
use Rattle.sweep_links.specs.Lines.{Highest, Highests, pin_line, Kept}
use Rattle.sweep_links.proofs.chain_gate.Given as goal

abbrev pub invariant-loop-i : goal.invariant-loop-i
invariant-loop-i l = record {
  firsts : Highests (pin_line l.netlist) (l.gate * Size.pins + l.i) Size.readers_at l.links;
  nexts : (p : ℕ) → 0 < p → p < l.gate * Size.pins + l.i → Highest (pin_line l.netlist) (pin_line l.netlist p) p (get_or l.links (Size.next_at + p) 0);
  kept : Kept Size.readers_at Size.drivers_at l.fn.links l.links;
}
