-- The gate that is noted for the line is woken.
use Rattle.common_laws.proofs.Base.{◌≡◌, refl, ap, ◌∙◌, ◌+◌, ◌-◌, arith, get_or}
use Rattle.sizes.specs.Sizes as Size
use Rattle.sweep_links.specs.Turns.{bit_at}
use Rattle.sweep_links.proofs.Turns.{wakes_only}
use Rattle.sweep_links.proofs.Lines.{driver-noted}
use Rattle.sweep_links.proofs.awake.wake_driver.Goals as goal

pub returns-then-gate-ne0 : goal.returns-then-gate-ne0
returns-then-gate-ne0 c netlist driven = record {
  slept = wakes_only c.wake.ensures;
  driver = λ g h e last.
      let turn : c.args.gates - 1 - g ≡ c.args.gates - get_or c.args.links.now (Size.drivers_at + c.args.line) 0 =
      omega (arith, driver-noted driven c.args.line g c.requires.inside h e last) in
      ap (bit_at c.wake.new.awake) turn ∙ c.wake.ensures.becomes;
  size = c.wake.ensures.size;
}

pub returns-else-gate-ne0 : goal.returns-else-gate-ne0
returns-else-gate-ne0 c netlist driven = record {
  slept = λ t h. h;
  driver = λ g h e last. absurd (omega (arith, driver-noted driven c.args.line g c.requires.inside h e last));
  size = refl;
}
