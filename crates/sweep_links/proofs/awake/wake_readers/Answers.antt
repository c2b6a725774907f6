-- The walk goes down, from pin to pin.
use Rattle.common_laws.proofs.Base.{arith}
use Rattle.sweep_links.proofs.AwakeLines.{walk-starts, walk-goes, walk_ends}
use Rattle.sweep_links.proofs.awake.wake_readers.Goals as goal

pub loop-pin-init : goal.loop-pin-init
loop-pin-init c = record {
  inside = omega (arith, (c.requires.chained.firsts c.args.line c.requires.inside).below, c.requires.chained.count);
  walked = λ netlist gates chained. walk-starts chained c.args.line c.requires.inside c.args.awake.now;
}

pub wake-requires : goal.wake-requires
wake-requires c =
    let walked = c.loop-pin.invariant.walked c.requires.netlist c.requires.gates c.requires.chained in
    omega arith

pub loop-pin-smaller : goal.loop-pin-smaller
loop-pin-smaller c =
    let walked = c.loop-pin.invariant.walked c.requires.netlist c.requires.gates c.requires.chained in
    omega (arith, (c.requires.chained.nexts c.loop-pin.pin (omega arith) (omega (arith, walked.below))).below)

pub loop-pin-preserved : goal.loop-pin-preserved
loop-pin-preserved c = record {
  inside = omega (arith, loop-pin-smaller c);
  walked = λ netlist gates chained.
      walk-goes chained c.args.line c.loop-pin.pin (omega arith) (c.loop-pin.invariant.walked netlist gates chained) c.wake.ensures;
}

pub returns : goal.returns
returns c netlist gates chained = walk_ends (rw c.loop-pin-test.false at (c.loop-pin.invariant.walked netlist gates chained))
