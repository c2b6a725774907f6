-- All gates but the one that drives the pad's line are idle.
use Rattle.common_laws.proofs.Base.{refl, arith}
use Rattle.sweep_runs.proofs.FourRuns.{room}
use Rattle.sweep_reruns.proofs.Trial.{line-range, line-driven, trial-fits, trial-ran}
use Rattle.sweep_reruns.proofs.try_pad.Goals as goal

pub count-gates-requires : goal.count-gates-requires
count-gates-requires c = omega (arith, room c.requires.half.holds)

pub observing_place-place-requires : goal.observing_place-place-requires
observing_place-place-requires c = (line-range c.requires refl).0

pub bounds-numbers-place : goal.bounds-numbers-place
bounds-numbers-place c = omega (arith, line-range c.requires refl)

pub wake_driver-requires : goal.wake_driver-requires
wake_driver-requires c = record {
  netlist = c.args.circuit.now.netlist.now;
  driven = line-driven c.requires refl c.count-gates.ensures c.args.circuit.now.linked;
  inside = (line-range c.requires refl).1;
}

pub run-requires : goal.run-requires
run-requires c =
    trial-fits c.requires refl c.count-gates.ensures c.observing_place-place.ensures refl
    (c.wake_driver.ensures c.args.circuit.now.netlist.now (line-driven c.requires refl c.count-gates.ensures c.args.circuit.now.linked))

pub returns : goal.returns
returns c cells ss h = trial-ran h c.args.numbers.now c.args.line c.observing_place-place.ensures c.run.ensures
