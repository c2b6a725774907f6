-- The walk, from line to line.
use Rattle.common_laws.proofs.Base.{◌≡◌, length}
use Rattle.sizes.specs.Sizes as Size
use Rattle.trial_back.specs.Back.{Walk}
use Rattle.trial_back.proofs.walk_back.Given as goal

abbrev pub invariant-loop : goal.invariant-loop
invariant-loop l = record {
  long : length l.tried ≡ Size.numbers;
  walk : Walk l.netlist l.links l.standing l.fn.tried l.fn.stack l.tried l.stack;
}
