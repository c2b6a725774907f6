-- The lines of the pins passed are put back.
use Rattle.trial_back.specs.Back.{PinsBack}
use Rattle.trial_back.proofs.put_pins.Given as goal

abbrev pub invariant-loop-i : goal.invariant-loop-i
invariant-loop-i l = PinsBack l.standing l.netlist l.gate l.i l.fn.tried l.fn.stack l.tried l.stack
