-- The lines that were passed are stored.
use Rattle.common_laws.proofs.Base.{◌≡◌, take, sets}
use Rattle.netlist_admission.proofs.kinds.stores.put_pins.Given as goal

abbrev pub invariant-loop-i : goal.invariant-loop-i
invariant-loop-i l = l.table ≡ sets l.initial.table l.at (take l.i l.pins)
