-- The lines that were passed are mentioned.
use Rattle.common_laws.proofs.Base.{◌≡◌, take}
use Rattle.netlist_table.specs.Admission.{mention_all}
use Rattle.netlist_admission.proofs.kinds.stores.mention_pins.Given as goal

abbrev pub invariant-loop-l : goal.invariant-loop-l
invariant-loop-l l = l.table ≡ mention_all (take l.l-index l.l-items) l.initial.table
