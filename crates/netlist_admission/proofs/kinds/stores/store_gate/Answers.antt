-- `store_gate` stores a gate behind those before it.
use Rattle.netlist_table.specs.Admission.{mention_all, gate_added}
use Rattle.netlist_admission.proofs.kinds.stores.store_gate.Goals as goal

pub returns : goal.returns
unfolding gate_added mention_all
returns c =
    rw (c.put-2.ensures, c.put_gate.ensures, c.mention_pins.ensures, c.mention.ensures, c.put.ensures)
