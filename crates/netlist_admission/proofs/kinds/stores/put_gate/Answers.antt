-- `put_gate` stores a gate's numbers.
use Rattle.common_laws.proofs.Base.{◌≡◌, suc, ◌+◌, arith}
use Rattle.sizes.specs.Places.{gate_place}
use Rattle.netlist_table.specs.Admission.{gate_stored}
use Rattle.netlist_admission.proofs.kinds.stores.put_gate.Goals as goal

pub returns : goal.returns
unfolding gate_stored
returns c =
    let g = gate_place c.args.g in
    let one : g + 1 ≡ suc g = omega arith in
    let two : g + 2 ≡ suc (suc g) = omega arith in
    rw (c.put_pins.ensures, c.put-2.ensures, c.put.ensures, c.place_of-at.ensures, one, two)
