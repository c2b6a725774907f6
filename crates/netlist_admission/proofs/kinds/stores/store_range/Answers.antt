use Rattle.common_laws.proofs.Base.{rules}
use Rattle.netlist_table.specs.Layout.{packed}
use Rattle.netlist_table.specs.Admission.{mention_all, range_stored}
use Rattle.netlist_admission.proofs.kinds.stores.store_range.Goals as goal

-- The stores one after the other.
pub returns : goal.returns
unfolding range_stored mention_all packed
returns c = search rules
