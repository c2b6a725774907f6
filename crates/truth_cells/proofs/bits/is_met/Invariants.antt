-- `is_met` goes over the pins from the first on, to one that has not the value named.
use Rattle.common_laws.proofs.Base.{◌≡◌}
use Rattle.truth_cells.specs.Words.{met_by}
use Rattle.truth_cells.proofs.bits.is_met.Given as goal

abbrev pub invariant-loop-i : goal.invariant-loop-i
invariant-loop-i l = met_by l.pins l.columns l.place ≡ met_by l.i l.rest l.left
