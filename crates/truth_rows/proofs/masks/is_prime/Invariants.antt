-- `is_prime` goes over the pins from the last on, to one that can be dropped.
use Rattle.common_laws.proofs.Base.{true, ◌≡◌, ◌/◌, ◌^◌}
use Rattle.truth_rows.specs.Masks.{fixed}
use Rattle.truth_rows.proofs.masks.is_prime.Given as goal

abbrev pub invariant-loop-i : goal.invariant-loop-i
invariant-loop-i l = (l.rest ≡ l.row / 3 ^ l.i) × (fixed l.wanted l.pins l.row l.i ≡ true)
