-- `cover` goes over the pins from the last on.
use Rattle.common_laws.proofs.Base.{◌≡◌, ◌/◌, ◌^◌}
use Rattle.truth_rows.specs.Masks.{cover_mask, term_but}
use Rattle.truth_rows.proofs.masks.cover.Given as goal

abbrev pub invariant-loop-i : goal.invariant-loop-i
invariant-loop-i l =
    (l.mask ≡ cover_mask l.i (term_but l.free l.i l.row)) × (l.wide ≡ 2 ^ (2 ^ l.i)) × (l.rest ≡ l.row / 3 ^ l.i)
