-- `has_rows` goes over the rows from the highest down, and over those of the group from the first on.
use Rattle.common_laws.proofs.Base.{map, ◌≡◌, ◌+◌, ◌≤◌}
use Rattle.truth_rows.specs.Asked.{asked_number}
use Rattle.truth_rows.specs.Masks.{prime_row, prime_rows}
use Rattle.truth_cells.specs.Words.{rows_are}
use Rattle.truth_cells.proofs.Steps.{left_are}
use Rattle.truth_cells.proofs.groups.has_rows.Given as goal

abbrev pub invariant-loop-row : goal.invariant-loop-row
invariant-loop-row l =
    (l.found + l.row ≤ 81)
    × (rows_are l.library l.at 0 (map (asked_number l.asked) (prime_rows l.asked.wanted l.asked.pins))
    ≡ left_are l.library l.at (asked_number l.asked) (prime_row l.asked.wanted l.asked.pins) l.found l.row)
