-- `columns` goes over the pins from the last on.
use Rattle.common_laws.proofs.Base.{◌≡◌, ◌/◌, ◌^◌}
use Rattle.truth_tables.specs.Entries.{term_columns}
use Rattle.truth_rows.specs.Masks.{term_of}
use Rattle.truth_rows.proofs.masks.columns.Given as goal

abbrev pub invariant-loop-i : goal.invariant-loop-i
invariant-loop-i l = (l.sum ≡ term_columns (term_of l.i l.row)) × (l.rest ≡ l.row / 3 ^ l.i)
