-- The bits that are kept, with what the rest will add, are the whole.
use Rattle.common_laws.proofs.Base.{◌≡◌, ◌+◌, not}
use Rattle.sweep_sums.specs.Gone.{columns_gone}
use Rattle.sweep_wires.specs.Wires.{SettingRow, column_value, asked_below, bits_of, once_columns}
use Rattle.sweep_wires.proofs.once.Given as goal

abbrev pub invariant-loop-rest : goal.invariant-loop-rest
invariant-loop-rest l = record {
  row : SettingRow l.pins l.rest;
  all : l.left + bits_of (λ j. not (asked_below l.lines l.pins l.columns (column_value j) j)) (columns_gone l.rest) ≡ once_columns l.lines l.pins l.columns;
}

abbrev pub decreases-loop-rest : goal.decreases-loop-rest
decreases-loop-rest l = l.rest
