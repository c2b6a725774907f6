-- No column passed is opposed by a lower one: what the rest answers, the row does.
use Rattle.common_laws.proofs.Base.{◌≡◌, ◌-◌}
use Rattle.library_table.specs.Library.{any_of}
use Rattle.sweep_sums.specs.Gone.{columns_gone}
use Rattle.sweep_wires.specs.Wires.{SettingRow, column_value, asked_below, both_columns}
use Rattle.sweep_wires.proofs.needs_both.Given as goal

abbrev pub invariant-loop-rest : goal.invariant-loop-rest
invariant-loop-rest l = record {
  row : SettingRow l.pins l.rest;
  same : any_of (λ j. asked_below l.lines l.pins l.columns (1 - column_value j) j) (columns_gone l.rest) ≡ both_columns l.lines l.pins l.columns;
}

abbrev pub decreases-loop-rest : goal.decreases-loop-rest
decreases-loop-rest l = l.rest
