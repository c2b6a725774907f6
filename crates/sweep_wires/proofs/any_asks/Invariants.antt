-- None passed asks: what the rest answers, the row does.
use Rattle.common_laws.proofs.Base.{◌≡◌}
use Rattle.library_table.specs.Library.{any_of}
use Rattle.sweep_sums.specs.Gone.{columns_gone}
use Rattle.sweep_wires.specs.Wires.{SettingRow, asks_for}
use Rattle.sweep_wires.proofs.any_asks.Given as goal

abbrev pub invariant-loop-rest : goal.invariant-loop-rest
invariant-loop-rest l = record {
  row : SettingRow l.pins l.rest;
  same : any_of (asks_for l.lines l.pins l.line l.value) (columns_gone l.rest) ≡ any_of (asks_for l.lines l.pins l.line l.value) (columns_gone l.columns);
}

abbrev pub decreases-loop-rest : goal.decreases-loop-rest
decreases-loop-rest l = l.rest
