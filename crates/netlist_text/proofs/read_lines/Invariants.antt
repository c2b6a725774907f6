-- The lines that were passed are read: the table holds their statements.
use Rattle.common_laws.proofs.Base.{List, ◌+◌, ◌-◌, ◌≤◌, length, drop}
use Rattle.sizes.specs.Sizes as Size
use Rattle.library_table.specs.Cells.{Cell}
use Rattle.library_table.specs.Layout.{CellsTold}
use Rattle.netlist_text.proofs.Walk.{Reading}
use Rattle.netlist_text.proofs.read_lines.Given as goal

abbrev pub invariant-loop-at : goal.invariant-loop-at
invariant-loop-at l =
    record {
      within : l.at ≤ length l.text;
      few : l.number ≤ l.at + 1;
      reading : (cells : List Cell) → CellsTold l.library cells
          → Reading l.rules cells l.text l.at l.number l.table (drop Size.netlist l.initial.table);
    }

abbrev pub decreases-loop-at : goal.decreases-loop-at
decreases-loop-at l = length l.text - l.at
