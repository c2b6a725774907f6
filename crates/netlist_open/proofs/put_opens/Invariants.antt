-- The lines passed stand in the buffer, ascending.
use Rattle.writer.specs.Put.{Puts}
use Rattle.netlist_table.specs.Netlist.{lines_where}
use Rattle.netlist_table.specs.Admission.{words_undeclared}
use Rattle.netlist_open.specs.Copy.{open_lines}
use Rattle.netlist_open.proofs.put_opens.Given as goal

abbrev pub invariant-loop-row : goal.invariant-loop-row
invariant-loop-row l = Puts (open_lines (lines_where (words_undeclared l.netlist) l.row 1)) l.initial.copy l.copy
