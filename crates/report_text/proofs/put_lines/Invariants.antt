-- The lines passed stand in the buffer, ascending.
use Rattle.report_text.specs.Arguments.{marked}
use Rattle.writer.specs.Put.{Puts}
use Rattle.report_text.specs.Report.{lines_bytes}
use Rattle.report_text.proofs.put_lines.Given as goal

abbrev pub invariant-loop-row : goal.invariant-loop-row
invariant-loop-row l = Puts (lines_bytes (marked l.netlist) l.numbers l.row 1) l.initial.report l.report
