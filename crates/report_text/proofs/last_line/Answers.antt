-- No line is above 1,000.
use Rattle.common_laws.proofs.Base.{arith}
use Rattle.netlist_table.proofs.HeldLines.{highest_few}
use Rattle.report_text.proofs.last_line.Goals as goal

pub overflow_cast-result : goal.overflow_cast-result
overflow_cast-result c = omega (arith, highest_few c.args.netlist.now)
