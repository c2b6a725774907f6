-- A line's number, its costs and the line's end.
use Rattle.common_laws.proofs.Base.{◌≡◌, ◌+◌, ◌-◌, arith}
use Rattle.report_text.specs.Report.{line_bytes}
use Rattle.writer.proofs.Steps.{puts_then}
use Rattle.report_text.proofs.put_line.Goals as goal

pub returns : goal.returns
unfolding line_bytes
returns c =
    let row = c.args.row in
    let before : row + 1 - 1 ≡ row = omega arith in
    rw before (puts_then c.put_decimal.ensures (puts_then c.put_costs.ensures c.put_byte.ensures))
