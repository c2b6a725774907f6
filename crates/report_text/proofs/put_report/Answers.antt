-- The header, the lines and the sweeps.
use Rattle.common_laws.proofs.Base.{rules, refl}
use Rattle.text.specs.Bytes.{bytes}
use Rattle.report_text.specs.Report.{header, report_bytes}
use Rattle.writer.proofs.Steps.{puts_then, puts_lender}
use Rattle.report_text.proofs.put_report.Goals as goal

pub returns : goal.returns
unfolding report_bytes header bytes
returns c = puts_lender (puts_then c.put_bytes.ensures (puts_then c.put_lines.ensures c.put_sweeps.ensures)) refl refl (search rules)
