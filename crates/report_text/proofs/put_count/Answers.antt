-- A number and a byte.
use Rattle.writer.proofs.Steps.{puts_then}
use Rattle.report_text.proofs.put_count.Goals as goal

pub returns : goal.returns
returns c = puts_then c.put_decimal.ensures c.put_byte.ensures
