-- `put_group` meets its contract.
use Rattle.writer.proofs.Steps.{puts_then}
use Rattle.truth_entry.proofs.printed.put_group.Goals as goal

pub returns : goal.returns
returns c = puts_then c.put_byte.ensures c.put_rows.ensures
