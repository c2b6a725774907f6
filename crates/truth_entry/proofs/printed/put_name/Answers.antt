-- `put_name` meets its contract.
use Rattle.text.specs.Bytes.{bytes}
use Rattle.writer.proofs.Steps.{puts_then}
use Rattle.truth_tables.specs.Entries.{name_bytes}
use Rattle.truth_entry.proofs.printed.put_name.Goals as goal

pub returns : goal.returns
unfolding name_bytes bytes
returns c =
    puts_then c.put_bytes.ensures
    (puts_then c.put_bytes-2.ensures (puts_then c.put_byte.ensures (puts_then c.put_decimal.ensures c.put_byte-2.ensures)))
