-- The word, the line and the line's end, one behind the other.
use Rattle.text.specs.Bytes.{bytes}
use Rattle.writer.proofs.Steps.{puts_then}
use Rattle.netlist_open.specs.Copy.{open_line}
use Rattle.netlist_open.proofs.put_open.Goals as goal

pub returns : goal.returns
unfolding open_line bytes
returns c = puts_then c.put_bytes.ensures (puts_then c.put_decimal.ensures c.put_byte.ensures)
