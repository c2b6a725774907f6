-- `put_row` meets its contract.
use Rattle.reading.specs.Choice.{pick}
use Rattle.text.specs.Bytes.{bytes}
use Rattle.writer.proofs.Steps.{puts_then}
use Rattle.truth_entry.specs.Printed.{one_bytes}
use Rattle.truth_entry.proofs.printed.rows.put_row.Goals as goal
use Rattle.truth_entry.proofs.printed.rows.put_row.Goals.{then-any, else-any}

pub returns : goal.returns
unfolding one_bytes pick bytes
returns c =
    elim c.if-any.branch [
      | then-any w ↦ rw w.if-any.true (puts_then w.put_bytes.ensures (rw (w.entry-is, c.from.ensures) at c.put_octal.ensures))
      | else-any w ↦ rw w.if-any.false (rw (w.entry-is, c.from.ensures) at c.put_octal.ensures)
    ]
