-- `put_node` puts the parts of a line one behind the other.
use Rattle.writer.proofs.Steps.{puts_then}
use Rattle.plan_text.specs.PlanText.{node_line}
use Rattle.plan_text.proofs.put_node.Goals as goal

pub returns : goal.returns
unfolding node_line
returns c =
    puts_then c.put_decimal.ensures
    (puts_then c.put_byte.ensures
    (puts_then c.put_decimal-2.ensures
    (puts_then c.put_byte-2.ensures
    (puts_then c.put_decimal-3.ensures (puts_then c.put_byte-3.ensures (puts_then c.put_row.ensures c.put_byte-4.ensures))))))
