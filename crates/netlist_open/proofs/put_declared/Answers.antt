-- The netlist, and the open lines behind it.
use Rattle.common_laws.proofs.Base.{rules}
use Rattle.writer.proofs.Steps.{puts_then, puts_lender}
use Rattle.netlist_open.proofs.put_declared.Goals as goal

pub returns : goal.returns
returns c =
    puts_lender (puts_then c.put_bytes.ensures c.put_opens.ensures) c.new-text.ensures.front c.new-text.ensures.same (search rules)
