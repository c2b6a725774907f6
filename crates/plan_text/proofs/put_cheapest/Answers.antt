-- `put_cheapest` marks, and writes the line that is asked for.
use Rattle.common_laws.proofs.Base.{refl, rules}
use Rattle.cost.specs.Kind.{kind_index}
use Rattle.netlist_table.specs.Sound.{InRange}
use Rattle.writer.proofs.Steps.{puts_lender}
use Rattle.plan_text.proofs.Written.{plan-put}
use Rattle.plan_text.proofs.put_cheapest.Goals as goal

pub returns : goal.returns
unfolding InRange
returns c k cells ss e h small =
    let a = c.args in
    plan-put a.library.now a.netlist.now _ k cells ss (kind_index a.kind) e h (c.trace.ensures k cells ss e h) a.line a.value ((c.requires.least, c.requires.most), c.requires.value_fits) small _ _ _
    (puts_lender c.write_line.ensures c.new-out.ensures.front c.new-out.ensures.same (search rules))

pub trace-requires : goal.trace-requires
trace-requires c = record { kind_fits = c.requires.kind_fits; cells = c.requires.cells; statements = c.requires.statements; holds = c.requires.holds; unmarked = refl }
