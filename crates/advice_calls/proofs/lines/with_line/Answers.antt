-- `with_line` adds the cost of a line that is mentioned.
use Rattle.common_laws.proofs.Base.{refl}
use Rattle.advice_calls.proofs.PadCosts.{line-added, line-passed}
use Rattle.advice_calls.proofs.lines.with_line.Goals as goal

pub returns-then-mentioned : goal.returns-then-mentioned
returns-then-mentioned c =
    let a = c.args in
    line-added a.netlist.now a.numbers.now a.left a.l c.mentioned.ensures c.if-mentioned.true refl c.with_cost.result c.with_cost.ensures

pub returns-else-mentioned : goal.returns-else-mentioned
returns-else-mentioned c =
    let a = c.args in
    line-passed a.netlist.now a.numbers.now a.left a.l c.mentioned.ensures c.if-mentioned.false
