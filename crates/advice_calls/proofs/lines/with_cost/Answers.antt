-- `with_cost` tells a figure, over and never apart.
use Rattle.advice_calls.proofs.PadCosts.{figure-more, over-more, never-more}
use Rattle.advice_calls.proofs.lines.with_cost.Goals as goal

pub returns-then-x-le-MOST : goal.returns-then-x-le-MOST
returns-then-x-le-MOST c =
    figure-more c.args.x c.args.left _ _ _ c.if-x-le-MOST.true c.max-largest.ensures c.max.ensures c.plus.ensures

pub returns-then-x-eq-OVER : goal.returns-then-x-eq-OVER
returns-then-x-eq-OVER c = over-more c.args.x c.args.left _ c.if-x-eq-OVER.true c.max-largest.ensures

pub returns : goal.returns
returns c = never-more c.args.x c.args.left _ c.if-x-le-MOST.false c.if-x-eq-OVER.false c.max-largest.ensures
