-- `analyse` makes the links, and the numbers at the low end of the ranges.
use Rattle.common_laws.proofs.Base.{arith}
use Rattle.sweep_runs.proofs.FourRuns.{link_fits}
use Rattle.advice_calls.proofs.PadCosts.{analysis-stands}
use Rattle.advice_calls.proofs.lines.analyse.Goals as goal

pub link-requires : goal.link-requires
link-requires c = link_fits c.requires.0.holds c.requires.1

pub returns-clause-stands : goal.returns-clause-stands
returns-clause-stands c cells ss h =
    analysis-stands h c.args.numbers.now (omega arith) c.calculate-counts.new.numbers (c.calculate-counts.ensures cells ss h)
