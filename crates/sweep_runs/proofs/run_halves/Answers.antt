-- The setting half, and the observing half from where it ended.
use Rattle.sweep_runs.proofs.FourRuns.{next_fits, both-ran}
use Rattle.sweep_runs.proofs.run_halves.Goals as goal

pub observe_lines-observed-requires : goal.observe_lines-observed-requires
observe_lines-observed-requires c =
    let p = c.requires in
    next_fits p.holds p.size p.costs (c.set_lines-set.ensures p.cells p.statements p.holds)

pub returns : goal.returns
returns c cells ss h =
    let p = c.requires in
    both-ran h p.size p.costs (c.set_lines-set.ensures cells ss h) (c.observe_lines-observed.ensures cells ss h)
