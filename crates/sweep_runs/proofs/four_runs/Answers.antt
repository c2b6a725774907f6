-- The links, the start, and the halves.
use Rattle.common_laws.proofs.Base.{refl}
use Rattle.sweep_runs.proofs.FourRuns.{room, link_fits, half-fits, start-size, start-costs, calculated}
use Rattle.sweep_runs.proofs.four_runs.Goals as goal

pub link-requires : goal.link-requires
link-requires c = link_fits c.requires.0.holds refl

pub start-requires : goal.start-requires
start-requires c = (room c.requires.0.holds, c.requires.1)

pub run_halves-requires : goal.run_halves-requires
run_halves-requires c =
    let h = c.requires.0.holds in
    half-fits h (start-size h c.args.high c.start.ensures) (start-costs h c.args.high c.start.ensures)

pub returns : goal.returns
returns c cells ss h = calculated h c.args.high c.start.ensures _ (c.run_halves.ensures cells ss h)
