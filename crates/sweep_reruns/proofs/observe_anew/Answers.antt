-- The values are kept, and CO and SO run from their start.
use Rattle.common_laws.proofs.Base.{refl, arith}
use Rattle.sweep_runs.proofs.FourRuns.{room, link_fits, half-fits}
use Rattle.sweep_reruns.proofs.Runs.{anew-size, anew-costs, observed-anew}
use Rattle.sweep_reruns.proofs.observe_anew.Goals as goal

pub link-requires : goal.link-requires
link-requires c = link_fits c.requires.holds refl

pub start-requires : goal.start-requires
start-requires c = (room c.requires.holds, omega arith)

pub keep_numbers-requires : goal.keep_numbers-requires
keep_numbers-requires c = c.requires.room

pub observe_lines-requires : goal.observe_lines-requires
observe_lines-requires c =
    let p = c.requires in
    half-fits p.holds (anew-size p.holds p.room c.start.ensures c.keep_numbers.ensures) (anew-costs p.holds p.room c.start.ensures c.keep_numbers.ensures)

pub returns : goal.returns
returns c cells ss h = observed-anew h c.requires.room c.start.ensures c.keep_numbers.ensures (c.observe_lines.ensures cells ss h)
