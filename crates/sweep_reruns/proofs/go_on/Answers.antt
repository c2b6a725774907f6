-- The numbers are kept, and the halves run from them.
use Rattle.common_laws.proofs.Base.{◌≡◌, refl, arith, length}
use Rattle.sizes.specs.Sizes as Size
use Rattle.sweep_runs.proofs.FourRuns.{link_fits, half-fits}
use Rattle.sweep_reruns.proofs.Runs.{on-size, on-costs, gone-on}
use Rattle.sweep_reruns.proofs.go_on.Goals as goal

pub link-requires : goal.link-requires
link-requires c = link_fits c.requires.holds refl

pub run_halves-requires : goal.run_halves-requires
run_halves-requires c =
    let p = c.requires in
    let long : length c.args.numbers.now ≡ Size.numbers = omega arith in
    half-fits p.holds (on-size p.holds p.room long c.keep_numbers.ensures) (on-costs p.holds p.room long c.keep_numbers.ensures)

pub returns : goal.returns
returns c cells ss h =
    let long : length c.args.numbers.now ≡ Size.numbers = omega arith in
    gone-on h c.requires.room long c.keep_numbers.ensures (c.run_halves.ensures cells ss h)
