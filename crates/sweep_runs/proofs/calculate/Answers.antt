-- The first of the numbers table are lent, as many as there are numbers; what stands behind stays.
use Rattle.common_laws.proofs.Base.{◌++◌, ◌≡◌, ap, arith, length, take, drop, length-take-le}
use Rattle.sizes.specs.Sizes as Size
use Rattle.calculation.specs.Calculation.{Analysed}
use Rattle.sweep_runs.proofs.calculate.Goals as goal

pub four_runs-requires : goal.four_runs-requires
four_runs-requires c =
    let p = c.requires in
    let lent : length (take Size.numbers c.args.numbers.now) ≡ Size.numbers = length-take-le Size.numbers c.args.numbers.now p.room in
    (record { cells = p.cells; statements = p.statements; holds = p.holds; room = omega (arith, lent) }, lent)

pub returns : goal.returns
returns c cells ss h =
    let e = c.four_runs.ensures cells ss h in
    record {
      numbers = ap (λ (a : Analysed). a.numbers ++ drop Size.numbers c.args.numbers.now) e;
      counts = ap (λ (a : Analysed). a.counts) e;
    }
