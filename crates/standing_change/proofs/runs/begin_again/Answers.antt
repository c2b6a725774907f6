-- `begin_again` calculates from the start, and lays what that comes to.
use Rattle.common_laws.proofs.Base.{subst, ℕ, arith, length-replicate}
use Rattle.sizes.specs.Sizes as Size
use Rattle.calculation.specs.Calculation.{Analysed}
use Rattle.standing_table.proofs.Slices.{ready-size}
use Rattle.standing_change.specs.RunParts.{Stores}
use Rattle.standing_change.proofs.RunsLaws.{begun_whole}
use Rattle.standing_change.proofs.runs.begin_again.Goals as goal

pub calculate-counts-requires : goal.calculate-counts-requires
calculate-counts-requires c =
    let h = c.requires.0 in
    record { cells = h.cells; statements = h.statements; holds = h.holds; room = omega (arith, length-replicate {A = ℕ} Size.numbers 0) }

pub put_kept-requires : goal.put_kept-requires
put_kept-requires c =
    (c.requires.1, ready-size c.args.standing.now c.requires.0)

pub returns : goal.returns
returns c cells ss h =
    subst (λ (a : Analysed). Stores a c.args.standing.now c.put_kept.new.standing)
    (begun_whole cells ss _ c.calculate-counts.result (c.calculate-counts.ensures cells ss h))
    c.put_kept.ensures
