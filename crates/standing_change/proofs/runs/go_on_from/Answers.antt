-- `go_on_from` runs from the numbers that stand, and lays what the runs come to.
use Rattle.common_laws.proofs.Base.{List, sym, subst, ℕ}
use Rattle.calculation.specs.Calculation.{Analysed}
use Rattle.calculation.specs.Stored.{Ready}
use Rattle.standing_table.proofs.Slices.{ready-size}
use Rattle.sweep_reruns.specs.Kept.{GoneOn}
use Rattle.standing_change.specs.RunParts.{Stores}
use Rattle.standing_change.proofs.RunsLaws.{gone_whole}
use Rattle.standing_change.proofs.runs.go_on_from.Goals as goal

pub numbers_of-requires : goal.numbers_of-requires
numbers_of-requires c = ready-size c.args.standing.now c.requires.0

pub go_on-counts-requires : goal.go_on-counts-requires
go_on-counts-requires c =
    subst (Ready c.args.library.now c.args.netlist.now) (sym c.numbers_of.ensures) c.requires.0

pub put_kept-requires : goal.put_kept-requires
put_kept-requires c =
    (c.requires.1, ready-size c.args.standing.now c.requires.0)

pub returns : goal.returns
returns c cells ss h =
    let standing = c.args.standing.now in
    subst (λ (a : Analysed). Stores a standing c.put_kept.new.standing)
    (gone_whole standing (ready-size standing c.requires.0) cells ss _ c.go_on-counts.result
    (subst (λ (z : List ℕ). GoneOn cells ss z c.go_on-counts.new.numbers c.go_on-counts.result) c.numbers_of.ensures (c.go_on-counts.ensures cells ss h)) h.sound)
    c.put_kept.ensures
