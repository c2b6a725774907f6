-- `observe` lends the numbers of the standing table.
use Rattle.common_laws.proofs.Base.{List, sym, subst, ℕ}
use Rattle.calculation.specs.Stored.{Ready}
use Rattle.sweep_reruns.specs.Kept.{ObservedAnew}
use Rattle.standing_table.proofs.Slices.{ready-size}
use Rattle.standing_table.proofs.observe.Goals as goal

pub numbers_of-requires : goal.numbers_of-requires
numbers_of-requires c = ready-size c.args.standing.now c.requires

pub observe_anew-requires : goal.observe_anew-requires
observe_anew-requires c =
    subst (Ready c.args.library.now c.args.netlist.now) (sym c.numbers_of.ensures) c.requires

pub returns : goal.returns
returns c cells ss h =
    subst (λ (z : List ℕ). ObservedAnew cells ss z c.observe_anew.new.numbers c.observe_anew.result) c.numbers_of.ensures
    (c.observe_anew.ensures cells ss h)
