-- `advise_on` tries pads from the numbers of one analysis, in an array that they are laid into.
use Rattle.common_laws.proofs.Base.{ℕ, replicate, length-replicate}
use Rattle.sizes.specs.Sizes as Size
use Rattle.advice_calls.proofs.LinesLaws.{barred-none}
use Rattle.advice_calls.proofs.PadCosts.{laid_whole}
use Rattle.advice_calls.proofs.lines.advise_on.Goals as goal

pub bar_all-requires : goal.bar_all-requires
bar_all-requires c = barred-none

pub choose-requires : goal.choose-requires
choose-requires c =
    let p = c.requires in
    record {
      cells = p.cells;
      statements = p.statements;
      forbidden = c.args.forbidden.now;
      stands = c.analyse.ensures.stands p.cells p.statements p.holds;
      laid = laid_whole c.analyse.new.numbers (replicate Size.numbers 0) _ (length-replicate {A = ℕ} Size.numbers 0) c.hand_over.ensures;
      bars = c.bar_all.ensures;
    }
