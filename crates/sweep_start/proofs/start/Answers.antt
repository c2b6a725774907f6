-- `start` lays the numbers of one line more with each turn; those of the lines past the last that is marked stay never.
use Rattle.common_laws.proofs.Base.{◌∙◌, ap, ℕ, ◌+◌, ◌*◌, ◌≤◌, arith, length, replicate, length-replicate}
use Rattle.sizes.specs.Sizes as Size
use Rattle.cost.specs.Cost.{never}
use Rattle.sweep_start.proofs.StartLines.{laid_none, laid_next, laid-all, marked-few}
use Rattle.sweep_start.proofs.start.Goals as goal

inside : (i n : ℕ) → i ≤ n → i ≤ length (replicate n never)
inside i n h = omega (arith, length-replicate n never)

pub loop-line-init : goal.loop-line-init
loop-line-init c = c.fill.ensures.after (λ y e. e) ∙ ap (λ (n : ℕ). replicate n never) c.requires.1 ∙ laid_none c.args.high c.args.netlist.now (replicate Size.numbers never)

pub start_line-requires : goal.start_line-requires
start_line-requires c = (omega (arith, marked-few c.args.high c.args.netlist.now), omega arith, omega arith, c.some_range-ranged.ensures)

pub loop-line-preserved : goal.loop-line-preserved
loop-line-preserved c =
    let few = marked-few c.args.high c.args.netlist.now in
    let line = c.loop-line.line in
    laid_next c.args.high c.args.netlist.now (replicate Size.numbers never) c.loop-line.numbers c.start_line.new.numbers line
    (inside (line * Size.costs + Size.costs) Size.numbers (omega arith)) c.loop-line.invariant c.start_line.ensures

pub returns : goal.returns
returns c =
    let few = marked-few c.args.high c.args.netlist.now in
    laid-all c.args.high c.args.netlist.now c.loop-line.numbers c.loop-line.line (omega arith) (omega arith) c.loop-line.invariant
