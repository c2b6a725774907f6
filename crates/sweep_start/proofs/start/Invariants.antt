-- Over numbers that are all never the lines passed have theirs.
use Rattle.common_laws.proofs.Base.{replicate}
use Rattle.sizes.specs.Sizes as Size
use Rattle.cost.specs.Cost.{never}
use Rattle.sweep_start.proofs.StartLines.{Laid}
use Rattle.sweep_start.proofs.start.Given as goal

abbrev pub invariant-loop-line : goal.invariant-loop-line
invariant-loop-line l = Laid l.high l.netlist (replicate Size.numbers never) l.line l.numbers
