-- `run` has made so many steps.
use Rattle.common_laws.proofs.Base.{List}
use Rattle.std.proofs.Common.{unwrap_or}
use Rattle.library_table.specs.Cells.{Cell}
use Rattle.netlist_table.specs.Netlist.{Statement}
use Rattle.calculation.specs.Stored.{Holds}
use Rattle.budget_run.specs.Queued.{LastOf}
use Rattle.budget_run.proofs.Runs.{After}
use Rattle.budget_run.proofs.run.Given as goal

abbrev pub invariant-loop-steps : goal.invariant-loop-steps
invariant-loop-steps l = record {
  after : (cells : List Cell) (ss : List Statement) → Holds l.library l.netlist cells ss → After cells ss l.steps (unwrap_or l.last 0) l.numbers l.queue;
  last : LastOf l.steps l.last;
}
