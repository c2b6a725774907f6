-- `wake_one` changes the marks by `level_or_wait` alone.
use Rattle.chip_loops.specs.Marks.{Ahead.none}
use Rattle.chip_loops.proofs.wake_one.Goals as goal

pub returns-then-top-ge-GATES : goal.returns-then-top-ge-GATES
returns-then-top-ge-GATES c = none

pub returns-in_default : goal.returns-in_default
returns-in_default c = none
