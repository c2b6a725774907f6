-- `fill` stays within its buffer and ends: each turn but the last reads at least one byte.
use Rattle.std.proofs.Common.{◌≤◌, ◌-◌, length}
use Rattle.files.proofs.fill.Given as goal

abbrev pub invariant-loop-loaded : goal.invariant-loop-loaded
invariant-loop-loaded g l = l.at ≤ length l.buffer

abbrev pub decreases-loop-loaded : goal.decreases-loop-loaded
decreases-loop-loaded g l = length l.initial.buffer - l.at
