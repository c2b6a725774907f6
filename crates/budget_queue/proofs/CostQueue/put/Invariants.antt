-- `put` has gone up to a place, with its key: all inner places but the one above it have the lower of the two below, and only the
-- leaf changed.
use Rattle.common_laws.proofs.Base.{◌≡◌, ◌+◌, ◌≤◌, ◌<◌, length, get_or, set}
use Rattle.sizes.specs.Sizes as Size
use Rattle.budget_queue.specs.Queue.{key}
use Rattle.budget_queue.proofs.Laws.{Above, SameLeaves}
use Rattle.budget_queue.proofs.CostQueue.put.Given as goal

abbrev pub invariant-loop-at : goal.invariant-loop-at
invariant-loop-at l = record {
  low : 1 ≤ l.at;
  high : l.at < Size.queue;
  size : length l.self-inside.keys ≡ Size.queue;
  above : Above l.self-inside.keys l.at;
  leaves : SameLeaves l.self-inside.keys (set l.fn.self (Size.leaves + l.leaf) (key l.cost l.leaf));
  here : get_or l.self-inside.keys l.at 0 ≡ l.key;
}

abbrev pub decreases-loop-at : goal.decreases-loop-at
decreases-loop-at l = l.at
