-- `next_awake` goes by the rest of each word: no turn passed is awake.
use Rattle.common_laws.proofs.Base.{◌≡◌, ℕ, ◌-◌, ◌≤◌, ◌<◌}
use Rattle.sweep_links.specs.Turns.{bit_at}
use Rattle.sweep_links.proofs.awake.next_awake.Given as goal

abbrev pub invariant-loop-at : goal.invariant-loop-at
invariant-loop-at l = record {
  least : l.from ≤ l.at;
  asleep : (t : ℕ) → l.from ≤ t → t < l.at → bit_at l.awake t ≡ 0;
}

abbrev pub decreases-loop-at : goal.decreases-loop-at
decreases-loop-at l = l.end - l.at
