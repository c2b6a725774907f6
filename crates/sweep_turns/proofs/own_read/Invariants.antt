-- None of the pins passed reads the gate's own line.
use Rattle.common_laws.proofs.Base.{ℕ, ◌≡◌, ◌≤◌, ◌<◌, get_or}
use Rattle.sweep_turns.proofs.own_read.Given as goal

abbrev pub invariant-loop-i : goal.invariant-loop-i
invariant-loop-i l = (k : ℕ) → 1 ≤ k → k < l.i → get_or l.lines k 0 ≡ get_or l.lines 0 0 → ⊥
