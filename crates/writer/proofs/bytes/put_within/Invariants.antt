-- `put_within` stores two digits a turn, from the last on; the measure is what is left of the number.
use Rattle.common_laws.proofs.Base.{◌≤◌}
use Rattle.writer.proofs.Passed.{Passed}
use Rattle.writer.proofs.bytes.put_within.Given as goal

abbrev pub invariant-loop-rest : goal.invariant-loop-rest
invariant-loop-rest l = (l.rest ≤ l.n) × (l.behind ≤ l.end) × Passed l.n l.at l.initial.buffer l.rest l.behind l.buffer

abbrev pub decreases-loop-rest : goal.decreases-loop-rest
decreases-loop-rest l = l.rest
