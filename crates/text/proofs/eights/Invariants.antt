-- `eights` passes over eight bytes with each turn in which no line ends.
use Rattle.common_laws.proofs.Base.{◌≡◌, ◌+◌, ◌*◌, drop}
use Rattle.text.specs.Lines.{span}
use Rattle.text.proofs.eights.Given as goal

abbrev pub invariant-loop-k : goal.invariant-loop-k
invariant-loop-k l = 8 * l.k + span 10 (drop (8 * l.k) l.text) ≡ span 10 l.text
