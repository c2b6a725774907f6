-- What remains of the part from `i` on ends where the part ends.
use Rattle.common_laws.proofs.Base.{◌≡◌, ◌+◌, drop}
use Rattle.text.specs.Class.{end_of}
use Rattle.text.specs.Lines.{span}
use Rattle.text.proofs.first.Given as goal

abbrev pub invariant-loop-i : goal.invariant-loop-i
invariant-loop-i l = l.i + span (end_of l.piece) (drop l.i l.text) ≡ span (end_of l.piece) l.text
