-- With the bytes still to come put in, the table is what is promised.
use Rattle.std.proofs.Common.{◌≡◌, ◌+◌, drop}
use Rattle.std.proofs.lemmas.List.Edits.{sets}
use Rattle.library_text.proofs.lines.store.put_bytes.Given as goal

abbrev pub invariant-loop-i : goal.invariant-loop-i
invariant-loop-i l = sets l.table (l.at + l.i) (drop l.i l.name) ≡ sets l.initial.table l.at l.name
