-- `put_bytes` stores bytes one by one: those passed stand in the buffer.
use Rattle.common_laws.proofs.Base.{take}
use Rattle.writer.specs.Put.{Puts}
use Rattle.writer.proofs.bytes.Cursor.put_bytes.Given as goal

abbrev pub invariant-loop-b : goal.invariant-loop-b
invariant-loop-b l = Puts (take l.b-index l.word) l.initial.self l.self
