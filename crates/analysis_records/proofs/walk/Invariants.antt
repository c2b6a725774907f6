-- `walk`: as many records are done as the loop has counted, and all are admitted.
use Rattle.std.specs.Prelude.{Ok}
use Rattle.common_laws.proofs.Base.{take}
use Rattle.analysis_records.specs.Walk.{Walked}
use Rattle.analysis_records.proofs.walk.Given as goal

abbrev pub invariant-loop-i : goal.invariant-loop-i
invariant-loop-i l = Walked l.library l.initial.table (take l.i l.records) (Ok tt) l.table
