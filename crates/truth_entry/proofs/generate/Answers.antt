-- `generate` meets its contract.
use Rattle.common_laws.proofs.Base.{refl}
use Rattle.reading.specs.Numbers as No
use Rattle.reading.specs.Refusal.{◌>>=◌}
use Rattle.writer.proofs.Buffer.{refuses-writes, put-closed}
use Rattle.truth_entry.specs.Generated.{judged_into}
use Rattle.truth_entry.proofs.Fields.{judged-behind}
use Rattle.truth_entry.proofs.generate.Goals as goal

pub put_cell-end-requires : goal.put_cell-end-requires
put_cell-end-requires c = c.in-Ok.ensures.0

pub returns-in-Ok : goal.returns-in-Ok
unfolding judged_into ◌>>=◌
returns-in-Ok c =
    rw c.in-Ok.ensures.1 (put-closed No.report_long refl c.put_cell-end.ensures (rw c.number.ensures at c.close.ensures))

pub returns-in-Err : goal.returns-in-Err
unfolding judged_into ◌>>=◌
returns-in-Err c =
    rw c.in-Err.ensures
    (refuses-writes _ _ _ _ _ (judged-behind _ _ _ c.in-Err.ensures) (rw c.at.ensures at c.refuse.ensures))
