-- `put_printed` leaves the entry where it stands, or puts the refusal there.
use Rattle.common_laws.proofs.Base.{◌≡◌, arith, length, rules}
use Rattle.writer.proofs.Buffer.{writes-prints}
use Rattle.truth_entry.proofs.Bounded.{room_enough}
use Rattle.truth_entry.proofs.put_printed.Goals as goal

pub returns : goal.returns
returns c =
    let a = c.args in
    let long : 8192 ≡ length a.entry.now = search rules in
    rw (← room_enough a.text.now (length a.entry.now) (omega arith))
    (writes-prints (omega arith) (omega (arith, c.put_entry-written.auto.entry)) c.put_entry-written.ensures.writes c.show.ensures)
