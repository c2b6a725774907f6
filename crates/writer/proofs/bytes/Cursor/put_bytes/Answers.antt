-- With each turn one byte more stands in the buffer.
use Rattle.common_laws.proofs.Base.{◌<◌, add-one, length, take-suc}
use Rattle.writer.proofs.Steps.{puts_then}
use Rattle.writer.proofs.bytes.Cursor.put_bytes.Goals as goal

pub loop-b-preserved : goal.loop-b-preserved
loop-b-preserved c =
    let l = c.loop-b in
    let word = c.args.word.now in
    let more : l.b-index < length word = c.loop-b-test.true in
    rw (add-one l.b-index, take-suc word l.b-index 0 more) (puts_then l.invariant c.put_byte.ensures)
