-- `put_copy` puts the copy, or the refusal, into the buffer.
use Rattle.common_laws.proofs.Base.{rules}
use Rattle.reading.specs.Answer.{answer_read}
use Rattle.writer.specs.Buffer.{ShownBy}
use Rattle.netlist_open.proofs.Opens.{put_refused, put-accepted, stopped, both-old}
use Rattle.netlist_open.proofs.put_copy.Goals as goal

pub returns-in-Ok : goal.returns-in-Ok
returns-in-Ok c =
    let a = c.args in
    put-accepted a.lib.now a.net.now a.copy.now (search rules) _ c.put_declared.result _
    (both-old a.lib.now a.net.now _ _ c.read_texts-progress.result c.read_texts-progress.ensures (search rules)) c.put_declared.ensures

pub returns-in-Err : goal.returns-in-Err
unfolding answer_read ShownBy
returns-in-Err c =
    let a = c.args in
    put_refused a.lib.now a.net.now a.copy.now (search rules) _ c.show.result c.into.result
    (stopped a.lib.now a.net.now _ _ c.read_texts-progress.result c.read_texts-progress.ensures c.in-Err.stop (search rules) c.into.result (search rules)) c.show.ensures
