-- `put_output`: `unreadable`, or the entry, or its refusal.
use Rattle.std.proofs.Common.{rules}
use Rattle.common_laws.proofs.Base.{lt-ltb}
use Rattle.truth_entry.specs.Generated.{generated}
use Rattle.files.specs.Output.{OneLongRefused}
use Rattle.files.proofs.Output.{long-shown, prints-outputs, file_unread, file_read}
use Rattle.scoap_cell.specs.Output.{entry_printed}
use Rattle.scoap_cell.proofs.put_output.Goals as goal

entry-long : OneLongRefused entry_printed
unfolding entry_printed generated
entry-long text h = long-shown _ (lt-ltb _ _ h) _

pub returns-in_default : goal.returns-in_default
returns-in_default c = file_unread entry_printed _ _ c.in_default.is (search rules) (search rules) c.put_unreadable.ensures

pub returns : goal.returns
unfolding entry_printed
returns c = file_read entry_printed _ _ entry-long (search rules) c.in-Some.is c.front.ensures (prints-outputs c.put_printed.ensures)
