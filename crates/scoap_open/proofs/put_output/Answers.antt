-- `put_output`: `unreadable`, or the copy, or its refusal.
use Rattle.std.proofs.Common.{rules}
use Rattle.demands.specs.Outcome.{text_long}
use Rattle.netlist_open.specs.Copied.{copied, copy_printed}
use Rattle.files.specs.Output.{LongRefused}
use Rattle.files.proofs.Output.{long-shown, either-long, prints-outputs, library-unread, netlist-unread, both_read}
use Rattle.scoap_open.proofs.put_output.Goals as goal

copy_long : LongRefused copy_printed
unfolding copy_printed copied text_long
copy_long lib net h = long-shown _ (either-long lib net h) _

pub returns-in_default : goal.returns-in_default
returns-in_default c =
    library-unread copy_printed _ _ _ _ c.in_default.is (search rules) (search rules) c.put_unreadable.ensures

pub returns-in_default-length : goal.returns-in_default-length
returns-in_default-length c =
    netlist-unread copy_printed _ _ _ _ c.in-Some.is c.in_default-length.is (search rules) (search rules)
    c.put_unreadable-in_default-length.ensures

pub returns : goal.returns
returns c =
    both_read copy_printed _ _ _ _ copy_long (search rules) (search rules) c.in-Some.is c.in-Some-length.is c.front.ensures
    c.front-2.ensures (prints-outputs c.put_copy.ensures.bytes)
