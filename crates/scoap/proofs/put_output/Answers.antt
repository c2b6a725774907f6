-- `put_output`: `unreadable`, or what the analysis prints.
use Rattle.std.proofs.Common.{rules}
use Rattle.demands.specs.Outcome.{text_long}
use Rattle.demands.specs.Printed.{reported, printed}
use Rattle.files.specs.Output.{LongRefused}
use Rattle.files.proofs.Output.{long-shown, either-long, prints-outputs, library-unread, netlist-unread, both_read}
use Rattle.scoap.proofs.put_output.Goals as goal

printed-long : LongRefused printed
unfolding printed reported text_long
printed-long lib net h = long-shown _ (either-long lib net h) _

pub returns-in_default : goal.returns-in_default
returns-in_default c =
    library-unread printed _ _ _ _ c.in_default.is (search rules) (search rules) c.put_unreadable.ensures

pub returns-in_default-length : goal.returns-in_default-length
returns-in_default-length c =
    netlist-unread printed _ _ _ _ c.in-Some.is c.in_default-length.is (search rules) (search rules)
    c.put_unreadable-in_default-length.ensures

pub returns : goal.returns
returns c =
    both_read printed _ _ _ _ printed-long (search rules) (search rules) c.in-Some.is c.in-Some-length.is c.front.ensures
    c.front-2.ensures (prints-outputs c.put_analysis.ensures.bytes)
