-- `put_of_files`: `unreadable`, or the text, or its refusal.
use Rattle.std.proofs.Common.{rules}
use Rattle.files.proofs.Output.{library-unread, netlist-unread, both_read}
use Rattle.scoap_plan.proofs.Output.{plan-long, plan-outputs}
use Rattle.scoap_plan.proofs.put_of_files.Goals as goal

pub returns-in_default : goal.returns-in_default
returns-in_default c =
    library-unread _ _ _ _ _ c.in_default.is (search rules) (search rules) c.put_unreadable.ensures

pub returns-in_default-length : goal.returns-in_default-length
returns-in_default-length c =
    netlist-unread _ _ _ _ _ c.in-Some.is c.in_default-length.is (search rules) (search rules)
    c.put_unreadable-in_default-length.ensures

pub returns : goal.returns
returns c =
    both_read _ _ _ _ _ (plan-long _ _ _) (search rules) (search rules) c.in-Some.is c.in-Some-length.is c.front.ensures
    c.front-2.ensures (plan-outputs _ _ c.args.output.now _ _ _ c.clear_bytes.ensures (search rules) c.put_plan.ensures)
