-- `tell` tells a refusal, or makes the numbers.
use Rattle.common_laws.proofs.Base.{rules}
use Rattle.analysis_call.proofs.EndLaws.{told-entry, told_later, told-made}
use Rattle.analysis_call.proofs.end.tell.Goals as goal

pub conclude-requires : goal.conclude-requires
conclude-requires c = c.requires (search rules)

pub returns-in-Err-AtEntry : goal.returns-in-Err-AtEntry
returns-in-Err-AtEntry c =
    told-entry c.args.progress c.args.library.now c.args.netlist.now c.args.numbers.now c.args.report.now _ (search rules) _

pub returns-in-Err-Later : goal.returns-in-Err-Later
returns-in-Err-Later c =
    told_later c.args.progress c.args.library.now c.args.netlist.now c.args.numbers.now c.args.report.now _ (search rules) _ _ c.clear_bytes.ensures

pub returns-in-Ok : goal.returns-in-Ok
returns-in-Ok c =
    told-made c.args.progress c.args.library.now c.args.netlist.now c.args.numbers.now c.args.report.now (search rules) _ _ _ c.conclude.ensures
