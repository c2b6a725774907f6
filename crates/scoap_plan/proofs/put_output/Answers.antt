-- `put_output`: what is printed of the files, or the usage.
use Rattle.common_laws.proofs.Base.{sym, ◌∙◌}
use Rattle.std.proofs.Common.{rules}
use Rattle.scoap_plan.proofs.Output.{asked-outputs, usage-outputs}
use Rattle.scoap_plan.proofs.put_output.Goals as goal

pub returns-in-Some : goal.returns-in-Some
returns-in-Some c =
    asked-outputs _ _ _ _ _ (sym c.read_arguments.ensures ∙ c.in-Some.is) c.put_of_files.ensures

pub returns-in-None : goal.returns-in-None
returns-in-None c =
    usage-outputs _ _ _ _ _ (sym c.read_arguments.ensures ∙ c.in-None.is) (search rules) c.put_usage.ensures
