-- `finish` tells a refusal, or makes the numbers.
use Rattle.common_laws.proofs.Base.{sym, ◌∙◌, rules}
use Rattle.demands.specs.Answer.{lent_of}
use Rattle.analysis_call.proofs.EndLaws.{finished_stopped, finished_made, finished_long}
use Rattle.analysis_call.proofs.end.finish.Goals as goal

pub returns-in-Err : goal.returns-in-Err
returns-in-Err c =
    finished_stopped c.args.progress (lent_of c.args.library.now c.args.netlist.now c.args.numbers.now c.args.report.now) _ (search rules) _
    c.stopped_all.ensures.1 _ c.stopped_all.ensures.0

pub conclude-answer-requires : goal.conclude-answer-requires
conclude-answer-requires c = c.requires c.in-Ok.is

pub returns-then-is_err : goal.returns-then-is_err
returns-then-is_err c =
    finished_long (lent_of c.args.library.now c.args.netlist.now c.args.numbers.now c.args.report.now) _ _ c.args.progress c.in-Ok.is
    c.conclude-answer.result (sym c.is_err.ensures.value ∙ c.if-is_err.true) c.conclude-answer.ensures _ c.clear_all.ensures
    c.conclude-answer.auto.numbers c.conclude-answer.auto.report

pub returns-else-is_err : goal.returns-else-is_err
returns-else-is_err c =
    finished_made (lent_of c.args.library.now c.args.netlist.now c.args.numbers.now c.args.report.now) _ _ c.args.progress c.in-Ok.is
    c.conclude-answer.result (sym c.is_err.ensures.value ∙ c.if-is_err.false) c.conclude-answer.ensures
