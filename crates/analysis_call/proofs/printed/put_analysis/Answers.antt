-- `put_analysis` leaves the report where it stands, or puts the refusal there.
use Rattle.common_laws.proofs.Base.{refl, rules}
use Rattle.reading.specs.Answer.{answer_read}
use Rattle.writer.specs.Buffer.{ShownBy}
use Rattle.demands.specs.Own.{own_tables}
use Rattle.analysis_call.proofs.PrintedLaws.{analysis-printed, accepted-shown, refused-shown}
use Rattle.analysis_call.proofs.printed.put_analysis.Goals as goal

pub returns-in-Ok : goal.returns-in-Ok
unfolding own_tables
returns-in-Ok c =
    analysis-printed c.args.lib.now c.args.net.now c.args.report.now (search rules) _ (search rules) _ c.analyse_into-answer.ensures _ _
    (accepted-shown c.analyse_into-answer.result c.in-Ok.s _ (search rules))

pub returns-in-Err : goal.returns-in-Err
unfolding own_tables answer_read ShownBy
returns-in-Err c =
    analysis-printed c.args.lib.now c.args.net.now c.args.report.now (search rules) _ (search rules) _ c.analyse_into-answer.ensures _ _
    (refused-shown c.analyse_into-answer.result c.in-Err.r _ _ _ (search rules) c.show.ensures)

pub analyse_into-answer-requires : goal.analyse_into-answer-requires
analyse_into-answer-requires c =
    (refl, refl)
