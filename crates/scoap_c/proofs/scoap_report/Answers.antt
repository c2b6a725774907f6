-- `scoap_report` tells the answer of the analysis by one number.
use Rattle.demands.specs.Own.{own_tables}
use Rattle.answer_codes.proofs.ReportCode.{report-line, report-coded}
use Rattle.scoap_c.proofs.scoap_report.Goals as goal

pub answer_code-requires : goal.answer_code-requires
unfolding own_tables
answer_code-requires c =
    report-line c.args.lib.now c.args.net.now c.args.report.now _ c.report_into-answer.result c.report_into-answer.ensures

pub returns : goal.returns
unfolding own_tables
returns c =
    report-coded c.args.lib.now c.args.net.now c.args.report.now _ c.report_into-answer.result c.report_into-answer.ensures
    c.answer_code.result c.answer_code.ensures
