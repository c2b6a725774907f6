-- `stand`: the analysis, and its numbers and counts laid into the standing table.
use Rattle.common_laws.proofs.Base.{refl, arith, rules}
use Rattle.reading.specs.Answer.{answer_read}
use Rattle.demands.specs.Outcome.{given_texts}
use Rattle.demands.proofs.Given.{texts-checked}
use Rattle.demands.specs.Own.{own_tables}
use Rattle.standing_calls.proofs.Analysis.{stand-short, told-refused, told-accepted}
use Rattle.standing_calls.proofs.Calls.{is_short, is_long}
use Rattle.standing_calls.proofs.stand.Goals as goal

pub returns-then-standing-lt-STANDING : goal.returns-then-standing-lt-STANDING
unfolding answer_read
returns-then-standing-lt-STANDING c =
    rw c.at.ensures
    (stand-short (given_texts c.args.lib.now c.args.net.now) (texts-checked _ _) c.args.standing.now c.args.report.now (is_short c.args.standing.now c.if-standing-lt-STANDING.true))

pub returns-in-Err : goal.returns-in-Err
unfolding own_tables
returns-in-Err c =
    told-refused (given_texts c.args.lib.now c.args.net.now) (texts-checked _ _) c.args.standing.now c.args.report.now (is_long c.args.standing.now c.if-standing-lt-STANDING.false) _ c.analyse_into-answer.result
    c.analyse_into-answer.ensures c.in-Err.r (search rules) _ c.clear_later.ensures

pub returns-in-Ok : goal.returns-in-Ok
unfolding own_tables
returns-in-Ok c =
    told-accepted (given_texts c.args.lib.now c.args.net.now) (texts-checked _ _) c.args.standing.now c.args.report.now (is_long c.args.standing.now c.if-standing-lt-STANDING.false) _ c.analyse_into-answer.result
    c.analyse_into-answer.ensures c.in-Ok.s (search rules) _ c.put_standing.ensures

pub put_standing-requires : goal.put_standing-requires
put_standing-requires c = (omega arith, c.if-standing-lt-STANDING.false)

pub analyse_into-answer-requires : goal.analyse_into-answer-requires
analyse_into-answer-requires c =
    (refl, refl)
