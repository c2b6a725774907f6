-- `conclude` calculates, and writes the report from the tables, or both.
use Rattle.std.proofs.lemmas.Result.{err_from_is_err_and}
use Rattle.common_laws.proofs.Base.{refl}
use Rattle.reading.specs.Numbers as No
use Rattle.reading.specs.Answer.{answer_read}
use Rattle.writer.proofs.Buffer.{put-closed}
use Rattle.analysis_call.proofs.Told.{both-put, ends-long, ends-fitting}
use Rattle.analysis_call.proofs.end.conclude.Goals as goal

pub returns-in_err-length : goal.returns-in_err-length
unfolding answer_read
returns-in_err-length c cells ss h =
    let p = err_from_is_err_and c.from_residual.result c.from_residual.ensures.1 in
    rw (p.1, p.2)
    (ends-long cells ss c.args.numbers.now c.args.report.now _ _ c.calculate-counts.result (c.calculate-counts.ensures cells ss h) c.close.result
    (put-closed No.report_long refl
    (both-put cells ss h _ _ _ _ _ _ _ _ (c.calculate-counts.ensures cells ss h) c.put_report-low.ensures (c.put_second-end.ensures cells ss h))
    (rw c.number.ensures at c.close.ensures)) _ c.in_err-length.was)

pub returns : goal.returns
unfolding answer_read
returns c cells ss h =
    ends-fitting cells ss c.args.numbers.now c.args.report.now _ _ c.calculate-counts.result (c.calculate-counts.ensures cells ss h) c.close.result
    (put-closed No.report_long refl
    (both-put cells ss h _ _ _ _ _ _ _ _ (c.calculate-counts.ensures cells ss h) c.put_report-low.ensures (c.put_second-end.ensures cells ss h))
    (rw c.number.ensures at c.close.ensures)) _ c.in_ok-length.was

pub put_second-end-requires : goal.put_second-end-requires
put_second-end-requires c =
    let p = c.requires in
    record { cells = p.cells; statements = p.statements; holds = p.holds }
