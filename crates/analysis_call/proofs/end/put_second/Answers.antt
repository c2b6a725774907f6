-- `put_second` puts the second report behind the first.
use Rattle.common_laws.proofs.Base.{true, sym, ◌∙◌, rules}
use Rattle.writer.proofs.Steps.{put-none, put_then}
use Rattle.analysis_call.proofs.Told.{second_none, second-some, held-report}
use Rattle.analysis_call.proofs.end.put_second.Goals as goal

pub returns-then-not-some_range : goal.returns-then-not-some_range
returns-then-not-some_range c cells ss h = rw (second_none cells ss h (sym c.some_range.ensures ∙ c.if-not-some_range.true)) (put-none _ _)

pub returns : goal.returns
returns c cells ss h =
    rw (second-some cells ss h (sym c.some_range.ensures ∙ c.if-not-some_range.false))
    (put_then c.put_high-next.ensures (rw (held-report cells ss h true _ _ _ (c.calculate-counts.ensures cells ss h)) at c.put_report.ensures))

pub calculate-counts-requires : goal.calculate-counts-requires
calculate-counts-requires c =
    let p = c.requires in
    record { cells = p.cells; statements = p.statements; holds = p.holds; room = search rules }
