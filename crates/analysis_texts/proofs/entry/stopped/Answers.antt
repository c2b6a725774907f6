-- `stopped` clears the answer behind the entry.
use Rattle.common_laws.proofs.Base.{◌∙◌}
use Rattle.table.proofs.Places.{cleared-all}
use Rattle.analysis_texts.specs.Progress.{left_at}
use Rattle.analysis_texts.proofs.entry.stopped.Goals as goal
use Rattle.analysis_texts.proofs.entry.stopped.Goals.{in-Later, in_default}

pub returns : goal.returns
unfolding left_at
returns c = (
  c.from.ensures,
  elim c.match-stop.branch [
    | in-Later w ↦ rw (w.in-Later.is, w.answer-is) (w.clear.ensures ∙ cleared-all c.args.answer.now)
    | in_default w ↦ rw (w.in_default.is, w.answer-is)
  ],
)
