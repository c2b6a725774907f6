-- `stopped_all` clears all that was lent behind the entry.
use Rattle.analysis_texts.specs.Progress.{left_at}
use Rattle.analysis_texts.proofs.entry.stopped_all.Goals as goal
use Rattle.analysis_texts.proofs.entry.stopped_all.Goals.{in-Later, in_default}

pub returns : goal.returns
unfolding left_at
returns c = (
  c.from.ensures,
  elim c.match-stop.branch [
    | in-Later w ↦ rw (w.in-Later.is, w.library-is, w.netlist-is, w.numbers-is, w.report-is) w.clear_all.ensures
    | in_default w ↦ rw (w.in_default.is, w.library-is, w.netlist-is, w.numbers-is, w.report-is)
  ],
)
