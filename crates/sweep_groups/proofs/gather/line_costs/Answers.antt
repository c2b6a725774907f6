-- `line_costs` gathers the two columns of one line more with each turn.
use Rattle.common_laws.proofs.Base.{arith}
use Rattle.sweep_groups.proofs.Gathered.{gather-line}
use Rattle.sweep_groups.proofs.gather.line_costs.Goals as goal

pub loop-back-preserved : goal.loop-back-preserved
loop-back-preserved c =
    let f = c.requires.row_fits in
    rw c.setting_place-place.ensures (gather-line c.requires.kind_fits f.lines_fit f.size c.loop-back.invariant (omega arith))
