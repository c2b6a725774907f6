-- `least_of` reads the rows as was decided for the gate.
use Rattle.sweep_groups.specs.Tables.{read_row}
use Rattle.sweep_groups.proofs.least_of.Goals as goal

pub returns : goal.returns
unfolding read_row
returns c = rw c.if-wired.false c.least_sum.ensures
