-- `bits::others` leaves out one column.
use Rattle.sweep_sums.proofs.Columns.{rest-fewer}
use Rattle.sweep_sums.proofs.bits.others.Goals as goal

pub returns-clause-fewer : goal.returns-clause-fewer
returns-clause-fewer c = rest-fewer 32 c.args.columns c.requires c.ranges.columns.fits
