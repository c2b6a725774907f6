-- `rows::row_sum` is the sum of the row's columns. The measure is how many columns the row names: without the lowest they
-- are one fewer.
use Rattle.common_laws.proofs.Base.{ones}
use Rattle.sweep_sums.proofs.rows.+row_sum.Given as goal

abbrev pub decreases-row_sum : goal.decreases-row_sum
decreases-row_sum g l = ones l.columns
