-- `rows::row_sum` takes the lowest column apart: the rest names one column fewer.
use Rattle.sweep_sums.proofs.Sums.{lowest-inside, lowest-sum, last_sum}
use Rattle.sweep_sums.proofs.rows.+row_sum.Goals as goal

pub bounds-costs-column : goal.bounds-costs-column
bounds-costs-column g t c = lowest-inside c.requires.1 c.requires.0 c.lowest-column.ensures

pub returns-then-rest-eq0 : goal.returns-then-rest-eq0
returns-then-rest-eq0 g t c = last_sum c.requires.1 c.requires.0 c.lowest-column.ensures c.others-rest.ensures.value c.if-rest-eq0.true c.plus.ensures

pub returns : goal.returns
returns g t c = lowest-sum c.requires.1 c.requires.0 c.lowest-column.ensures c.others-rest.ensures.value c.row_sum-sum.ensures c.plus-2.ensures
