-- `rows::columns_sum` is the sum of the columns that the row names.
use Rattle.sweep_sums.proofs.Sums.{above-none, no_sum, lowest-inside, lowest-sum, last_sum}
use Rattle.sweep_sums.proofs.rows.columns_sum.Goals as goal

pub returns-then-columns-eq0 : goal.returns-then-columns-eq0
returns-then-columns-eq0 g c = rw c.if-columns-eq0.true (no_sum c.args.costs.now)

pub bounds-costs-column : goal.bounds-costs-column
bounds-costs-column g c = lowest-inside c.requires (above-none c.if-columns-eq0.false) c.lowest-column.ensures

pub returns-then-rest-eq0 : goal.returns-then-rest-eq0
returns-then-rest-eq0 g c = last_sum c.requires (above-none c.if-columns-eq0.false) c.lowest-column.ensures c.others-rest.ensures.value c.if-rest-eq0.true c.plus.ensures

pub returns : goal.returns
returns g c = lowest-sum c.requires (above-none c.if-columns-eq0.false) c.lowest-column.ensures c.others-rest.ensures.value c.row_sum.ensures c.plus-2.ensures
