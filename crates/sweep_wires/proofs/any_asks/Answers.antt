use Rattle.common_laws.proofs.Base.{sym}
use Rattle.sweep_wires.proofs.Gone.{rest_row, column-inside, gone-found, gone-on, gone-end}
use Rattle.sweep_wires.proofs.any_asks.Goals as goal

pub asks-requires : goal.asks-requires
asks-requires c = (c.requires.few, column-inside c.loop-rest.invariant.row c.loop-rest-test.true c.lowest-column.ensures)

pub returns-then-asks : goal.returns-then-asks
returns-then-asks c = gone-found c.loop-rest.invariant.row c.loop-rest-test.true c.lowest-column.ensures _ c.loop-rest.invariant.same (sym c.if-asks.ensures)

pub loop-rest-preserved : goal.loop-rest-preserved
loop-rest-preserved c = record {
  row = rw c.others-rest.ensures.value (rest_row c.loop-rest.invariant.row);
  same = rw c.others-rest.ensures.value (gone-on c.loop-rest.invariant.row c.loop-rest-test.true c.lowest-column.ensures _ c.loop-rest.invariant.same (sym c.if-asks.ensures));
}

pub returns : goal.returns
returns c = gone-end _ c.loop-rest-test.false c.loop-rest.invariant.same
