use Rattle.common_laws.proofs.Base.{not, arith}
use Rattle.sweep_wires.specs.Wires.{column_value, asked_below, once_columns}
use Rattle.sweep_wires.proofs.Gone.{rest_row, row_word, column-inside, bits-on, bits-end, bits_most}
use Rattle.sweep_wires.proofs.once.Goals as goal

pub loop-rest-init : goal.loop-rest-init
unfolding once_columns
loop-rest-init c = record { row = c.requires; all = omega arith }

pub kept-left-requires : goal.kept-left-requires
kept-left-requires c = (c.requires.few, column-inside c.loop-rest.invariant.row c.loop-rest-test.true c.lowest-column.ensures)

pub overflow_add-left : goal.overflow_add-left
unfolding once_columns
overflow_add-left c =
    let next = bits-on c.loop-rest.invariant.row c.loop-rest-test.true c.lowest-column.ensures _ c.loop-rest.left c.loop-rest.invariant.all c.kept-left.ensures in
    omega (arith, next, bits_most (λ j. not (asked_below c.args.lines.now c.args.pins c.args.columns (column_value j) j)) c.args.columns 32 (omega arith) (row_word c.requires))

pub loop-rest-preserved : goal.loop-rest-preserved
loop-rest-preserved c = record {
  row = rw c.others-rest.ensures.value (rest_row c.loop-rest.invariant.row);
  all = rw c.others-rest.ensures.value (bits-on c.loop-rest.invariant.row c.loop-rest-test.true c.lowest-column.ensures _ c.loop-rest.left c.loop-rest.invariant.all c.kept-left.ensures);
}

pub returns : goal.returns
returns c = bits-end _ c.loop-rest.left c.loop-rest-test.false c.loop-rest.invariant.all
