use Rattle.common_laws.proofs.Base.{Bool, List, ◌≡◌, refl, sym, ℕ, ◌-◌, ◌%◌, arith}
use Rattle.sweep_wires.specs.Wires.{column_value, asked_below, both_columns}
use Rattle.sweep_wires.proofs.Gone.{rest_row, column-inside, gone-found, gone-on, gone-end}
use Rattle.sweep_wires.proofs.needs_both.Goals as goal

-- The value other than the column's.
other : (lines : List ℕ) (pins columns j : ℕ) {b : Bool} → b ≡ asked_below lines pins columns (j % 2) j → asked_below lines pins columns (1 - column_value j) j ≡ b
other lines pins columns j h = let e : 1 - (1 - j % 2) ≡ j % 2 = omega arith in rw e (sym h)

pub loop-rest-init : goal.loop-rest-init
unfolding both_columns
loop-rest-init c = record { row = c.requires; same = refl }

pub asked_below-requires : goal.asked_below-requires
asked_below-requires c = (c.requires.few, column-inside c.loop-rest.invariant.row c.loop-rest-test.true c.lowest-column.ensures)

pub returns-then-asked_below : goal.returns-then-asked_below
returns-then-asked_below c = gone-found c.loop-rest.invariant.row c.loop-rest-test.true c.lowest-column.ensures _ c.loop-rest.invariant.same (other _ _ _ _ c.if-asked_below.ensures)

pub loop-rest-preserved : goal.loop-rest-preserved
loop-rest-preserved c = record {
  row = rw c.others-rest.ensures.value (rest_row c.loop-rest.invariant.row);
  same = rw c.others-rest.ensures.value (gone-on c.loop-rest.invariant.row c.loop-rest-test.true c.lowest-column.ensures _ c.loop-rest.invariant.same (other _ _ _ _ c.if-asked_below.ensures));
}

pub returns : goal.returns
returns c = gone-end _ c.loop-rest-test.false c.loop-rest.invariant.same
