-- `as_written` goes by the heading that the number tells.
use Rattle.common_laws.proofs.Base.{Bool, true, false, ◌≡◌, ℕ, ◌+◌, ◌*◌, ◌%◌, ◌^◌, eqb, arith}
use Rattle.reading.specs.Choice.{pick}
use Rattle.library_table.specs.declared.Heading.TheVariants.{Plain as plain, Deep as deep}
use Rattle.library_table.specs.Cells.{depth_bits}
use Rattle.library_table.specs.Layout.{heading_told}
use Rattle.plan_marks.specs.Rows.{as_written}
use Rattle.plan_marks.proofs.rows.as_written.Goals as goal

written : (b : Bool) (depth columns : ℕ)
    → (columns * 2 ^ depth_bits (pick b plain deep) % 4294967296 + depth) % 4294967296 ≡ pick b (columns * 2 + depth) (columns * 8 + depth) % 4294967296
unfolding pick depth_bits
written true depth columns = omega arith
written false depth columns = omega arith

pub returns : goal.returns
unfolding as_written heading_told
returns c =
    let a = c.args in
    rw (c.depths-depths.ensures.value, c.told.ensures) (written (eqb a.heading 0) a.depth a.columns)
