-- `rows::lesser_row` adds up the row, and keeps the lesser.
use Rattle.common_laws.proofs.Base.{arith}
use Rattle.sweep_sums.specs.Sums.{row_sum}
use Rattle.sweep_sums.proofs.Gone.{gone-columns}
use Rattle.sweep_sums.proofs.rows.lesser_row.Goals as goal

pub returns : goal.returns
unfolding row_sum
returns g c =
    let e = gone-columns c.args.columns (omega (arith, c.requires.few)) in
    rw (← e, ← c.columns_sum.ensures, ← c.plus.ensures) c.lesser.ensures
