-- The columns below a column.
use Rattle.common_laws.proofs.Base.{◌*◌, mod-lt, arith, pow_pos, pow_mono}
use Rattle.sweep_wires.specs.Wires.{asked_below}
use Rattle.sweep_wires.proofs.asked_below.Goals as goal

pub any_asks-requires : goal.any_asks-requires
any_asks-requires c =
    let a = c.args in
    record {
      few = c.requires.0;
      within =
          rw c.bit_of.ensures
          (omega (arith, mod-lt a.columns (pow_pos a.column), pow_mono {i = a.column} {j = 2 * a.pins} (omega arith)));
    }

pub returns : goal.returns
unfolding asked_below
returns c = rw (← c.bit_of.ensures) c.any_asks.ensures
