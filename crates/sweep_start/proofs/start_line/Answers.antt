-- `start_line` stores the six numbers of a line, one behind the other.
use Rattle.common_laws.proofs.Base.{refl, ◌*◌}
use Rattle.sizes.specs.Sizes as Size
use Rattle.sweep_start.specs.Start.{line_start}
use Rattle.sweep_start.proofs.StartLines.{six_stores}
use Rattle.sweep_start.proofs.start_line.Goals as goal

pub returns : goal.returns
unfolding line_start
returns c =
    rw (
      six_stores c.args.numbers.now (c.args.line * Size.costs) c.first-cc.result c.first-cc.result c.first-sc.result c.first-sc.result c.first-o.result c.first-o.result,
      c.first-cc.ensures,
      c.first-sc.ensures,
      c.first-o.ensures,
      c.driver_of-driver.ensures,
      c.output_of-output.ensures,
      c.line_price.ensures,
    )
    refl
