-- `column_costs` gathers the columns of the role, unless they are gathered already.
use Rattle.reading.specs.Choice.{pick}
use Rattle.sweep_groups.specs.Tables.{by_role}
use Rattle.sweep_groups.proofs.Gathered.{gather-observed}
use Rattle.sweep_groups.proofs.gather.column_costs.Goals as goal

pub returns-in-Setting : goal.returns-in-Setting
unfolding by_role pick
returns-in-Setting g c = rw (← c.as_role.ensures.columns c.args.pins, c.in-Setting.is) c.line_costs.ensures

pub returns-in-Observing : goal.returns-in-Observing
unfolding by_role pick
returns-in-Observing g c =
    let f = c.requires.row_fits in
    rw (← c.as_role.ensures.columns c.args.pins, c.in-Observing.is, c.observing_place.ensures)
    (gather-observed c.requires.kind_fits f.lines_fit f.size c.line_costs-in-Observing.ensures)
