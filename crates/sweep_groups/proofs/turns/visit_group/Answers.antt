-- `visit_group` goes by the role.
use Rattle.cost.specs.Kind.{kind_index}
use Rattle.reading.specs.Choice.{pick}
use Rattle.sweep_groups.specs.Tables.{by_role}
use Rattle.sweep_groups.proofs.turns.visit_group.Goals as goal

pub returns-in-Setting : goal.returns-in-Setting
unfolding by_role pick
returns-in-Setting g c = rw (← c.as_role.ensures.group (kind_index c.args.kind) c.args.i, c.in-Setting.is, c.index.ensures)

pub returns-in-Observing : goal.returns-in-Observing
unfolding by_role pick
returns-in-Observing g c = rw (← c.as_role.ensures.group (kind_index c.args.kind) c.args.i, c.in-Observing.is, c.index-in-Observing.ensures)
