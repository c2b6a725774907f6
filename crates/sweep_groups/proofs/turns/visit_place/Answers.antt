-- `visit_place` goes by the role: the place of the gate's own line at a value, or of a pin's line observed.
use Rattle.common_laws.proofs.Base.{◌+◌, ◌<◌, arith}
use Rattle.sizes.specs.Sizes as Size
use Rattle.cost.specs.Kind.{kind_index}
use Rattle.reading.specs.Choice.{pick}
use Rattle.sweep_groups.specs.Tables.{by_role}
use Rattle.sweep_groups.proofs.turns.visit_place.Goals as goal

pub setting_place-requires : goal.setting_place-requires
unfolding by_role pick
setting_place-requires g c =
    let b : c.args.i < Size.values = rw (← c.as_role.ensures.count c.args.pins, c.in-Setting.is) at c.requires.1 in
    (c.requires.0.least 0 (omega arith), omega arith)

pub overflow_add-i : goal.overflow_add-i
unfolding by_role pick
overflow_add-i g c = let h : c.args.i < c.args.pins = rw (← c.as_role.ensures.count c.args.pins, c.in-Observing.is) at c.requires.1 in omega arith

pub offset_bounds-lines-i : goal.offset_bounds-lines-i
unfolding by_role pick
offset_bounds-lines-i g c = let h : c.args.i < c.args.pins = rw (← c.as_role.ensures.count c.args.pins, c.in-Observing.is) at c.requires.1 in omega (arith, c.requires.0.count)

pub bounds-lines-i : goal.bounds-lines-i
unfolding by_role pick
bounds-lines-i g c = let h : c.args.i < c.args.pins = rw (← c.as_role.ensures.count c.args.pins, c.in-Observing.is) at c.requires.1 in omega (arith, c.requires.0.count)

pub observing_place-requires : goal.observing_place-requires
unfolding by_role pick
observing_place-requires g c =
    let h : c.args.i < c.args.pins = rw (← c.as_role.ensures.count c.args.pins, c.in-Observing.is) at c.requires.1 in c.requires.0.least (c.args.i + 1) (omega arith)

pub returns-in-Setting : goal.returns-in-Setting
unfolding by_role pick
returns-in-Setting g c = rw (← c.as_role.ensures.place (kind_index c.args.kind) c.args.lines.now c.args.i, c.in-Setting.is) c.setting_place.ensures

pub returns-in-Observing : goal.returns-in-Observing
unfolding by_role pick
returns-in-Observing g c = rw (← c.as_role.ensures.place (kind_index c.args.kind) c.args.lines.now c.args.i, c.in-Observing.is) c.observing_place.ensures
