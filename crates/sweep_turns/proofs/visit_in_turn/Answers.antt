-- The group of the turn is visited.
use Rattle.common_laws.proofs.Base.{◌≡◌, ap, ap₂, ℕ, ◌+◌, ◌*◌}
use Rattle.sizes.specs.Sizes as Size
use Rattle.cost.specs.Kind.{kind_index}
use Rattle.sweep_groups.specs.Roles.{role_index}
use Rattle.sweep_groups.specs.Tables.{group_visit, role_columns}
use Rattle.sweep_groups.specs.Fits.{GroupFits}
use Rattle.sweep_groups.proofs.Roles.{visit-low, place_inside, place-kind}
use Rattle.sweep_turns.specs.Order.{turn_group}
use Rattle.sweep_turns.proofs.Turns.{visit-fits, costs-of, renewed-same}
use Rattle.sweep_turns.proofs.visit_in_turn.Goals.{After-visit_group}
use Rattle.sweep_turns.proofs.visit_in_turn.Goals as goal

pub visit_group-requires : goal.visit_group-requires
visit_group-requires c =
    let a = c.args in
    visit-low (role_index a.role) (kind_index a.kind) a.lines.now a.pins a.i c.requires.kind_fits c.requires.lines_fit c.requires.turn

group_is : (c : After-visit_group)
    → let a = c.args in
    a.cell + Size.groups_at + c.visit_group.result * Size.group_words ≡ turn_group (role_index a.role) (kind_index a.kind) a.cell a.i
group_is c = ap (λ (g : ℕ). c.args.cell + Size.groups_at + g * Size.group_words) c.visit_group.ensures

rows_fit : (c : After-visit_group)
    → let a = c.args in
    GroupFits a.library.now (a.cell + Size.groups_at + c.visit_group.result * Size.group_words) (role_columns (role_index a.role) a.pins)
rows_fit c = rw (group_is c) c.requires.rows

pub visit-requires : goal.visit-requires
visit-requires c =
    let s = c.requires in
    let a = c.args in
    let role = role_index a.role in
    let kind = kind_index a.kind in
    visit-fits role s.kind_fits s.lines_fit (rows_fit (goal.at.visit-requires c).After-visit_group) s.size s.gathered s.setting
    (rw c.visit_place-place.ensures (place_inside role kind a.lines.now a.pins a.i s.kind_fits s.lines_fit s.turn))
    (rw c.visit_place-place.ensures (place-kind role kind a.lines.now a.pins a.i s.kind_fits s.lines_fit s.turn))

pub returns : goal.returns
returns c led =
    let s = c.requires in
    let a = c.args in
    let g = (goal.at.returns c).After-visit_group in
    renewed-same (ap₂ (group_visit a.wired (kind_index a.kind) a.lines.now a.pins a.library.now) (group_is g) c.visit_place-place.ensures)
    (c.visit.ensures (costs-of (role_index a.role) s.kind_fits s.lines_fit (rows_fit g) s.size s.gathered))
    led
