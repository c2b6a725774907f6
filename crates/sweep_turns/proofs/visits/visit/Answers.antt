-- The lesser of the number and the least row sum is stored.
use Rattle.common_laws.proofs.Base.{refl, ◌∙◌, ◌<◌, arith, length}
use Rattle.cost.specs.Kind.{kind_index}
use Rattle.sweep_groups.specs.Tables.{read_row, group_visit}
use Rattle.sweep_groups.proofs.Gathered.{group_same, read-narrow}
use Rattle.sweep_turns.proofs.VisitsLaws.{visited, led-still}
use Rattle.sweep_turns.proofs.visits.visit.Goals as goal

-- No sum can be below the number.
pub returns-then-lowest_already : goal.returns-then-lowest_already
unfolding group_visit
returns-then-lowest_already g c o led =
    let a = c.args in
    let inside : a.place < length a.numbers.now = omega arith in
    led-still (g.R.AsRole.number a.role) (group_visit a.wired (kind_index a.kind) a.lines.now a.pins a.library.now a.group a.place) a.numbers.now inside refl led (c.lowest_already.ensures c.if-lowest_already.true)

pub returns : goal.returns
unfolding group_visit
returns g c o led =
    let a = c.args in
    let inside : a.place < length a.numbers.now = omega arith in
    let sum =
    group_same o.gathered (read_row a.wired a.lines.now a.pins) (read-narrow a.wired a.lines.now a.pins o.count (omega (arith, o.few)))
    a.library.now a.group o.few o.group_fits in
    visited (group_visit a.wired (kind_index a.kind) a.lines.now a.pins a.library.now a.group a.place) a.numbers.now inside c.store.ensures
    (c.lesser_of-sum.ensures.comes_to ∙ rw (c.least_of-least.ensures.comes_to, sum))
