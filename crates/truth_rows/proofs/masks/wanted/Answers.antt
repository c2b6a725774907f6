-- `wanted` asks with a weight of 0 for a value, else for a change.
use Rattle.common_laws.proofs.Base.{rules, ne_eqb}
use Rattle.reading.specs.Choice.{pick}
use Rattle.truth_rows.specs.Masks.{ask_at, gives_at}
use Rattle.truth_rows.proofs.masks.wanted.Goals as goal

pub returns-then-weight-eq0 : goal.returns-then-weight-eq0
unfolding ask_at gives_at pick
returns-then-weight-eq0 c =
    let a = c.args in c.passing.ensures (ask_at a.bits.now a.weight a.value) (λ j b h k. rw c.if-weight-eq0.true (search rules))

pub returns : goal.returns
unfolding ask_at pick
returns c =
    let a = c.args in
    c.passing-2.ensures (ask_at a.bits.now a.weight a.value) (λ j b h k. rw (ne_eqb a.weight 0 c.if-weight-eq0.false) (search rules))
