-- `is_dominated` tests the columns, then the depth.
use Rattle.common_laws.proofs.Base.{eq-eqb, ne_eqb}
use Rattle.sweep_groups.specs.Sums.{dominated}
use Rattle.sweep_groups.proofs.is_dominated.Goals as goal

pub returns-then-columns-others : goal.returns-then-columns-others
unfolding dominated
returns-then-columns-others c = rw (eq-eqb _ _ c.if-columns-others.true)

pub returns-else-columns-others : goal.returns-else-columns-others
unfolding dominated
returns-else-columns-others c = rw (ne_eqb _ _ c.if-columns-others.false)
