-- `declare` asks the table for a line that nothing declares.
use Rattle.common_laws.proofs.Base.{sym, ◌∙◌}
use Rattle.reading.specs.Choice.{pick}
use Rattle.analysis_records.specs.Walk.{declared_by}
use Rattle.analysis_records.proofs.declare.Goals as goal

pub returns-then-some_undeclared : goal.returns-then-some_undeclared
unfolding declared_by pick
returns-then-some_undeclared c = rw (sym c.some_undeclared.ensures ∙ c.if-some_undeclared.true, c.at.ensures)

pub returns-else-some_undeclared : goal.returns-else-some_undeclared
unfolding declared_by pick
returns-else-some_undeclared c = rw (sym c.some_undeclared.ensures ∙ c.if-some_undeclared.false)
