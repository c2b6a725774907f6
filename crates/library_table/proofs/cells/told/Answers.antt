-- `told` hands back the table, or an empty one.
use Rattle.common_laws.proofs.Base.{sym, ◌∙◌}
use Rattle.library_table.proofs.Names.{tells-fit, tells_none}
use Rattle.library_table.proofs.cells.told.Goals as goal

pub returns-then-fit : goal.returns-then-fit
returns-then-fit c = tells-fit _ (sym c.fit.ensures ∙ c.if-fit.true)

pub returns-else-fit : goal.returns-else-fit
returns-else-fit c = tells_none _ (sym c.fit.ensures ∙ c.if-fit.false)
