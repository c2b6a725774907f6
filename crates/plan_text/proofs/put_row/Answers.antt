-- `put_row` puts the word for an input, or the row in octal.
use Rattle.common_laws.proofs.Base.{arith, eq-eqb, ne_eqb}
use Rattle.text.specs.Bytes.{bytes}
use Rattle.reading.specs.Choice.{pick}
use Rattle.plan_text.specs.PlanText.{input_text}
use Rattle.plan_text.specs.Writers.{goal_row}
use Rattle.plan_text.proofs.put_row.Goals as goal

pub returns-then-visit-eq0 : goal.returns-then-visit-eq0
unfolding goal_row input_text bytes pick
returns-then-visit-eq0 c = rw (eq-eqb c.args.visit 0 (omega arith)) c.put_bytes.ensures

pub returns-else-visit-eq0 : goal.returns-else-visit-eq0
unfolding goal_row pick
returns-else-visit-eq0 c = rw (ne_eqb c.args.visit 0 (λ e. omega arith)) c.put_octal.ensures
