-- `range_from` reads three numbers, gathered as pins are.
use Rattle.common_laws.proofs.Base.{refl}
use Rattle.netlist_text.proofs.Forms.{gathered-range, no_range, no_three}
use Rattle.netlist_text.proofs.statements.range_from.Goals as goal

pub returns-in_err-pins : goal.returns-in_err-pins
returns-in_err-pins c = rw c.from_residual.ensures (no_range _ c.in_err-pins.ensures)

pub returns-then-count-ne3 : goal.returns-then-count-ne3
returns-then-count-ne3 c = no_three _ _ c.in_ok-pins.ensures c.if-count-ne3.true

pub returns : goal.returns
returns c = gathered-range _ _ _ c.in_ok-pins.ensures c.if-count-ne3.false refl refl refl
