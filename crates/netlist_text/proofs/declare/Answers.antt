-- `declare` refuses 20 where the rules ask for it.
use Rattle.common_laws.proofs.Base.{sym, ◌∙◌}
use Rattle.reading.specs.Answer.{answer_read}
use Rattle.netlist_text.proofs.Declared.{declares-refused, declares-read}
use Rattle.netlist_text.proofs.declare.Goals as goal
use Rattle.netlist_text.proofs.declare.Goals.{else-declaring-via-then-declaring+else-some_undeclared, else-declaring-via-else-declaring}

pub returns-then-some_undeclared : goal.returns-then-some_undeclared
unfolding answer_read
returns-then-some_undeclared c cells ss so h =
    rw c.at.ensures
    (declares-refused c.args.rules c.args.table.now ss so h
    (rw (← c.declaring.ensures, ← c.some_undeclared.ensures, c.if-declaring.true, c.if-some_undeclared.true)))

pub returns : goal.returns
unfolding answer_read
returns c cells ss so h =
    declares-read c.args.rules c.args.table.now ss so h
    (rw (← c.declaring.ensures)
    (elim c.else-declaring.branch [
      | else-declaring-via-then-declaring+else-some_undeclared w ↦ rw w.if-declaring.true (sym w.some_undeclared.ensures ∙ w.if-some_undeclared.false)
      | else-declaring-via-else-declaring w ↦ rw w.if-declaring.false
    ]))
