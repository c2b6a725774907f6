-- `mark_from` reads the one number of a mark.
use Rattle.common_laws.proofs.Base.{◌≡◌, ◌∙◌}
use Rattle.text.specs.Lines.{part, fields_from}
use Rattle.text.specs.Numeral.{decimal}
use Rattle.netlist_table.specs.Netlist.{lone, mark_of}
use Rattle.netlist_table.specs.Admission.{StandsFor}
use Rattle.netlist_text.proofs.Forms.{stands-none, cursor-behind, number-good, number-bad, lone_none, lone_many, lone_one}
use Rattle.netlist_text.proofs.statements.mark_from.Goals as goal
use Rattle.netlist_text.proofs.statements.mark_from.Goals.{After-decimal}

pub returns-then-line-at : goal.returns-then-line-at
unfolding mark_of
returns-then-line-at c m kind = stands-none _ (rw (lone_none c.args.line.now c.args.at c.if-line-at.true))

pub returns-then-after-line : goal.returns-then-after-line
unfolding mark_of
returns-then-after-line c m kind =
    let s = c.args.line.now in
    let at = c.args.at in
    stands-none _ (rw (lone_many s at c.if-line-at.false _ (cursor-behind s at c.after.ensures c.field-f.ensures) c.if-after-line.true))

-- The field is the line's last.
alone : (c : After-decimal) → lone (fields_from c.args.line.now c.args.at) ≡ decimal (part 44 c.args.line.now c.args.at)
alone c =
    let s = c.args.line.now in
    let at = c.args.at in
    lone_one s at c.if-line-at.false _ (cursor-behind s at c.after.ensures c.field-f.ensures) c.if-after-line.false

pub returns-in_err-l : goal.returns-in_err-l
unfolding mark_of
returns-in_err-l c m kind =
    rw c.from_residual.ensures
    (stands-none _ (rw (alone ((goal.at.returns-in_err-l c).After-decimal) ∙ number-bad c.decimal.ensures c.field-f.ensures c.in_err-l.was)))

pub returns : goal.returns
unfolding mark_of StandsFor
returns c m kind =
    rw (alone ((goal.at.returns c).After-decimal) ∙ number-good c.decimal.ensures c.field-f.ensures c.in_ok-l.was) (record { kind = c.mark.ensures.0 ∙ kind; line = c.mark.ensures.1 })
