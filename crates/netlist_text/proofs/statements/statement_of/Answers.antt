-- `statement_of` reads the statement of a line by its first field.
use Rattle.common_laws.proofs.Base.{false, ◌&&◌, ◌≡◌, refl, sym, ◌∙◌}
use Rattle.reading.specs.Choice.{pick}
use Rattle.text.specs.Bytes.{bytes}
use Rattle.text.specs.Lines.{same_bytes}
use Rattle.netlist_table.specs.Netlist.{input, output, opened, declaring}
use Rattle.netlist_text.proofs.Forms.{stands-none, statement_by}
use Rattle.netlist_text.proofs.statements.statement_of.Goals as goal
use Rattle.netlist_text.proofs.statements.statement_of.Goals.{Joined-else-declaring, else-declaring-via-then-declaring+else-same-4, else-declaring-via-else-declaring}
use Rattle.netlist_text.proofs.statements.statement_of.Goals.{else-declaring-2-via-then-declaring-2+else-same-5, else-declaring-2-via-else-declaring-2}

pub returns-then-same : goal.returns-then-same
unfolding bytes pick
returns-then-same c cells lib =
    rw (statement_by c.args.rules cells c.args.line.now c.field-f.ensures c.after-at.ensures, ← c.same.ensures, c.if-same.true)
    (c.mark_from.ensures input refl)

pub returns-then-same-2 : goal.returns-then-same-2
unfolding bytes pick
returns-then-same-2 c cells lib =
    rw (statement_by c.args.rules cells c.args.line.now c.field-f.ensures c.after-at.ensures, ← c.same.ensures, c.if-same.false, ← c.same-2.ensures, c.if-same-2.true)
    (c.mark_from-then-same-2.ensures output refl)

pub returns-then-same-3 : goal.returns-then-same-3
unfolding bytes pick
returns-then-same-3 c cells lib =
    rw (statement_by c.args.rules cells c.args.line.now c.field-f.ensures c.after-at.ensures, ← c.same.ensures, c.if-same.false, ← c.same-2.ensures, c.if-same-2.false, ← c.same-3.ensures, c.if-same-3.true)
    (c.gate_from.ensures cells lib)

pub returns-then-same-4 : goal.returns-then-same-4
unfolding bytes pick
returns-then-same-4 c cells lib =
    rw (statement_by c.args.rules cells c.args.line.now c.field-f.ensures c.after-at.ensures, ← c.same.ensures, c.if-same.false, ← c.same-2.ensures, c.if-same-2.false, ← c.same-3.ensures, c.if-same-3.false, ← c.declaring.ensures, c.if-declaring.true, ← c.same-then-declaring.ensures, c.if-same-4.true)
    (c.mark_from-then-same-4.ensures opened refl)

-- The rules know no `open`, or the first field is another.
no_open : (c : Joined-else-declaring) → (declaring c.args.rules && same_bytes c.field-f.result.now (bytes "open")) ≡ false
unfolding bytes
no_open c =
    rw (← c.declaring.ensures)
    (elim c.else-declaring.branch [
      | else-declaring-via-then-declaring+else-same-4 w ↦ rw w.if-declaring.true (sym w.same-then-declaring.ensures ∙ w.if-same-4.false)
      | else-declaring-via-else-declaring w ↦ rw w.if-declaring.false
    ])

pub returns-then-same-5 : goal.returns-then-same-5
unfolding bytes pick
returns-then-same-5 c cells lib =
    rw (statement_by c.args.rules cells c.args.line.now c.field-f.ensures c.after-at.ensures, ← c.same.ensures, c.if-same.false, ← c.same-2.ensures, c.if-same-2.false, ← c.same-3.ensures, c.if-same-3.false, no_open ((goal.at.returns-then-same-5 c).Joined-else-declaring), ← c.declaring-2.ensures, c.if-declaring-2.true, ← c.same-then-declaring-2.ensures, c.if-same-5.true)
    c.range_from.ensures

pub returns : goal.returns
unfolding bytes pick
returns c cells lib =
    let prices : (declaring c.args.rules && same_bytes c.field-f.result.now (bytes "range")) ≡ false =
    rw (← c.declaring-2.ensures)
    (elim c.else-declaring-2.branch [
      | else-declaring-2-via-then-declaring-2+else-same-5 w ↦ rw w.if-declaring-2.true (sym w.same-then-declaring-2.ensures ∙ w.if-same-5.false)
      | else-declaring-2-via-else-declaring-2 w ↦ rw w.if-declaring-2.false
    ])
    in
    stands-none _
    (rw (statement_by c.args.rules cells c.args.line.now c.field-f.ensures c.after-at.ensures, ← c.same.ensures, c.if-same.false, ← c.same-2.ensures, c.if-same-2.false, ← c.same-3.ensures, c.if-same-3.false, no_open ((goal.at.returns c).Joined-else-declaring), prices))
