-- `gate_cause` weighs a gate's own numbers.
use Rattle.common_laws.proofs.Base.{◌≡◌, ◌∙◌, sym, ◌<◌, List, length}
use Rattle.library_table.specs.Cells.{Cell, no_cell}
use Rattle.library_table.specs.Layout.{CellsTold}
use Rattle.reading.specs.Cause.{refusal_number}
use Rattle.netlist_table.specs.Netlist.{pins_at}
use Rattle.netlist_table.proofs.Causes.{pins_at-cell}
use Rattle.netlist_admission.proofs.GateCauses.{lines-bad, cell-unknown, pins-differ, none-holds}
use Rattle.netlist_admission.proofs.causes.gate_cause.Goals as goal
use Rattle.netlist_admission.proofs.causes.gate_cause.Goals.{then-line_bad-via-then-line_bad, then-line_bad-via-else-line_bad+then-s, After-pins_of}

pub returns-then-line_bad : goal.returns-then-line_bad
unfolding refusal_number
returns-then-line_bad c cells g lib is =
    let s = c.args.s in
    lines-bad cells g s is
    (rw (← c.line_bad.ensures)
    (elim c.then-line_bad.branch [
      | then-line_bad-via-then-line_bad w ↦ rw w.if-line_bad.true
      | then-line_bad-via-else-line_bad+then-s w ↦ rw (w.if-line_bad.false, w.if-s.true)
    ]))

pub returns-then-count-s : goal.returns-then-count-s
unfolding refusal_number
returns-then-count-s c cells g lib is =
    cell-unknown cells g c.args.s is (rw (← c.line_bad.ensures, c.if-line_bad.false, c.if-s.false))
    (rw (← lib.count, ← c.count.ensures) c.if-count-s.true)

-- What the table tells of a known cell's pins.
pins : (c : After-pins_of) (cells : List Cell) → CellsTold c.args.library.now cells → c.args.s.cell < length cells
    → c.pins_of.result ≡ pins_at cells c.args.s.cell
pins c cells lib known =
    let k = c.args.s.cell in c.pins_of.ensures ∙ lib.pins k known no_cell ∙ sym (pins_at-cell cells k no_cell known)

known : (c : After-pins_of) (cells : List Cell) → CellsTold c.args.library.now cells → c.args.s.cell < length cells
known c cells lib = rw (← lib.count, ← c.count.ensures) c.if-count-s.false

pub returns-then-pins_of-s : goal.returns-then-pins_of-s
unfolding refusal_number
returns-then-pins_of-s c cells g lib is =
    let a = (goal.at.returns-then-pins_of-s c).After-pins_of in
    pins-differ cells g c.args.s is (rw (← c.line_bad.ensures, c.if-line_bad.false, c.if-s.false)) (known a cells lib)
    (rw (← pins a cells lib (known a cells lib)) c.if-pins_of-s.true)

pub returns : goal.returns
unfolding refusal_number
returns c cells g lib is =
    let a = (goal.at.returns c).After-pins_of in
    none-holds cells g c.args.s is (rw (← c.line_bad.ensures, c.if-line_bad.false, c.if-s.false)) (known a cells lib)
    (rw (← pins a cells lib (known a cells lib)) c.if-pins_of-s.false)
