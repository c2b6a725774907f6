-- `gate_from` reads a gate, field by field.
use Rattle.common_laws.proofs.Base.{true, ◌≡◌, refl, sym, ap, ◌∙◌, List, ℕ}
use Rattle.text.specs.Lines.{part, next_after}
use Rattle.text.specs.Numeral.{name_form}
use Rattle.library_table.specs.Library.{cell_named}
use Rattle.netlist_text.proofs.Forms.{stands-none, cursor-behind, number-good, number-bad, gate-none, gate-name-bad, gate_no_line}
use Rattle.netlist_text.proofs.Forms.{gate-line-bad, gate-lines, gathered-gate, no_pins}
use Rattle.netlist_text.proofs.statements.gate_from.Goals as goal
use Rattle.netlist_text.proofs.statements.gate_from.Goals.{After-after-next}

pub returns-then-line-at : goal.returns-then-line-at
returns-then-line-at c cells lib = stands-none _ (gate-none cells c.args.line.now c.args.at c.if-line-at.true)

pub returns-then-not-is_name : goal.returns-then-not-is_name
returns-then-not-is_name c cells lib =
    stands-none _
    (gate-name-bad cells c.args.line.now c.args.at c.if-line-at.false
    (rw (← c.field-name.ensures) (sym c.is_name.ensures ∙ c.if-not-is_name.true)))

-- The name has a name's form.
named : (c : After-after-next) → name_form (part 44 c.args.line.now c.args.at) ≡ true
named c = rw (← c.field-name.ensures) (sym c.is_name.ensures ∙ c.if-not-is_name.false)

-- The cursor behind it.
behind : (c : After-after-next)
    → c.after-next.result ≡ next_after c.args.line.now c.args.at (part 44 c.args.line.now c.args.at)
behind c = cursor-behind c.args.line.now c.args.at c.after-next.ensures c.field-name.ensures

pub returns-then-line-next : goal.returns-then-line-next
returns-then-line-next c cells lib =
    let n = (goal.at.returns-then-line-next c).After-after-next in
    stands-none _ (gate_no_line cells c.args.line.now c.args.at c.if-line-at.false (named n) _ (behind n) c.if-line-next.true)

pub returns-in_err-l : goal.returns-in_err-l
returns-in_err-l c cells lib =
    let n = (goal.at.returns-in_err-l c).After-after-next in
    rw c.from_residual.ensures
    (stands-none _
    (gate-line-bad cells c.args.line.now c.args.at c.if-line-at.false (named n) _ (behind n) c.if-line-next.false
    (number-bad c.decimal.ensures c.field-f.ensures c.in_err-l.was)))

pub returns-in_err-pins : goal.returns-in_err-pins
returns-in_err-pins c cells lib =
    let s = c.args.line.now in
    let n = (goal.at.returns-in_err-pins c).After-after-next in
    let from = cursor-behind s c.after-next.result c.after.ensures c.field-f.ensures in
    rw (
      c.from_residual-in_err-pins.ensures,
      gate-lines cells s c.args.at c.if-line-at.false (named n) _ (behind n) c.if-line-next.false c.in_ok-l.l
          (number-good c.decimal.ensures c.field-f.ensures c.in_ok-l.was),
    )
    (rw (← from) (no_pins _ c.in_ok-l.l _ c.in_err-pins.ensures))

pub returns : goal.returns
returns c cells lib =
    let s = c.args.line.now in
    let n = (goal.at.returns c).After-after-next in
    let from = cursor-behind s c.after-next.result c.after.ensures c.field-f.ensures in
    let cell =
    c.find-cell.ensures ∙ lib.named _ ∙ ap (λ (x : List ℕ). cell_named x cells) c.field-name.ensures
    in
    rw
    (gate-lines cells s c.args.at c.if-line-at.false (named n) _ (behind n) c.if-line-next.false c.in_ok-l.l
    (number-good c.decimal.ensures c.field-f.ensures c.in_ok-l.was))
    (rw (← from) (gathered-gate _ c.in_ok-l.l _ _ _ c.in_ok-pins.ensures refl cell refl refl refl refl))
