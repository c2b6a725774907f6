-- The entry, then the groups, then the one-wire reading.
use Rattle.common_laws.proofs.Base.{Bool, true, false, not, ◌||◌, List, ◌≡◌, sym, ◌∙◌, ℕ, ◌+◌, ◌≤◌, arith}
use Rattle.sizes.specs.Sizes as Size
use Rattle.sweep_wires.specs.Wires.{cell_both}
use Rattle.library_growth.proofs.Held.{pins-few, cell_room, other-entry, row_lost, rows-kept}
use Rattle.library_growth.proofs.grown_cell.Goals as goal

pub returns-then-not-same_entry : goal.returns-then-not-same_entry
returns-then-not-same_entry c cells more h g i j =
    sym (other-entry _ _ cells more h g c.args.cell i j (sym c.same_entry.ensures ∙ c.if-not-same_entry.true))

pub returns-then-not-keeps_groups : goal.returns-then-not-keeps_groups
returns-then-not-keeps_groups c cells more h g i j =
    sym (row_lost _ _ cells more h g c.args.cell i j (sym c.same_entry.ensures ∙ c.if-not-same_entry.false) (sym c.keeps_groups.ensures ∙ c.if-not-keeps_groups.true))

asked : (n at pins place long : ℕ) → n ≡ pins → at ≡ place → pins ≤ Size.pins → place + Size.cell_words ≤ long → (n ≤ Size.pins) × (at + Size.cell_words ≤ long)
asked n at pins place long e f p q = (omega arith, omega arith)

pub cell_both-requires : goal.cell_both-requires
cell_both-requires c =
    let q = c.requires in
    asked _ _ _ _ _ c.pins_of-pins.ensures c.cell_place-at.ensures
    (pins-few _ q.olds.cells q.olds.holds c.args.cell q.in_old) (cell_room _ q.olds.cells q.olds.holds c.args.cell q.in_old)

pub cell_both-requires-else-cell_both : goal.cell_both-requires-else-cell_both
cell_both-requires-else-cell_both c =
    let q = c.requires in
    asked _ _ _ _ _ c.pins_of-pins.ensures c.cell_place-at.ensures
    (pins-few _ q.olds.cells q.olds.holds c.args.cell q.in_old) (cell_room _ q.news.cells q.news.holds c.args.cell q.in_new)

-- Two answers at the cell's place: the first is enough, or the second decides.
module _ (old new : List ℕ) (n at place : ℕ) (x g : Bool) (e : at ≡ place) (p : x ≡ cell_both old n at) (q : (cell_both old n place || not (cell_both new n place)) ≡ g) where
  first-told : x ≡ true → x ≡ g
  first-told t = t ∙ (rw (← e, ← p, t) at q)

  second-told : (y : Bool) → y ≡ cell_both new n at → x ≡ false → not y ≡ g
  second-told y r t = rw (← e, ← p, t, ← r) at q

pub returns-then-cell_both : goal.returns-then-cell_both
returns-then-cell_both c cells more h g i j =
    first-told c.args.old.now c.args.new.now c.pins_of-pins.result c.cell_place-at.result _ _ _ c.cell_place-at.ensures c.cell_both.ensures
    (rows-kept _ _ cells more h g c.args.cell i j (sym c.same_entry.ensures ∙ c.if-not-same_entry.false) (sym c.keeps_groups.ensures ∙ c.if-not-keeps_groups.false) c.pins_of-pins.result c.pins_of-pins.ensures)
    c.if-cell_both.true

pub returns-else-cell_both : goal.returns-else-cell_both
returns-else-cell_both c cells more h g i j =
    second-told c.args.old.now c.args.new.now c.pins_of-pins.result c.cell_place-at.result _ c.cell_both.result _ c.cell_place-at.ensures c.cell_both.ensures
    (rows-kept _ _ cells more h g c.args.cell i j (sym c.same_entry.ensures ∙ c.if-not-same_entry.false) (sym c.keeps_groups.ensures ∙ c.if-not-keeps_groups.false) c.pins_of-pins.result c.pins_of-pins.ensures)
    _ c.cell_both-else-cell_both.ensures c.if-cell_both.false
