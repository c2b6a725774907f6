-- Over the cells, to one that has not grown.
use Rattle.common_laws.proofs.Base.{sym, ◌∙◌, arith}
use Rattle.calculation.specs.Growth.{grown_cell}
use Rattle.library_growth.proofs.Pairs.{left-on, left_other, left-none}
use Rattle.library_growth.proofs.Held.{count_held_lem, cells_of, all_cells, other-count}
use Rattle.library_growth.proofs.grown_at.Goals as goal

pub returns-then-count-n : goal.returns-then-count-n
returns-then-count-n c cells more h g =
    sym (other-count cells more
    (λ e. c.if-count-n.true (c.count.ensures ∙ count_held_lem _ more g ∙ sym (c.count-n.ensures ∙ count_held_lem _ cells h ∙ e))))

pub loop-cell-init : goal.loop-cell-init
loop-cell-init c cells more h g =
    let old = c.count-n.ensures ∙ count_held_lem _ cells h in
    let new = sym c.if-count-n.false ∙ c.count.ensures ∙ count_held_lem _ more g in
    (old, new, all_cells cells more _ old new)

pub grown_cell-requires : goal.grown_cell-requires
grown_cell-requires c =
    let p = c.requires in
    let i = c.loop-cell.invariant p.0.cells p.1.cells p.0.holds p.1.holds in
    record { olds = p.0; news = p.1; in_old = omega (arith, i.0); in_new = omega (arith, i.1) }

pub returns-then-not-grown_cell : goal.returns-then-not-grown_cell
returns-then-not-grown_cell c cells more h g =
    let i = c.loop-cell.invariant cells more h g in
    sym (i.2 ∙ left_other grown_cell (cells_of cells) (cells_of more) c.loop-cell.cell _ (omega arith)
    (sym (c.grown_cell.ensures cells more h g (omega (arith, i.0)) (omega (arith, i.1))) ∙ c.if-not-grown_cell.true))

pub loop-cell-preserved : goal.loop-cell-preserved
loop-cell-preserved c cells more h g =
    let i = c.loop-cell.invariant cells more h g in (
      i.0,
      i.1,
      i.2 ∙ left-on grown_cell (cells_of cells) (cells_of more) c.loop-cell.cell _ (omega arith)
          (sym (c.grown_cell.ensures cells more h g (omega (arith, i.0)) (omega (arith, i.1))) ∙ c.if-not-grown_cell.false),
    )

pub returns : goal.returns
returns c cells more h g =
    let i = c.loop-cell.invariant cells more h g in
    sym (i.2 ∙ left-none grown_cell (cells_of cells) (cells_of more) c.loop-cell.cell _ (omega arith))
