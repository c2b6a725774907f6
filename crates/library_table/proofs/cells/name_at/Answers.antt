-- `name_at` asks for the length, and then for the bytes.
use Rattle.common_laws.proofs.Base.{◌≡◌, sym, ◌∙◌, eq-eqb, ne_eqb, length, get_or}
use Rattle.sizes.specs.Places.{cell_place}
use Rattle.library_table.specs.Layout.{name_at}
use Rattle.library_table.proofs.cells.name_at.Goals as goal

pub returns-then-word-name : goal.returns-then-word-name
unfolding name_at
returns-then-word-name c =
    let a = c.args in
    let same : get_or a.table.now (cell_place a.cell) 0 ≡ length a.name.now = rw c.cell_place.ensures at (sym c.word.ensures ∙ c.if-word-name.true) in
    rw (eq-eqb (get_or a.table.now (cell_place a.cell) 0) (length a.name.now) same) c.bytes_at.ensures

pub returns-else-word-name : goal.returns-else-word-name
unfolding name_at
returns-else-word-name c =
    let a = c.args in
    let other : get_or a.table.now (cell_place a.cell) 0 ≡ length a.name.now → ⊥ = λ e. c.if-word-name.false (c.word.ensures ∙ rw c.cell_place.ensures e) in
    rw (ne_eqb c.word.result (length a.name.now) c.if-word-name.false, ne_eqb (get_or a.table.now (cell_place a.cell) 0) (length a.name.now) other)
