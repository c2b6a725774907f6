-- A refused library text is told by a number of its own, and a line, at most the line after the last.
use Rattle.common_laws.proofs.Base.{List, [], ◌∷◌, Option, refl, ℕ, suc, ◌+◌, ◌≤◌, arith, length}
use Rattle.reading.specs.Numbers as No
use Rattle.reading.specs.Refusal.{read, weigh, form}
use Rattle.reading.proofs.Bounds.{Within, text_number, within_bind, within-then, within-form, within-weigh}
use Rattle.text.specs.Lines.{lines}
use Rattle.text.proofs.Laws.{length-lines}
use Rattle.library_table.specs.Cells.{Cell}
use Rattle.library_table.specs.declared.Heading.{Heading}
use Rattle.library_table.specs.declared.Word.{Word}
use Rattle.library_table.specs.Library.{Fields, Place, outside, inside, Reading, rows_after, row_line, name_after, name_line, end_after, library_line, library_end, library_from, library}
use Rattle.library_table.specs.declared.Wanted.TheVariants.{Rows as word_line, End as end_line}

module _ (n : ℕ) where
  module _ (line : ℕ) (k : line ≤ n) where
    well_formed_lem : {A : Type 0} (o : Option A) → Within text_number n (form No.library_form line o)
    well_formed_lem o = within-form text_number n No.library_form line o refl k

    row_within : (h : Heading) (w : Word) (pins : ℕ) (fs : Fields) → Within text_number n (row_line line h w pins fs)
    unfolding row_line
    row_within h w pins fs =
        within_bind text_number n (form No.library_form line (rows_after h w fs)) _ (well_formed_lem (rows_after h w fs))
        (λ gs. within-then text_number n (weigh line _) (read gs) (within-weigh text_number n line _ k refl) tt)

    name-within : (cells : List Cell) (fs : Fields) → Within text_number n (name_line line cells fs)
    unfolding name_line
    name-within cells fs =
        within_bind text_number n (form No.library_form line (name_after fs)) _ (well_formed_lem (name_after fs))
        (λ h. within-then text_number n (weigh line _) (read h) (within-weigh text_number n line _ k refl) tt)

    line-within : (cells : List Cell) (p : Place) (fs : Fields) → Within text_number n (library_line line cells p fs)
    unfolding library_line
    line-within cells outside fs = within_bind text_number n (name_line line cells fs) _ (name-within cells fs) (λ h. tt)
    line-within cells (inside (word_line w) c) fs = within_bind text_number n (row_line line c.heading w c.pins fs) _ (row_within c.heading w c.pins fs) (λ gs. tt)
    line-within cells (inside end_line c) fs = within-then text_number n (form No.library_form line (end_after fs)) _ (well_formed_lem (end_after fs)) tt

    end-within : (cells : List Cell) (p : Place) → Within text_number n (library_end line cells p)
    unfolding library_end
    end-within cells outside = tt
    end-within cells (inside wanted c) = (refl, k)

  from_within : (line : ℕ) (r : Reading) (ls : List (Option Fields)) → line + length ls ≤ n → Within text_number n (library_from line r ls)
  unfolding library_from
  from_within line r [] k = end-within line (omega arith) r.cells r.place
  from_within line r (l ∷ ls) k =
      within_bind text_number n (form No.library_form line l) _ (well_formed_lem line (omega arith) l)
      (λ fs. within_bind text_number n (library_line line r.cells r.place fs) _ (line-within line (omega arith) r.cells r.place fs)
      (λ next. from_within (suc line) next ls (omega arith)))

  pub library-within : (t : List ℕ) → length t + 1 ≤ n → Within text_number n (library t)
  unfolding library
  library-within t k = from_within 1 _ (lines t) (omega (arith, length-lines t))
