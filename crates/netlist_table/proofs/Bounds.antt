-- A refused netlist text, or list of statements, is told by a number of its own, and a line.
use Rattle.common_laws.proofs.Base.{List, [], ◌∷◌, ◌++◌, Option, ◌≡◌, refl, ap, ℕ, suc, ◌+◌, ◌≤◌, arith, length}
use Rattle.reading.specs.Numbers as No
use Rattle.reading.specs.Refusal.{read, form}
use Rattle.reading.proofs.Bounds.{Within, text_number, within_bind, within-then, within-form, within-weigh}
use Rattle.text.specs.Lines.{lines}
use Rattle.text.proofs.Laws.{length-lines}
use Rattle.library_table.specs.Cells.{Cell}
use Rattle.library_table.specs.Library.{Fields}
use Rattle.netlist_table.specs.declared.Rules.{Rules}
use Rattle.netlist_table.specs.Netlist.{Statement, causes, admit, admitted, line_forms, text_statements, declared, netlist}

forms_length : (rules : Rules) (cells : List Cell) (ls : List (Option Fields)) → length (line_forms rules cells ls) ≡ length ls
unfolding line_forms
forms_length rules cells [] = refl
forms_length rules cells (l ∷ ls) = ap suc (forms_length rules cells ls)

module _ (n : ℕ) where
  pub admitted-within : (line : ℕ) (cells : List Cell) (ss : List Statement) (ws : List (Option Statement)) → line + length ws ≤ n
      → Within text_number n (admitted line cells ss ws)
  unfolding admitted admit causes
  admitted-within line cells ss [] k = tt
  admitted-within line cells ss (w ∷ ws) k =
      within_bind text_number n (form No.netlist_form line w) _ (within-form text_number n No.netlist_form line w refl (omega arith))
      (λ s. within-then text_number n (admit line cells ss s) _ (within-weigh text_number n line _ (omega arith) refl)
      (admitted-within (suc line) cells (ss ++ (s ∷ [])) ws (omega arith)))

  pub netlist-within : (rules : Rules) (cells : List Cell) (t : List ℕ) → length t + 1 ≤ n → Within text_number n (netlist rules cells t)
  unfolding netlist text_statements declared
  netlist-within rules cells t k =
      within_bind text_number n (text_statements rules cells t) (declared rules)
      (admitted-within 1 cells [] (line_forms rules cells (lines t)) (omega (arith, length-lines t, forms_length rules cells (lines t))))
      (λ ss. within-then text_number n _ (read ss) (within-weigh text_number n 0 _ (omega arith) refl) tt)
