-- The line of a truth table, by its fields.
use Rattle.common_laws.proofs.Base.{Bool, false, ◌&&◌, List, [], ◌∷◌, Option, none, some, ◌≡◌, refl, sym, ◌∙◌, ℕ, ◌+◌, ◌≤◌, ◌<◌, arith, ltb, eqb, length, get_or}
use Rattle.common_laws.proofs.Base.{eqb-true, eqb-false, ne_eqb, le-ltb, ltb-true, ltb-false}
use Rattle.sizes.specs.Sizes as Size
use Rattle.reading.specs.Choice.{pick}
use Rattle.reading.specs.Refusal.{◌>>◌, weigh}
use Rattle.reading.proofs.Laws.{by_test}
use Rattle.text.specs.Lines.{lines, fields, part, lines_from, next_after}
use Rattle.text.proofs.Laws.{linesFrom_start, linesFrom_line, linesFrom_end, linesFrom_unended, next_after-within, part-within}
use Rattle.library_table.specs.Library.{Fields}
use Rattle.truth_entry.specs.Generated.{table_line, table_after, ended, one_line, generated, judged_into, generated_into}

not-formed : (name n bits : List ℕ) → table_line false name n bits ≡ none
unfolding table_line pick
not-formed name n bits = refl

by_fields : (fs : Fields) → table_after fs ≡ table_line (eqb (length fs) 3) (get_or fs 0 []) (get_or fs 1 []) (get_or fs 2 [])
unfolding table_after
by_fields [] = sym (not-formed [] [] [])
by_fields (name ∷ []) = sym (not-formed name [] [])
by_fields (name ∷ (n ∷ [])) = sym (not-formed name n [])
by_fields (name ∷ (n ∷ (bits ∷ []))) = refl
by_fields (name ∷ (n ∷ (bits ∷ (f ∷ fs)))) =
    rw (ne_eqb (length (name ∷ (n ∷ (bits ∷ (f ∷ fs))))) 3 (λ e. omega arith)) (sym (not-formed name n bits))

two-lines : (l : Option Fields) (ls : List (Option Fields)) → 0 < length ls → one_line (l ∷ ls) ≡ none
unfolding one_line
two-lines l [] h = absurd (omega arith)
two-lines l (k ∷ ls) h = refl

module _ (text : List ℕ) where
  abbrev first : List ℕ
  first = part 10 text 0

  -- From a cursor within the text on there is a line.
  some-line : (at : ℕ) → at < length text → 0 < length (lines_from text at)
  some-line at h =
      by_test (ltb (at + length (part 10 text at)) (length text))
      (λ e. rw (linesFrom_line text at (ltb-true (at + length (part 10 text at)) (length text) e)) (omega arith))
      (λ e.
      let whole : at + length (part 10 text at) ≡ length text =
      omega (arith, ltb-false (at + length (part 10 text at)) (length text) e, part-within 10 text at (omega arith)) in
      rw (linesFrom_unended text at h whole) (omega arith))

  pub line-alone : one_line (lines text) ≡ pick (eqb (length (part 10 text 0) + 1) (length text)) (table_after (fields (part 10 text 0))) none
  unfolding pick one_line ended
  line-alone =
      rw (← linesFrom_start text)
      (by_test (eqb (length first + 1) (length text))
      (λ e. rw e (alone (eqb-true (length first + 1) (length text) e)))
      (λ e. rw e (other (eqb-false (length first + 1) (length text) e))))
    where
      next : next_after text 0 first ≡ length first + 1
      next = next_after-within text 0 first (omega arith) ∙ omega arith

      alone : length first + 1 ≡ length text → one_line (lines_from text 0) ≡ table_after (fields first)
      alone e = rw (linesFrom_line text 0 (omega arith), next, linesFrom_end text (length first + 1) (omega arith)) refl

      other : (length first + 1 ≡ length text → ⊥) → one_line (lines_from text 0) ≡ none
      other d =
          by_test (ltb (length first + 1) (length text))
          (λ e.
          let more : length first + 1 < length text = ltb-true (length first + 1) (length text) e in
          rw (linesFrom_line text 0 (omega arith), next) (two-lines (some (fields first)) (lines_from text (length first + 1)) (some-line (length first + 1) more)))
          (λ e.
          let all : length text ≤ length first + 1 = ltb-false (length first + 1) (length text) e in
          let within : 0 + length first ≤ length text = part-within 10 text 0 (omega arith) in
          by_test (eqb (length text) 0)
          (λ z. rw (linesFrom_end text 0 (omega (arith, eqb-true (length text) 0 z))) refl)
          (λ z. rw (linesFrom_unended text 0 (omega (arith, eqb-false (length text) 0 z)) (omega arith)) refl))

  pub table-in : (formed : Bool) (name n bits : List ℕ)
      → formed ≡ (eqb (length (part 10 text 0) + 1) (length text) && eqb (length (fields (part 10 text 0))) 3)
      → name ≡ get_or (fields (part 10 text 0)) 0 [] → n ≡ get_or (fields (part 10 text 0)) 1 [] → bits ≡ get_or (fields (part 10 text 0)) 2 []
      → one_line (lines text) ≡ table_line formed name n bits
  unfolding pick
  table-in formed name n bits e f g h =
      line-alone
      ∙ by_test (eqb (length first + 1) (length text))
      (λ t. rw (e, f, g, h, t) (by_fields (fields first)))
      (λ t. rw (e, t) (sym (not-formed name n bits)))

-- ---- the whole text

-- The same by the line that was cut off.
pub table_from : (text first name n bits : List ℕ) (formed : Bool) → first ≡ part 10 text 0
    → formed ≡ (eqb (length first + 1) (length text) && eqb (length (fields first)) 3)
    → name ≡ get_or (fields first) 0 [] → n ≡ get_or (fields first) 1 [] → bits ≡ get_or (fields first) 2 []
    → one_line (lines text) ≡ table_line formed name n bits
table_from text first name n bits formed e f g h k = table-in text formed name n bits (rw e at f) (rw e at g) (rw e at h) (rw e at k)

pub text-short : (text : List ℕ) (room : ℕ) → length text ≤ Size.text_bytes → generated_into text room ≡ judged_into room (one_line (lines text))
unfolding generated_into generated judged_into weigh pick ◌>>◌
text-short text room h = rw (le-ltb Size.text_bytes (length text) h) refl
