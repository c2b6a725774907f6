-- One turn of a walk over the fields of a line, and fields by their place.
use Rattle.common_laws.proofs.Base.{true, false, ◌&&◌, List, [], ◌∷◌, ◌≡◌, sym, ap, ◌∙◌, ℕ, suc, ◌+◌, ◌≤◌, ◌<◌, arith, leb, ltb, eqb, length, get_or, drop, length-drop, drop-drop}
use Rattle.common_laws.proofs.Base.{get_or-drop, leb-true, leb-false, ltb-true, ltb-false, eq-eqb, ne_eqb}
use Rattle.text.specs.Lines.{fields, fields_from, part, next_after}
use Rattle.reading.proofs.Laws.{by_test}
use Rattle.text.proofs.Laws.{fields_from-start, fields_from-step, fields_from-end, next_after-within, next_after-past}
use Rattle.text.proofs.Steps.{part-past}

drop-next : {A : Type 0} (x : A) (xs ys : List A) (i : ℕ) → x ∷ xs ≡ drop i ys → xs ≡ drop (i + 1) ys
drop-next x xs ys i e = ap (λ l. drop 1 l) e ∙ drop-drop 1 i ys

drop_past : {A : Type 0} (ys : List A) (i : ℕ) → drop i ys ≡ [] → drop (i + 1) ys ≡ []
drop_past ys i e = sym (drop-drop 1 i ys) ∙ ap (λ l. drop 1 l) e

-- A cursor past the end says that there are no more fields, and one within that there is one.
module _ (line : List ℕ) (at i : ℕ) (e : fields_from line at ≡ drop i (fields line)) where
  fields-few : length line < at → length (fields line) ≤ i
  fields-few past =
      let none : length (drop i (fields line)) ≡ 0 = ap (λ (l : List (List ℕ)). length l) (sym e ∙ fields_from-end line at past) in
      omega (arith, length-drop i (fields line))

  fields-more : at ≤ length line → i < length (fields line)
  fields-more within =
      let one : length (drop i (fields line)) ≡ suc (length (fields_from line (next_after line at (part 44 line at)))) = ap (λ (l : List (List ℕ)). length l) (sym e ∙ fields_from-step line at within) in
      omega (arith, length-drop i (fields line))

module _ (line : List ℕ) (at : ℕ) where
  -- The cursor moves on by at least one.
  pub cursor-on : at ≤ length line → at < next_after line at (part 44 line at)
  cursor-on h = omega (arith, next_after-within line at (part 44 line at) h)

  cursor-next : (i : ℕ) → fields_from line at ≡ drop i (fields line) → fields_from line (next_after line at (part 44 line at)) ≡ drop (i + 1) (fields line)
  cursor-next i e =
      by_test (leb at (length line))
      (λ t. drop-next (part 44 line at) (fields_from line (next_after line at (part 44 line at))) (fields line) i (sym (fields_from-step line at (leb-true at (length line) t)) ∙ e))
      (λ t.
      let past : length line < at = leb-false at (length line) t in
      rw (next_after-past line at (part 44 line at) past) (fields_from-end line at past ∙ sym (drop_past (fields line) i (sym e ∙ fields_from-end line at past))))

  -- The field at a cursor; empty past the end.
  part_first : part 44 line at ≡ get_or (fields_from line at) 0 []
  part_first =
      by_test (leb at (length line))
      (λ t. rw (fields_from-step line at (leb-true at (length line) t)))
      (λ t.
      let past : length line < at = leb-false at (length line) t in
      rw (fields_from-end line at past) (part-past 44 line at (omega arith)))

  part_nth : (i : ℕ) → fields_from line at ≡ drop i (fields line) → part 44 line at ≡ get_or (fields line) i []
  part_nth i e =
      part_first
      ∙ ap (λ (l : List (List ℕ)). get_or l 0 []) e
      ∙ get_or-drop i (fields line) 0 []
      ∙ ap (λ (k : ℕ). get_or (fields line) k []) (native.Mathlib.Nat.add-zero i)

  -- The field at a cursor is the last one.
  last_field : (i : ℕ) → fields_from line at ≡ drop i (fields line)
      → (leb at (length line) && ltb (length line) (next_after line at (part 44 line at))) ≡ eqb (length (fields line)) (i + 1)
  last_field i e = by_test (leb at (length line)) within past
    where
      next : ℕ
      next = next_after line at (part 44 line at)

      within : leb at (length line) ≡ true → (leb at (length line) && ltb (length line) next) ≡ eqb (length (fields line)) (i + 1)
      within t =
          let more : i < length (fields line) = fields-more line at i e (leb-true at (length line) t) in
          by_test (ltb (length line) next)
          (λ u.
          let few : length (fields line) ≤ i + 1 = fields-few line next (i + 1) (cursor-next i e) (ltb-true (length line) next u) in
          rw (t, u) (sym (eq-eqb (length (fields line)) (i + 1) (omega arith))))
          (λ u.
          let others : i + 1 < length (fields line) = fields-more line next (i + 1) (cursor-next i e) (ltb-false (length line) next u) in
          rw (t, u) (sym (ne_eqb (length (fields line)) (i + 1) (λ q. omega arith))))

      past : leb at (length line) ≡ false → (leb at (length line) && ltb (length line) next) ≡ eqb (length (fields line)) (i + 1)
      past t =
          let few : length (fields line) ≤ i = fields-few line at i e (leb-false at (length line) t) in
          rw t (sym (ne_eqb (length (fields line)) (i + 1) (λ q. omega arith)))

-- The same, of a field and a cursor behind it that a call answered.
module _ (line f : List ℕ) (at next i : ℕ) (e : fields_from line at ≡ drop i (fields line)) (cut : f ≡ part 44 line at) where
  pub field_nth : f ≡ get_or (fields line) i []
  field_nth = cut ∙ part_nth line at i e

  module _ (on : next ≡ next_after line at f) where
    pub field_next : fields_from line next ≡ drop (i + 1) (fields line)
    field_next = rw (on, cut) (cursor-next line at i e)

    pub field_last : (leb at (length line) && ltb (length line) next) ≡ eqb (length (fields line)) (i + 1)
    field_last = rw (on, cut) (last_field line at i e)

-- A line has a field.
pub fields-some : (line : List ℕ) → 0 < length (fields line)
fields-some line = fields-more line 0 0 (fields_from-start line) (omega arith)
