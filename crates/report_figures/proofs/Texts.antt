-- Closed instances of the definitions, by computation: what a text, a field and a refusal come to.
use Rattle.common_laws.proofs.Base.{true, false, [], ◌∷◌, Option, none, some, ◌≡◌, refl, ℕ}
use Rattle.sizes.specs.Sizes as Size
use Rattle.text.specs.Bytes.{bytes, text, bytes_open}
use Rattle.text.specs.Class.{class_of, class_open}
use Rattle.text.specs.Lines.{fields, lines, fields_from, lines_from, lines_open}
use Rattle.text.specs.Numeral.{decimal, numeral, name_form, numeral_open}
use Rattle.reading.specs.Refusal.{Read, refused, read, ◌>>=◌, ◌>>◌, weigh, form, refusal_open}
use Rattle.text.specs.declared.Class.TheVariants.{Digit, Letter, Comma, LineEnd, Other}

-- A line of each kind: two fields, an empty line, and a last line without byte 10. An empty text has no line.
texts :
    (lines (65 ∷ 44 ∷ 66 ∷ 10 ∷ 10 ∷ 67 ∷ []) ≡ some (bytes "A" ∷ bytes "B" ∷ []) ∷ some ([] ∷ []) ∷ none ∷ []) ×
    (lines (text ("A,B" ∷ "C" ∷ [])) ≡ some (bytes "A" ∷ bytes "B" ∷ []) ∷ some (bytes "C" ∷ []) ∷ []) ×
    (lines [] ≡ []) ×
    (lines_from (text ("A" ∷ "B" ∷ [])) 2 ≡ some (bytes "B" ∷ []) ∷ []) ×
    (lines_from (text ("A" ∷ [])) 2 ≡ [])
unfolding bytes_open lines_open
texts = (refl, refl, refl, refl, refl)

-- An empty field is a field, also the last; past the end there is none.
line-fields :
    (fields (bytes "CC,") ≡ bytes "CC" ∷ [] ∷ []) ×
    (fields_from (bytes "CC,41") 3 ≡ bytes "41" ∷ []) ×
    (fields_from (bytes "CC,41") 6 ≡ [])
unfolding bytes_open lines_open
line-fields = (refl, refl, refl)

-- 0 and 99999 are decimals; 00, 100000 and the empty field are not.
decimals :
    (decimal (bytes "0") ≡ some 0) ×
    (decimal (bytes "99999") ≡ some 99999) ×
    (decimal (bytes "00") ≡ none) ×
    (decimal (bytes "100000") ≡ none) ×
    (decimal [] ≡ none)
unfolding bytes_open numeral_open
decimals = (refl, refl, refl, refl, refl)

-- Row 1025 of document 01 in octal; a digit 8 is none, and eight digits are too many.
octals :
    (numeral 8 Size.row_digits (bytes "1025") ≡ some 0o1025) ×
    (numeral 8 Size.row_digits (bytes "18") ≡ none) ×
    (numeral 8 Size.row_digits (bytes "10000000") ≡ none)
unfolding bytes_open numeral_open
octals = (refl, refl, refl)

-- Capitals and digits make a name, at most eight.
names :
    (name_form (bytes "C1130") ≡ true) ×
    (name_form (bytes "Name") ≡ false) ×
    (name_form (bytes "ABCDEFGHI") ≡ false)
unfolding bytes_open numeral_open
names = (refl, refl, refl)

classes :
    (class_of 55 ≡ Digit) × (class_of 90 ≡ Letter) × (class_of 97 ≡ Other) × (class_of 44 ≡ Comma) × (class_of 10 ≡ LineEnd) × (class_of 58 ≡ Other)
unfolding class_open
classes = (refl, refl, refl, refl, refl, refl)

-- A line weighed step by step: the lowest number that holds is the refusal.
steps : Option ℕ → Read ℕ
steps field = do
  n ← form 3 7 field
  weigh 7 ((4, false) ∷ (5, true) ∷ (6, true) ∷ [])
  read n

weighed : (steps (some 1) ≡ refused 5 7) × (steps none ≡ refused 3 7)
unfolding steps refusal_open
weighed = (refl, refl)
