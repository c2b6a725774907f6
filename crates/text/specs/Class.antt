-- The class of a byte. Document 01, "Forms for each place": the "classifier matches a byte local over ranges of digits,
-- letters, comma and line end". The laws that relate the classes to the tests of other pages stand in `proofs/Laws.antt`.
use Rattle.std.specs.Prelude.{Bool, true, false, ◌&&◌, ℕ, leb, eqb}
use Rattle.reading.specs.Choice.{pick, choice_open}
use Rattle.text.specs.declared.Class.{Class}
use Rattle.text.specs.declared.Class.TheVariants.{Digit, Letter, Comma, LineEnd, Other}
use Rattle.text.specs.declared.Piece.{Piece}
use Rattle.text.specs.declared.Piece.TheVariants.{Line, Field}

-- A byte of a range, both ends included.
unfoldable pub between : ℕ → ℕ → ℕ → Bool
between low high b = leb low b && leb b high

-- Digits 0 to 9, the letters A to Z that a name may have, the comma, and byte 10, with which "each line ends". The ranges do
-- not meet, so that their order does not matter.
unfoldable pub class_of : ℕ → Class
class_of b =
    pick (between 48 57 b) Digit
    (pick (between 65 90 b) Letter
    (pick (eqb b 44) Comma
    (pick (eqb b 10) LineEnd Other)))

-- The cases of the classifier's answer that other calls ask for.
unfoldable pub is_digit : Class → Bool
is_digit Digit = true
is_digit Letter = false
is_digit Comma = false
is_digit LineEnd = false
is_digit Other = false

unfoldable pub is_letter_or_digit : Class → Bool
is_letter_or_digit Digit = true
is_letter_or_digit Letter = true
is_letter_or_digit Comma = false
is_letter_or_digit LineEnd = false
is_letter_or_digit Other = false

-- The byte that ends a line, and the one that ends a field of it.
unfoldable pub end_of : Piece → ℕ
end_of Line = 10
end_of Field = 44

-- Whether a byte of a class ends a line, or a field (`class_ends` of proofs/Laws.antt: just `end_of` does).
unfoldable pub ends : Piece → Class → Bool
ends Line LineEnd = true
ends Line Digit = false
ends Line Letter = false
ends Line Comma = false
ends Line Other = false
ends Field Comma = true
ends Field Digit = false
ends Field Letter = false
ends Field LineEnd = false
ends Field Other = false

-- Opens the page's definitions, where a figure computes with them.
unfoldable pub class_open : ℕ
unfolding choice_open between class_of is_digit is_letter_or_digit end_of ends
class_open = 0
