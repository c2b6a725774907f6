-- The lines of a text and the fields of a line, as lists of bytes. Document 01, "Netlist", of both texts.
-- The laws that readers cite stand in `proofs/Laws.antt`.
use Rattle.std.specs.Prelude.{Bool, true, false, ◌&&◌, ◌||◌, List, [], ◌∷◌, ℕ, zero, suc, ◌+◌, leb, eqb, length, get_or, take, drop}
use Rattle.std.proofs.Math.Option.{Option, none, some}
use Rattle.reading.specs.Choice.{pick, choice_open}

-- A byte in front of the parts of what follows it: a mark starts a new part, any other byte stands in the first.
unfoldable pub cut : Bool → ℕ → List (List ℕ) → List (List ℕ)
cut true b ps = [] ∷ ps
cut false b [] = (b ∷ []) ∷ []
cut false b (p ∷ ps) = (b ∷ p) ∷ ps

-- The parts of a text between its marks, always one more than there are marks.
unfoldable pub split : ℕ → List ℕ → List (List ℕ)
split mark [] = [] ∷ []
split mark (b ∷ s) = cut (eqb b mark) b (split mark s)

-- "A field is handed back as the part of the text between two commas". A comma is byte 44.
unfoldable pub fields : List ℕ → List (List ℕ)
fields line = split 44 line

unfoldable pub unended : List ℕ → List (Option (List (List ℕ)))
unended [] = []
unended (b ∷ p) = none ∷ []

-- "each line ends with byte 10": every part but the last is a line, by its fields; "a last line without byte 10 is bad
-- form at that line", which is none here. Nothing is left after the last byte 10 of a text that ends with it.
unfoldable pub ended : List (List ℕ) → List (Option (List (List ℕ)))
ended [] = []
ended (p ∷ []) = unended p
ended (p ∷ (q ∷ ps)) = some (fields p) ∷ ended (q ∷ ps)

unfoldable pub lines : List ℕ → List (Option (List (List ℕ)))
lines text = ended (split 10 text)

unfoldable pub stop : Bool → ℕ → ℕ
stop true n = 0
stop false n = suc n

-- The length of the first part.
unfoldable pub span : ℕ → List ℕ → ℕ
span mark [] = 0
span mark (b ∷ s) = stop (eqb b mark) (span mark s)

-- Whether one of so many bytes from a place on ends a line.
unfoldable pub some_ends : List ℕ → ℕ → ℕ → Bool
some_ends s at zero = false
some_ends s at (suc n) = some_ends s at n || eqb (get_or s (at + n) 0) 10

-- The part that starts at a cursor; past the end it is empty.
unfoldable pub part : ℕ → List ℕ → ℕ → List ℕ
part mark s at = take (span mark (drop at s)) (drop at s)

-- The parts from a cursor on: none once the cursor has passed the end.
unfoldable pub parts_from : ℕ → List ℕ → ℕ → List (List ℕ)
parts_from mark s at = pick (leb at (length s)) (split mark (drop at s)) []

-- The cursor after a part that starts at `at`: past the part and the mark behind it. A cursor past the end stays.
unfoldable pub next_after : List ℕ → ℕ → List ℕ → ℕ
next_after s at p = pick (leb at (length s)) (at + length p + 1) at

unfoldable pub fields_from : List ℕ → ℕ → List (List ℕ)
fields_from line at = parts_from 44 line at

unfoldable pub lines_from : List ℕ → ℕ → List (Option (List (List ℕ)))
lines_from text at = ended (parts_from 10 text at)

-- "The words Name, CC, input and the rest match byte for byte."
unfoldable pub same_bytes : List ℕ → List ℕ → Bool
same_bytes [] [] = true
same_bytes [] (b ∷ t) = false
same_bytes (a ∷ s) [] = false
same_bytes (a ∷ s) (b ∷ t) = eqb a b && same_bytes s t

-- Opens the page's definitions, where a figure computes with them.
unfoldable pub lines_open : ℕ
unfolding choice_open cut split fields unended ended lines stop span part parts_from next_after fields_from lines_from same_bytes
lines_open = 0
