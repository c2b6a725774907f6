-- The figures of document 02, K6: lines in, entries out, by computation over the definitions. They are one theorem.
use Rattle.std.specs.Prelude.{[], ◌∷◌, ◌≡◌, refl}
use Rattle.text.specs.Bytes.{text, bytes_open}
use Rattle.reading.specs.Refusal.{read}
use Rattle.truth_entry.specs.Generated.{generated, generated_open}
use Rattle.truth_figures.specs.BuiltIn.{entries, tables, built_in}

-- "For three-input NOR, named C1130, the result is the entry in document 01."
abbrev pub NorFigure : Type 0
NorFigure =
    generated (text ("C1130,3,10000000" ∷ []))
    ≡ read
    (text
    ("Name,C1130,3"
    ∷ "CC,41,M,11,M,3,125"
    ∷ "CO,1025,1105,1121"
    ∷ "SC,40,M,10,M,2,124"
    ∷ "SO,1024,1104,1120"
    ∷ "End"
    ∷ []))

-- The built-in library text "is byte for byte what the generator prints".
abbrev pub BuiltInFigure : Type 0
BuiltInFigure = entries tables ≡ read (text built_in)

-- A constant with pins has `CC,1,Z` or `CC,Z,1`; with none too, and then "CO and SO stand alone on their lines".
abbrev pub ConstantFigure : Type 0
ConstantFigure =
    entries ("TIE0,0,0" ∷ "ONE,1,11" ∷ [])
    ≡ read
    (text
    ("Name,TIE0,0"
    ∷ "CC,1,Z"
    ∷ "CO"
    ∷ "SC,0,Z"
    ∷ "SO"
    ∷ "End"
    ∷ "Name,ONE,1"
    ∷ "CC,Z,1"
    ∷ "CO,Z"
    ∷ "SC,Z,0"
    ∷ "SO,Z"
    ∷ "End"
    ∷ []))

pub cell-figures_hold : NorFigure × BuiltInFigure × ConstantFigure
unfolding generated_open bytes_open entries
cell-figures_hold = (refl, refl, refl)
