-- The Name line and the End line of an entry by their fields, as the code judges them, and the store of a header.
-- `proofs/Headers.antt` ties them to the definitions of `library_table/specs/Library.antt`, which are the ones to read against
-- document 01.
use Rattle.std.specs.Prelude.{Bool, ◌&&◌, List, [], ℕ, ◌+◌, leb, ltb, eqb, length, get_or, set}
use Rattle.std.specs.Prelude as Code
use Rattle.std.proofs.Math.Option.{Option, none, some}
use Rattle.std.proofs.lemmas.List.Edits.{sets}
use Rattle.sizes.specs.Places.{cell_place, pins_place, heading_place}
use Rattle.sizes.specs.Sizes as Size
use Rattle.reading.specs.Numbers as No
use Rattle.text.specs.Bytes.{bytes}
use Rattle.reading.specs.Choice.{pick}
use Rattle.text.specs.Lines.{same_bytes}
use Rattle.text.specs.Numeral.{decimal, name_form}
use Rattle.library_table.specs.declared.Heading.{Heading}
use Rattle.library_table.specs.Library.{Fields, heading_of, pins_bad}
use Rattle.library_text.specs.declared.Head.{Head}
use Rattle.library_table.specs.Layout.{found_at}

-- What an answer of the code tells, if it does.
unfoldable pub told : {A : Type 0} → Code.Option A → Option A
told (Code.Some a) = some a
told Code.None = none

-- What a Name line says, apart from the name.
unfoldable pub head_of : Option Heading → Option ℕ → Option Head
head_of none n = none
head_of (some h) none = none
head_of (some h) (some n) = some (record { pins = n; heading = h })

-- Of a Name line by its fields, where there are three; none is bad form.
unfoldable pub head_in : Bool → List ℕ → List ℕ → List ℕ → Option Head
head_in three word name digits = pick (three && name_form name) (head_of (heading_of word) (decimal digits)) none

-- The refusal number of a name and a count of pins behind the cells of a table.
unfoldable pub header_number : List ℕ → ℕ → List ℕ → ℕ
header_number name pins table =
    pick (ltb (found_at name table) (get_or table 0 0)) No.name_used
    (pick (pins_bad pins) No.pins_bad
    (pick (leb Size.cells (get_or table 0 0)) No.cells_many 0))

unfoldable pub end_formed : Fields → Bool
end_formed fs = eqb (length fs) 1 && same_bytes (get_or fs 0 []) (bytes "End")

-- The name, the pins and the heading of a cell.
unfoldable pub header_put : ℕ → List ℕ → ℕ → ℕ → List ℕ → List ℕ
header_put cell name pins heading table =
    set (set (sets (set table (cell_place cell) (length name)) (cell_place cell + 1) name) (pins_place cell) pins)
    (heading_place cell) heading
