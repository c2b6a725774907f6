-- The start, out of the netlist table.
use Rattle.std.specs.Prelude.{Bool, List, [], ◌∷◌, ◌++◌, ℕ, zero, suc, ◌/◌, ◌%◌, max, eqb, get_or}
use Rattle.sizes.specs.Sizes as Size
use Rattle.sizes.specs.Places.{driver_place, output_place, range_place, ranged_place}
use Rattle.table.specs.Blocks.{used}
use Rattle.cost.specs.Cost.{never}
use Rattle.reading.specs.Choice.{pick}

-- A price where the line is marked so, else never.
unfoldable pub start_number : ℕ → ℕ → ℕ
start_number mark price = pick (eqb mark 1) price never

-- What a range says in its one number, at its high end or its low one; "Inputs without one cost 1."
unfoldable pub price_word : Bool → ℕ → ℕ
price_word high w = pick (eqb w 0) 1 (pick high (w / Size.prices) (w % Size.prices))

-- What setting a line costs where it is an input. Where the table says that there is no range, those of lines are not asked
-- for.
unfoldable pub line_price : Bool → List ℕ → ℕ → ℕ
line_price high netlist l =
    pick (eqb (get_or netlist ranged_place 0) 0) 1 (price_word high (get_or netlist (range_place l) 0))

-- The six numbers of a line, and of `count` lines from `first` on.
unfoldable pub line_start : Bool → List ℕ → ℕ → List ℕ
line_start high netlist l =
    let cc = start_number (get_or netlist (driver_place l) 0) (line_price high netlist l) in
    let sc = start_number (get_or netlist (driver_place l) 0) 0 in
    let o = start_number (get_or netlist (output_place l) 0) 0 in
    cc ∷ cc ∷ sc ∷ sc ∷ o ∷ o ∷ []

unfoldable pub lines_start : Bool → List ℕ → ℕ → ℕ → List ℕ
lines_start high netlist zero first = []
lines_start high netlist (suc count) first = line_start high netlist first ++ lines_start high netlist count (suc first)

-- The highest line that the table says is driven, open or an output.
abbrev pub last_marked : List ℕ → ℕ
last_marked netlist = max (used netlist (driver_place 1) Size.lines) (used netlist (output_place 1) Size.lines)
