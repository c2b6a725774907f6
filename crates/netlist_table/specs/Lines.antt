-- What a netlist table says of its lines, whatever stands in it (docs/TABLES.md); a place past its end counts as 0.
-- `proofs/HeldLines.antt` shows that of a table that holds statements this is what they say.
use Rattle.std.specs.Prelude.{Bool, not, List, ℕ, eqb, get_or}
use Rattle.sizes.specs.Sizes as Size
use Rattle.sizes.specs.Places.{driver_place, mention_place}
use Rattle.table.specs.Blocks.{used}
use Rattle.netlist_table.specs.Netlist.{lines_where}

-- A line is an input.
abbrev pub input_at : List ℕ → ℕ → Bool
input_at table l = eqb (get_or table (driver_place l) 0) 1

-- A line stands anywhere in the netlist, driven, read or marked: 0 is no mark.
abbrev pub mention_at : List ℕ → ℕ → Bool
mention_at table l = not (eqb (get_or table (mention_place l) 0) 0)

-- The highest line that does, 0 where none does.
abbrev pub highest_mentioned : List ℕ → ℕ
highest_mentioned table = used table (mention_place 1) Size.lines

-- The inputs, and the lines that are mentioned, ascending.
unfoldable pub inputs_held : List ℕ → List ℕ
inputs_held table = lines_where (input_at table) Size.lines 1

unfoldable pub mentions_held : List ℕ → List ℕ
mentions_held table = lines_where (mention_at table) Size.lines 1
