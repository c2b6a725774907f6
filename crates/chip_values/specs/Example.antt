-- The smallest netlist in which a figure stands for a value that no setting gives: an AND gate that reads an input and its
-- opposite. The input is read by two pins. One gate does not do: pins that share a line are one wire there, so that a row which
-- is a way asks for no line at 0 and 1.
use Rattle.std.specs.Prelude.{Bool, true, false, List, [], ◌∷◌, ℕ, zero, suc}
use Rattle.text.specs.Bytes.{bytes}
use Rattle.library_table.specs.Cells.{Cell}
use Rattle.netlist_table.specs.Netlist.{Statement, mark, gate, input}
use Rattle.truth_tables.specs.Entries.{cell_of}

unfoldable pub not_bits : List Bool
not_bits = true ∷ false ∷ []

unfoldable pub and_bits : List Bool
and_bits = false ∷ false ∷ false ∷ true ∷ []

-- NOT and AND2 as the generator makes them.
unfoldable pub cells : List Cell
cells = cell_of (bytes "NOT") 1 not_bits ∷ cell_of (bytes "AND2") 2 and_bits ∷ []

unfoldable pub bits_at : ℕ → List Bool
bits_at zero = not_bits
bits_at (suc k) = and_bits

-- `input,1`, `gate,NOT,2,1`, `gate,AND2,3,1,2`
unfoldable pub statements : List Statement
statements =
    mark input 1
    ∷ gate (record { cell = 0; line = 2; pins = 1 ∷ [] })
    ∷ gate (record { cell = 1; line = 3; pins = 1 ∷ 2 ∷ [] })
    ∷ []
