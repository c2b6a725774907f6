-- The copy of a netlist with its open lines. Document 02, K5: "A small program prints a copy of a netlist that the old rules
-- accept, with `open,L` added at its end for each such line, ascending".
use Rattle.std.specs.Prelude.{List, [], ◌∷◌, ◌++◌, ℕ}
use Rattle.text.specs.Bytes.{bytes}
use Rattle.writer.specs.Decimal.{decimal_bytes}
use Rattle.netlist_table.specs.Netlist.{Statement, mark, opened, undeclared_lines}

-- "each line ends with byte 10"
unfoldable pub open_line : ℕ → List ℕ
open_line l = bytes "open," ++ (decimal_bytes l ++ (10 ∷ []))

unfoldable pub open_lines : List ℕ → List ℕ
open_lines [] = []
open_lines (l ∷ ls) = open_line l ++ open_lines ls

-- The netlist byte for byte, and behind it a line for each line that is "read or marked but neither driven nor open".
unfoldable pub copy_of : List ℕ → List Statement → List ℕ
copy_of net ss = net ++ open_lines (undeclared_lines ss)

-- The statements that the added lines say.
unfoldable pub opens : List ℕ → List Statement
opens [] = []
opens (l ∷ ls) = mark opened l ∷ opens ls

-- The statements of the copy.
unfoldable pub declared_too : List Statement → List Statement
declared_too ss = ss ++ opens (undeclared_lines ss)
