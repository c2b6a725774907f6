-- A netlist text with pads added as output lines. Document 02, K11: "the committed pads as outputs".
use Rattle.std.specs.Prelude.{true, List, [], ◌∷◌, ◌++◌, ◌≡◌, ℕ}
use Rattle.reading.specs.Refusal.{read}
use Rattle.text.specs.Bytes.{bytes}
use Rattle.writer.specs.Decimal.{decimal_bytes}
use Rattle.library_table.specs.Cells.{Cell}
use Rattle.library_table.specs.Sound as C
use Rattle.netlist_table.specs.declared.Rules.TheVariants.{New}
use Rattle.netlist_table.specs.Netlist.{Statement, netlist}
use Rattle.calculation.specs.Pads.{padded, placeable}

-- "each line ends with byte 10"
unfoldable pub output_line : ℕ → List ℕ
output_line l = bytes "output," ++ (decimal_bytes l ++ (10 ∷ []))

unfoldable pub output_lines : List ℕ → List ℕ
output_lines [] = []
output_lines (l ∷ ls) = output_line l ++ output_lines ls

-- `pads-accepted` of proofs/Pads.antt: an analysis accepts the text with a line `output,L` for each pad at its end, 20 and
-- all, and reads it as the netlist with its pads. (2 apart: whether the text keeps to document 01's size.)
abbrev pub PadsAccepted : Type 0
PadsAccepted =
    (cells : List Cell) (net : List ℕ) (ss : List Statement) (pads : List ℕ) →
    C.Sound cells →
    netlist New cells net ≡ read ss →
    placeable ss pads ≡ true →
    netlist New cells (net ++ output_lines pads) ≡ read (padded ss pads)
