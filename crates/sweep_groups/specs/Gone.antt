-- The columns that a row sum goes to, of the rows of a cell. Document 02, K4.
use Rattle.std.specs.Prelude.{map, ◌≡◌, ◌^◌, ◌≤◌, ◌<◌}
use Rattle.sizes.specs.Sizes as Size
use Rattle.library_table.specs.Cells.{Row, Cell, bit_of}
use Rattle.library_table.specs.Library.{column_count}
use Rattle.calculation.specs.Nodes.{Kind}
use Rattle.calculation.specs.Ways.{Role, word_of, named_by}
use Rattle.sweep_sums.specs.Gone.{columns_gone}

-- `gone_named_lem` of proofs/Gone.antt: "For every row the columns gone to are exactly the named ones, each once, lowest first.": of
-- every row of a group those that the row names, in their order, each by its bit.
abbrev pub GoneNamed : Type 0
GoneNamed =
    (k : Kind) (c : Cell) (role : Role) →
    c.pins ≤ Size.pins →
    (r : Row) → r.columns < 2 ^ column_count (word_of k role) c.pins →
    r.columns < 2 ^ 32 →
    columns_gone r.columns ≡ map (bit_of c.pins) (named_by c role r)
