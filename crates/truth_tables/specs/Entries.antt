-- The cell of a truth table, and the text of a cell's entry. Document 02, K6; document 01, "Cells".
use Rattle.std.specs.Prelude.{Bool, true, false, List, [], ◌∷◌, ◌++◌, map, ℕ, zero, suc, ◌+◌, ◌*◌, ◌^◌, length}
use Rattle.std.proofs.Math.Option.{Option, none, some}
use Rattle.text.specs.Bytes.{bytes, bytes_open}
use Rattle.writer.specs.Decimal.{decimal_bytes, decimal_open}
use Rattle.writer.specs.Octal.{octal_bytes, octal_open}
use Rattle.library_table.specs.Cells.{Row, Group, Cell}
use Rattle.library_table.specs.declared.Heading.TheVariants.{Plain as plain}
use Rattle.truth_tables.specs.Tables.{Term, primes, gives, observing, tables_open}

-- ---- the cell of a truth table

-- "for pin i of n, bit 2(n−i)+2 means "pin at 0", bit 2(n−i)+1 "pin at 1"": a pin's two columns, in a row without its depth.
unfoldable pub literal_columns : Option Bool → ℕ
literal_columns none = 0
literal_columns (some true) = 1
literal_columns (some false) = 2

unfoldable pub term_columns : Term → ℕ
term_columns [] = 0
term_columns (l ∷ t) = literal_columns l * 4 ^ length t + term_columns t

-- "bit 2n+3 means "observe the output"", in a row without its depth.
unfoldable pub observe_column : ℕ → ℕ
observe_column n = 2 ^ (2 * n + 2)

unfoldable pub setting_row : ℕ → Term → Row
setting_row depth t = record { depth = depth; columns = term_columns t }

-- "Each such row also names "observe the output"."
unfoldable pub observing_row : ℕ → ℕ → Term → Row
observing_row depth n t = record { depth = depth; columns = observe_column n + term_columns t }

unfoldable pub setting_group : ℕ → ℕ → List Bool → Bool → Group
setting_group depth n bits e = map (setting_row depth) (primes n (gives bits e))

unfoldable pub observing_group : ℕ → ℕ → List Bool → ℕ → Group
observing_group depth n bits k = map (observing_row depth n) (observing n bits k)

-- "CC and SC have two groups (output to 0, output to 1), CO and SO one for each pin."
unfoldable pub setting_groups : ℕ → ℕ → List Bool → List Group
setting_groups depth n bits = setting_group depth n bits false ∷ setting_group depth n bits true ∷ []

-- The groups of so many pins, the first of which stands behind k pins.
unfoldable pub groups_from : ℕ → ℕ → List Bool → (k left : ℕ) → List Group
groups_from depth n bits k zero = []
groups_from depth n bits k (suc left) = observing_group depth n bits k ∷ groups_from depth n bits (suc k) left

unfoldable pub observing_groups : ℕ → ℕ → List Bool → List Group
observing_groups depth n bits = groups_from depth n bits 0 n

-- "depth 1 for CC and CO, 0 for SC and SO"
unfoldable pub cell_of : List ℕ → ℕ → List Bool → Cell
cell_of name n bits =
    record {
      name = name;
      pins = n;
      heading = plain;
      cc = setting_groups 1 n bits;
      co = observing_groups 1 n bits;
      sc = setting_groups 0 n bits;
      so = observing_groups 0 n bits;
    }

-- ---- the text of a cell's entry

-- The number that a row is written as: "Bit 0 is the depth", and the columns stand above it.
unfoldable pub row_number : Row → ℕ
row_number r = 2 * r.columns + r.depth

unfoldable pub row_bytes : Row → List ℕ
row_bytes r = octal_bytes (row_number r)

-- "Rows joined by M form a group"; "An empty group is Z."
unfoldable pub group_bytes : Group → List ℕ
group_bytes [] = bytes "Z"
group_bytes (r ∷ []) = row_bytes r
group_bytes (r ∷ (q ∷ g)) = row_bytes r ++ (bytes ",M," ++ group_bytes (q ∷ g))

unfoldable pub groups_bytes : List Group → List ℕ
groups_bytes [] = []
groups_bytes (g ∷ gs) = 44 ∷ (group_bytes g ++ groups_bytes gs)

-- A line of rows, with the byte 10 at its end.
unfoldable pub line_bytes : List ℕ → List Group → List ℕ
line_bytes word gs = word ++ (groups_bytes gs ++ (10 ∷ []))

unfoldable pub name_bytes : List ℕ → ℕ → List ℕ
name_bytes name pins = bytes "Name," ++ (name ++ (44 ∷ (decimal_bytes pins ++ (10 ∷ []))))

-- "The six lines of an entry stand in the order shown".
unfoldable pub entry_bytes : Cell → List ℕ
entry_bytes c =
    name_bytes c.name c.pins
    ++ (line_bytes (bytes "CC") c.cc
    ++ (line_bytes (bytes "CO") c.co
    ++ (line_bytes (bytes "SC") c.sc
    ++ (line_bytes (bytes "SO") c.so
    ++ (bytes "End" ++ (10 ∷ []))))))

-- Opens the page's definitions, where a figure computes with them.
unfoldable pub entries_open : ℕ
unfolding tables_open bytes_open decimal_open octal_open literal_columns term_columns observe_column setting_row observing_row
    setting_group observing_group setting_groups groups_from observing_groups cell_of row_number row_bytes group_bytes groups_bytes line_bytes
    name_bytes entry_bytes
entries_open = 0
