-- Whether a cell of a library table has the groups that the generator makes of a truth table, by the numbers of the table.
-- `proofs/Laws.antt` says what this is of a table that holds the cells of an accepted library.
use Rattle.std.specs.Prelude.{Bool, true, false, ◌&&◌, ◌||◌, List, [], ◌∷◌, map, ℕ, zero, suc, ◌+◌, ◌*◌, ◌/◌, ◌%◌, ◌^◌, min, leb, ltb, eqb, get_or}
use Rattle.sizes.specs.Places.{pins_place, group_place}
use Rattle.sizes.specs.Sizes as Size
use Rattle.reading.specs.Choice.{pick}
use Rattle.library_table.specs.Cells.{Group}
use Rattle.truth_tables.specs.Entries.{setting_groups, observing_groups, row_number}
use Rattle.truth_tables.specs.Tables.{digit}
use Rattle.truth_rows.specs.Masks.{up_from}

-- The farthest that a group can start, of a cell whose place is a number of the code.
abbrev pub farthest : ℕ
farthest = group_place 4294967295 Size.groups

-- ---- the truth table that the rows of value 1 tell

-- Whether a pin's two columns, of which "at 1" is the lower, let it have a value.
unfoldable pub admits : (d v : ℕ) → Bool
admits d v = eqb d 0 || eqb d (pick (eqb v 0) 2 1)

-- Whether the setting at a place, of those of n pins, meets a row of these columns.
unfoldable pub met_by : (n columns place : ℕ) → Bool
met_by zero columns place = true
met_by (suc i) columns place = admits (columns / 4 ^ i) (place / 2 ^ i) && met_by i (columns % 4 ^ i) (place % 2 ^ i)

-- The rows of the group that starts at a number of the table, at most as many as there is space for.
unfoldable pub rows_at : List ℕ → ℕ → ℕ
rows_at table at = min (get_or table at 0) Size.rows

-- Whether it meets one of `left` rows of the group, from row r on.
unfoldable pub met_from : List ℕ → (at n place r left : ℕ) → Bool
met_from table at n place r zero = false
met_from table at n place r (suc left) = met_by n (get_or table (at + 2 + 2 * r) 0) place || met_from table at n place (suc r) left

unfoldable pub met_at : List ℕ → (at n place : ℕ) → Bool
met_at table at n place = met_from table at n place 0 (rows_at table at)

-- "the 2^n output values from all pins 0 upwards, pin 1 heaviest": 1 where the setting meets a row.
unfoldable pub truth_bits : List ℕ → (at n : ℕ) → List Bool
truth_bits table at n = map (met_at table at n) (up_from 0 (2 ^ n))

-- As bytes, "0" and "1".
unfoldable pub bit_byte : Bool → ℕ
bit_byte b = 48 + digit b

unfoldable pub truth_bytes : List ℕ → (at n : ℕ) → List ℕ
truth_bytes table at n = map bit_byte (truth_bits table at n)

-- ---- the groups

-- Whether row r of the group is the one that a plain entry writes as this number.
unfoldable pub row_is : List ℕ → (at r number : ℕ) → Bool
row_is table at r number = eqb (get_or table (at + 1 + 2 * r) 0) (number % 2) && eqb (get_or table (at + 2 + 2 * r) 0) (number / 2)

-- Whether the group has, from row r on, just the rows of these numbers.
unfoldable pub rows_are : List ℕ → (at r : ℕ) → List ℕ → Bool
rows_are table at r [] = eqb (get_or table at 0) r
rows_are table at r (x ∷ xs) = row_is table at r x && rows_are table at (suc r) xs

-- Whether cell k has, from group g on, these groups.
unfoldable pub groups_are : List ℕ → (k g : ℕ) → List Group → Bool
groups_are table k g [] = true
groups_are table k g (x ∷ xs) = rows_are table (group_place k g) 0 (map row_number x) && groups_are table k (suc g) xs

-- Whether all its groups are those of a truth table of n pins.
unfoldable pub groups_of : List ℕ → (k n : ℕ) → List Bool → Bool
groups_of table k n bits =
    (groups_are table k Size.cc_group (setting_groups 1 n bits) && groups_are table k Size.sc_group (setting_groups 0 n bits))
    && (groups_are table k Size.co_group (observing_groups 1 n bits) && groups_are table k Size.so_group (observing_groups 0 n bits))

-- ---- the cell

-- The pins of cell k, and the truth table that its CC group of value 1 tells.
unfoldable pub pins_at : List ℕ → ℕ → ℕ
pins_at table k = get_or table (pins_place k) 0

unfoldable pub table_at : List ℕ → ℕ → List Bool
table_at table k = truth_bits table (group_place k (Size.cc_group + 1)) (pins_at table k)

-- Whether the table has a cell k, and its groups are those of this truth table, of at most four pins.
unfoldable pub generated_at : List ℕ → ℕ → Bool
generated_at table k =
    (ltb k (get_or table 0 0) && leb (pins_at table k) 4) && groups_of table k (pins_at table k) (table_at table k)
