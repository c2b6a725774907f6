-- Rows of a gate whose pins share a line, by the bits of their columns. Document 02, K7. Column j of a cell of n pins, from the
-- lowest bit up, names a line of `lines`, the gate's line and those of its pins, at 1 where j is even and at 0 where it is odd.
-- `proofs/RowBits.antt` shows that rows so read are those of specs/Ways.antt of crate `calculation`.
use Rattle.std.specs.Prelude.{Bool, false, not, ◌&&◌, ◌||◌, List, [], ◌∷◌, ℕ, zero, suc, ◌+◌, ◌*◌, ◌-◌, ◌/◌, ◌%◌, ◌^◌, ◌≤◌, ◌<◌, eqb, get_or}
use Rattle.sizes.specs.Sizes as Size
use Rattle.reading.specs.Choice.{pick}
use Rattle.sweep_sums.specs.Gone.{columns_gone}
use Rattle.library_table.specs.Library.{any_of}
use Rattle.calculation.specs.Ways.{both_values}

-- Whether one of the numbers below `count` passes.
unfoldable pub any_below : (ℕ → Bool) → ℕ → Bool
any_below p zero = false
any_below p (suc i) = p i || any_below p i

-- ---- a row

-- A CC or SC row of a cell with so many pins: it names columns of the pins alone ("7 a row with a bit above its columns").
pub record SettingRow (pins columns : ℕ) : Type 0 where
  pub few : pins ≤ Size.pins
  pub within : columns < 2 ^ (2 * pins)

abbrev pub column_value : ℕ → ℕ
column_value j = 1 - j % 2

module _ (lines : List ℕ) (n : ℕ) where
  abbrev pub column_line : ℕ → ℕ
  column_line j = get_or lines (n - j / 2) 0

  -- Whether column j asks for line l at v.
  unfoldable pub asks_for : ℕ → ℕ → ℕ → Bool
  asks_for l v j = eqb (column_line j) l && eqb (column_value j) v

  -- Whether one of the columns that a row names below column j asks for column j's line at v. They are gone to "from one named
  -- column straight to the next by counting trailing zeros" (02, K4), as all columns here.
  unfoldable pub asked_below : ℕ → ℕ → ℕ → Bool
  asked_below columns v j = any_of (asks_for (column_line j) v) (columns_gone (columns % 2 ^ j))

-- A number by its bits: those of a list that pass.
unfoldable pub bits_of : (ℕ → Bool) → List ℕ → ℕ
bits_of p [] = 0
bits_of p (j ∷ js) = pick (p j) (2 ^ j) 0 + bits_of p js

-- The columns of a CC or SC row that are left where each line is asked for "once, at its lowest column": those below which none
-- asks for the same. Whether the row "needs 0 and 1 of one line": a column below one of its columns asks for the other value.
unfoldable pub once_columns : List ℕ → ℕ → ℕ → ℕ
once_columns lines n columns = bits_of (λ j. not (asked_below lines n columns (column_value j) j)) (columns_gone columns)

unfoldable pub both_columns : List ℕ → ℕ → ℕ → Bool
both_columns lines n columns = any_of (λ j. asked_below lines n columns (1 - column_value j) j) (columns_gone columns)

-- ---- a gate

-- Whether a pin before pin p reads its line, pins from 0 here.
unfoldable pub read_before : List ℕ → ℕ → Bool
read_before lines p = any_below (λ q. eqb (get_or lines (q + 1) 0) (get_or lines (p + 1) 0)) p

-- Whether two of the pins share a line.
unfoldable pub shares_line : List ℕ → ℕ → Bool
shares_line lines n = any_below (read_before lines) n

-- Whether a row of the group at a place of the library table names both values of one of n pins; whether one of a cell does.
unfoldable pub group_both : List ℕ → ℕ → ℕ → Bool
group_both library n group =
    any_below (λ r. both_values n n (get_or library (group + 1 + Size.row_words * r + 1) 0)) (get_or library group 0)

unfoldable pub cell_both : List ℕ → ℕ → ℕ → Bool
cell_both library n cell = any_below (λ g. group_both library n (cell + Size.groups_at + g * Size.group_words)) Size.groups

-- A gate of a one-wire cell, the cell at a place of the library table, two of whose pins share a line: the only ones whose rows
-- are read otherwise.
unfoldable pub tied_at : List ℕ → ℕ → List ℕ → ℕ → Bool
tied_at library cell lines n = shares_line lines n && not (cell_both library n cell)
