-- Cells, rows and columns. Document 01, "Cells".
use Rattle.std.specs.Prelude.{Bool, List, [], ◌∷◌, ◌++◌, ℕ, zero, suc, ◌+◌, ◌*◌, ◌-◌, ◌/◌, ◌%◌, ◌^◌, eqb}
use Rattle.reading.specs.Choice.{pick, choice_open}
use Rattle.library_table.specs.declared.Heading.{Heading}
use Rattle.library_table.specs.declared.Heading.TheVariants.{Plain as plain, Deep as deep}

-- "Bit 0 is the depth (0 or 1)." "An entry that begins with `Name3` has a three-bit depth in bits 0 to 2 of each row, every
-- other column two places higher .. `Name` entries are read as today." (02, K2)
unfoldable pub depth_bits : Heading → ℕ
depth_bits plain = 1
depth_bits deep = 3

-- "depth 0 to 7"
abbrev pub deepest : ℕ
deepest = 7

-- "A row is an octal number": its depth and the columns above it. "The cell record holds the depth apart from the columns for
-- both kinds" (02, K2), so that a column's bit here is less than its bit in the row by the bits of the depth.
pub record Row : Type 0 where
  pub depth : ℕ
  pub columns : ℕ

unfoldable pub row_of : Heading → ℕ → Row
row_of h x = record { depth = x % 2 ^ depth_bits h; columns = x / 2 ^ depth_bits h }

-- The number that an entry writes for a row: `row_written` of `proofs/Places.antt` says that it is the one read.
unfoldable pub row_value : Heading → Row → ℕ
row_value h r = r.columns * 2 ^ depth_bits h + r.depth

-- "Rows joined by M form a group of alternatives". A group is document 01's term.
abbrev pub Group : Type 0
Group = List Row

-- "A cell has a name .. and n pins. CC0 and CC1 are the combinational costs of setting a line to 0 and 1, CO of observing
-- it; SC0, SC1, SO are the sequential ones." "CC and SC have two groups (output to 0, output to 1), CO and SO one for each
-- pin."
pub record Cell : Type 0 where
  pub name : List ℕ
  pub pins : ℕ
  pub heading : Heading
  pub cc : List Group
  pub co : List Group
  pub sc : List Group
  pub so : List Group

-- What stands for a cell, or for a row, at a place where none is.
unfoldable pub no_cell : Cell
no_cell = record { name = []; pins = 0; heading = plain; cc = []; co = []; sc = []; so = [] }

unfoldable pub no_row : Row
no_row = record { depth = 0; columns = 0 }

-- What a column of a row of a cell may name: "pin at 0", "pin at 1", "cell output at 0", "at 1", "observe the output".
pub data Column : Type 0 where
  pin : (i v : ℕ) → Column
  output : (v : ℕ) → Column
  observe : Column

-- "for pin i of n, bit 2(n−i)+2 means "pin at 0", bit 2(n−i)+1 "pin at 1". In CO and SO rows, bits 2n+2 and 2n+1 mean "cell
-- output at 0" and "at 1", and bit 2n+3 means "observe the output"": each less the one bit of the depth, or the three of an
-- entry in which it stands two places higher.
unfoldable pub bit_of : ℕ → Column → ℕ
bit_of n (pin i v) = 2 * (n - i) + (1 - v)
bit_of n (output v) = 2 * n + (1 - v)
bit_of n observe = 2 * n + 2

-- The pins' columns from the lowest bit up: the last pin first, its "at 1" before its "at 0".
unfoldable pub pin_columns : ℕ → List Column
pin_columns zero = []
pin_columns (suc i) = pin (suc i) 1 ∷ pin (suc i) 0 ∷ pin_columns i

-- The columns of a CC or SC row, and of a CO or SO row, from the lowest bit up.
unfoldable pub setting_columns : ℕ → List Column
setting_columns n = pin_columns n

unfoldable pub observing_columns : ℕ → List Column
observing_columns n = pin_columns n ++ (output 1 ∷ output 0 ∷ observe ∷ [])

unfoldable pub bit : ℕ → ℕ → Bool
bit x k = eqb (x / 2 ^ k % 2) 1

-- The columns that a row names, lowest first.
unfoldable pub named : ℕ → List Column → ℕ → List Column
named n [] columns = []
named n (c ∷ cs) columns = pick (bit columns (bit_of n c)) (c ∷ named n cs columns) (named n cs columns)

-- Opens the page's definitions, where a figure computes with them.
unfoldable pub cells_open : ℕ
unfolding choice_open depth_bits row_of row_value no_cell no_row bit_of pin_columns setting_columns observing_columns bit named
cells_open = 0
