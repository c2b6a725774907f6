-- What the rows of a cell tell of its truth table, in the form that the two theorems need.
use Rattle.common_laws.proofs.Base.{Bool, true, false, List, List-as-Memᴰ, ◌≡◌, ℕ, ◌-◌, length, get_or}
use Rattle.library_table.specs.Cells.{Row, Cell, Column, pin}
use Rattle.calculation.specs.Nodes.{combinational}
use Rattle.calculation.specs.Ways.{setting, group_of, named_by}
use Rattle.truth_tables.specs.Tables.{digit}

-- The values xs of the pins, pin 1 first, are those that the row names.
abbrev pub Met : Cell → Bool → Row → List Bool → Type 0
Met c e r xs = (i v : ℕ) → List-as-Memᴰ (pin i v) (named_by c (setting (digit e)) r) → digit (get_or xs (i - 1) false) ≡ v

pub record Tells (c : Cell) (table : List Bool → Bool) : Type 0 where
  -- "a setting of the pins gives e exactly when it meets a row of group e"
  pub meets : (xs : List Bool) → length xs ≡ c.pins
      → (r : Row) × List-as-Memᴰ r (group_of combinational c (setting (digit (table xs)))) × Met c (table xs) r xs
  pub gives : (xs : List Bool) → length xs ≡ c.pins → (e : Bool) (r : Row)
      → List-as-Memᴰ r (group_of combinational c (setting (digit e))) → Met c e r xs → table xs ≡ e
  -- No row names both values of a pin.
  pub single : (e : Bool) (r : Row) → List-as-Memᴰ r (group_of combinational c (setting (digit e)))
      → (i v w : ℕ) → List-as-Memᴰ (pin i v) (named_by c (setting (digit e)) r)
      → List-as-Memᴰ (pin i w) (named_by c (setting (digit e)) r) → v ≡ w
