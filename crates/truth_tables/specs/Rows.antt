-- When a setting of the pins meets a row, and what the rows of a cell tell of a truth table. Document 02, K6: "One fact covers
-- all truth tables: a setting of the pins gives e exactly when it meets a row of group e."
use Rattle.std.specs.Prelude.{Bool, true, false, List, [], ◌↔◌, ◌≡◌, ℕ, suc, ◌-◌, ◌<◌, eqb, length, get_or}
use Rattle.library_table.specs.Cells.{Row, Group, Cell, Column, pin, output, observe, named, setting_columns, observing_columns}
use Rattle.library_table.specs.Library.{any_of}
use Rattle.truth_tables.specs.Tables as Table

-- Whether a setting of the pins is as a column of a row says: "pin at 0", "pin at 1", "cell output at 0", "at 1". "observe the
-- output" asks nothing of a setting.
unfoldable pub as_named : List Bool → Table.Setting → Column → Bool
as_named bits s (pin i v) = eqb (Table.digit (get_or s (i - 1) false)) v
as_named bits s (output v) = eqb (Table.digit (Table.output bits s)) v
as_named bits s observe = true

-- A setting meets a row of n pins where it is as each column says that the row names.
unfoldable pub meets_row : ℕ → List Column → List Bool → Table.Setting → Row → Bool
meets_row n columns bits s r = Table.all_of (as_named bits s) (named n columns r.columns)

-- "a setting of the pins gives e exactly when it meets a row of group e"
abbrev pub Sets : ℕ → List Bool → List Group → Type 0
Sets n bits gs =
    (e : Bool) (s : Table.Setting) → length s ≡ n
    → (Table.output bits s ≡ e) ↔ (any_of (meets_row n (setting_columns n) bits s) (get_or gs (Table.digit e) []) ≡ true)

-- The same of observing: the output changes with the pin behind k others, at a setting s of the other pins, exactly when the
-- setting meets a row of that pin's group, whichever value v the pin has.
abbrev pub Observes : ℕ → List Bool → List Group → Type 0
Observes n bits gs =
    (k : ℕ) (s : Table.Setting) (v : Bool) → k < n → suc (length s) ≡ n
    → (Table.output bits (Table.put_in k false s) ≡ Table.output bits (Table.put_in k true s) → ⊥)
    ↔ (any_of (meets_row n (observing_columns n) bits (Table.put_in k v s)) (get_or gs k []) ≡ true)

-- The rows of a cell tell a truth table, its CC and its SC rows, and its CO and its SO rows. (`rows_tell` of proofs/Rows.antt:
-- so do those of every cell that is generated.)
pub record RowsTell (c : Cell) (bits : List Bool) : Type 0 where
  pub cc : Sets c.pins bits c.cc
  pub sc : Sets c.pins bits c.sc
  pub co : Observes c.pins bits c.co
  pub so : Observes c.pins bits c.so
