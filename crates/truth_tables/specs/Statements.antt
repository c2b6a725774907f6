-- What is shown of every truth table, under the names of proofs/. Document 02, K6.
use Rattle.std.specs.Prelude.{Bool, true, List, [], ◌∷◌, map, ◌≡◌, ℕ, ◌≤◌}
use Rattle.reading.specs.Refusal.{read}
use Rattle.text.specs.Numeral.{name_form}
use Rattle.library_table.specs.Cells.{Cell}
use Rattle.library_table.specs.Library.{library}
use Rattle.truth_tables.specs.Tables.{Descends}
use Rattle.truth_tables.specs.Entries.{setting_group, observing_group, row_number, cell_of, entry_bytes}
use Rattle.truth_tables.specs.Generated.{Generated}
use Rattle.truth_tables.specs.Rows.{RowsTell}

-- `cell-tells`: "One fact covers all truth tables: a setting of the pins gives e exactly when it meets a row of group e." The
-- same of observing, of all four lines of the entry.
abbrev pub CellTells : Type 0
CellTells = (name : List ℕ) (n : ℕ) (bits : List Bool) → RowsTell (cell_of name n bits) bits

-- `rows_tell`: so do the rows of every cell that K8 counts as generated, whatever its name.
abbrev pub GeneratedTells : Type 0
GeneratedTells = (c : Cell) (bits : List Bool) → Generated c bits → RowsTell c bits

-- `setting-descends`, `observing-descends`: "Every group's rows stand by descending octal value", at either depth d.
abbrev pub SettingDescends : Type 0
SettingDescends = (d n : ℕ) (bits : List Bool) (e : Bool) → Descends (map row_number (setting_group d n bits e))

abbrev pub ObservingDescends : Type 0
ObservingDescends = (d n : ℕ) (bits : List Bool) (k : ℕ) → 1 ≤ n → Descends (map row_number (observing_group d n bits k))

-- `entry-accepted`: "prints a whole entry": the library reader accepts it, and reads it as the cell.
abbrev pub EntryAccepted : Type 0
EntryAccepted =
    (name : List ℕ) (n : ℕ) (bits : List Bool) →
    name_form name ≡ true →
    n ≤ 4 →
    library (entry_bytes (cell_of name n bits)) ≡ read (cell_of name n bits ∷ [])
