-- What the code asks of the rows of a group.
use Rattle.std.specs.Prelude.{map, ◌≡◌, ℕ, ◌≤◌}
use Rattle.library_table.specs.Cells.{Group}
use Rattle.truth_tables.specs.Entries.{row_number}
use Rattle.truth_rows.specs.Masks.{prime_rows, number_of}
use Rattle.truth_rows.specs.declared.Asked.{Asked}

-- Of what is asked, a row's number.
unfoldable pub asked_number : Asked → ℕ → ℕ
asked_number a row = number_of a.base a.weight a.pins row

-- Few enough pins, and small numbers.
pub record Small (a : Asked) : Type 0 where
  pub pins : a.pins ≤ 4
  pub base : a.base ≤ 4096
  pub some : 1 ≤ a.weight
  pub weight : a.weight ≤ 256

-- What asks for the rows of a group.
pub record AsksFor (a : Asked) (g : Group) : Type 0 where
  pub small : Small a
  pub rows : map (asked_number a) (prime_rows a.wanted a.pins) ≡ map row_number g
