-- What a library table tells of its entries, groups and rows, whatever stands in it; and tables that hold accepted cells.
use Rattle.std.specs.Prelude.{List, [], ◌∷◌, ◌++◌, ◌≡◌, ℕ, zero, suc, ◌+◌, ◌*◌, ◌<◌, length, get_or}
use Rattle.sizes.specs.Places.{cell_place, group_place}
use Rattle.sizes.specs.Sizes as Size
use Rattle.library_table.specs.Cells.{Row, Group, Cell}
use Rattle.library_table.specs.Layout.{library_words}
use Rattle.library_table.specs.Sound as C

-- What stands at `count` places, from one on.
unfoldable pub listed : {A : Type 0} → (ℕ → A) → (first count : ℕ) → List A
listed f first zero = []
listed f first (suc count) = f first ∷ listed f (suc first) count

-- The numbers of cell k before its groups: its name, pins and heading.
unfoldable pub entry_at : List ℕ → ℕ → List ℕ
entry_at table k = listed (λ i. get_or table (cell_place k + i) 0) 0 Size.groups_at

-- The row that starts at a number of the table.
unfoldable pub row_at : List ℕ → ℕ → Row
row_at table at = record { depth = get_or table at 0; columns = get_or table (at + 1) 0 }

-- The group that starts at a number of the table, its rows behind their count; all groups of cell k.
unfoldable pub group_at : List ℕ → ℕ → Group
group_at table at = listed (λ r. row_at table (at + 1 + Size.row_words * r)) 0 (get_or table at 0)

unfoldable pub groups_at : List ℕ → ℕ → List Group
groups_at table k = listed (λ g. group_at table (group_place k g)) 0 Size.groups

-- ---- tables that hold accepted cells

pub record HoldsCells (table : List ℕ) (cells : List Cell) : Type 0 where
  pub past : List ℕ
  pub stand : table ≡ library_words cells ++ past
  pub sound : C.Sound cells

pub record SomeCells (table : List ℕ) : Type 0 where
  pub cells : List Cell
  pub holds : HoldsCells table cells

-- Two such tables, and a cell that both have.
pub record BothHave (old new : List ℕ) (k : ℕ) : Type 0 where
  pub olds : SomeCells old
  pub news : SomeCells new
  pub in_old : k < length olds.cells
  pub in_new : k < length news.cells
