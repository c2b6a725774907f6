-- The columns that a row names, each by its bit, and the list of their costs.
use Rattle.std.specs.Prelude.{List, [], ◌∷◌, ◌≡◌, ℕ, zero, suc, ◌/◌, ◌%◌, ◌^◌, ◌<◌, length}
use Rattle.sizes.specs.Sizes as Size

-- One place more where the column is named.
unfoldable pub with_named : ℕ → ℕ → List ℕ → List ℕ
with_named zero n ns = ns
with_named (suc d) n ns = n ∷ ns

-- The places of the columns that a row names, of `count` columns from column `first` on, lowest first.
unfoldable pub column_places : (ℕ → ℕ) → ℕ → ℕ → ℕ → List ℕ
column_places place zero first columns = []
column_places place (suc count) first columns =
    with_named (columns % 2) (place first) (column_places place count (suc first) (columns / 2))

-- The columns that a row names, lowest first.
unfoldable pub named_columns : ℕ → List ℕ
named_columns columns = column_places (λ j. j) 32 0 columns

-- The columns that a row names have costs.
pub record ColumnsFit (columns : ℕ) (costs : List ℕ) : Type 0 where
  pub size : length costs ≡ Size.columns
  pub few : columns < 2 ^ Size.columns
