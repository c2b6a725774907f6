-- Rows of the library table at a gate: where their columns stand, and their sums over the columns' costs.
use Rattle.common_laws.proofs.Base.{List, Option, none, some, ◌≡◌, refl, ap, ◌∙◌, ℕ, suc, ◌+◌, ◌*◌, ◌-◌, ◌/◌, ◌%◌, ◌≤◌, ◌<◌, dec_le, arith, get_or, le-leb, lt-leb}
use Rattle.sizes.specs.Sizes as Size
use Rattle.sizes.specs.Places.{setting_place, observing_place}
use Rattle.cost.specs.Cost.{over, never, capped}
use Rattle.reading.specs.Choice.{pick}
use Rattle.plans.specs.System.{Way}
use Rattle.plans.specs.Sweep.{way, least}
use Rattle.sweep_sums.specs.Columns.{named_columns}
use Rattle.sweep_sums.specs.declared.Sum.{Sum}
use Rattle.sweep_sums.specs.Sums.{sum_number, sum_kind, Summed, row_sum}
use Rattle.sweep_groups.specs.Tables.{column_place, with_way, row_ways, group_ways, group_columns}
use Rattle.sweep_groups.specs.Fits.{LinesFit, GroupFits}
use Rattle.sweep_groups.specs.Sums.{lesser_row}

-- ---- the place of a column
module _ (kind : ℕ) (lines : List ℕ) (pins : ℕ) where
  pub line-column : (j : ℕ) → j / 2 ≤ pins → column_place kind lines pins j ≡ setting_place kind (get_or lines (pins - j / 2) 0) (1 - j % 2)
  unfolding column_place pick
  line-column j h = rw (le-leb (j / 2) pins h)

  pub observe-column : (j : ℕ) → pins < j / 2 → column_place kind lines pins j ≡ observing_place kind (get_or lines 0 0)
  unfolding column_place pick
  observe-column j h = rw (lt-leb (j / 2) pins h)

  -- Every place of a line's numbers is in the table.
  pub column-inside : (j : ℕ) → kind ≤ 1 → LinesFit lines pins → column_place kind lines pins j < Size.numbers
  column-inside j k f = go (dec_le (j / 2) pins)
    where
      go : Dec (j / 2 ≤ pins) → column_place kind lines pins j < Size.numbers
      go (yes h) =
          let i = pins - j / 2 in
          let b : i ≤ pins = omega arith in
          rw (line-column j h) (omega (arith, f.least i b, f.most i b))
      go (no h) =
          let b : 0 ≤ pins = omega arith in
          rw (observe-column j (omega arith)) (omega (arith, f.least 0 b, f.most 0 b))

-- ---- the sum of one row, or never

pub row_told : (costs : List ℕ) (depth : ℕ) (row : Option ℕ) {kind : ℕ} {best sum : Sum}
    → Summed kind never best → Summed (sum_kind best) (lesser_row costs depth row (sum_number best)) sum
    → Summed kind (lesser_row costs depth row never) sum
row_told costs depth row n s =
    record { of_kind = s.of_kind ∙ n.of_kind; comes_to = s.comes_to ∙ ap (lesser_row costs depth row) n.comes_to }

-- ---- the least row sum, the rows taken from the last to the first

module _ (read : ℕ → Option ℕ) (library costs : List ℕ) (group : ℕ) where
  -- Of the rows from `row` on.
  abbrev pub least_from : ℕ → ℕ
  least_from row = least costs (row_ways read named_columns library (get_or library group 0 - row) (group + 1 + Size.row_words * row))

  pub rows_none : (row : ℕ) → row ≡ get_or library group 0 → never ≡ least_from row
  unfolding row_ways least
  rows_none row h = let e : get_or library group 0 - row ≡ 0 = omega arith in rw e

  pub rows_more : (row count : ℕ) → 0 < row → row ≤ get_or library group 0 → GroupFits library group count
      → let at = group + 1 + Size.row_words * (row - 1) in
      lesser_row costs (get_or library at 0) (read (get_or library (at + 1) 0)) (least_from row) ≡ least_from (row - 1)
  unfolding row_ways
  rows_more row count p h f =
      let at = group + 1 + Size.row_words * (row - 1) in
      let e : get_or library group 0 - (row - 1) ≡ suc (get_or library group 0 - row) = omega arith in
      let n : at + Size.row_words ≡ group + 1 + Size.row_words * row = omega arith in
      rw (e, n) (one (get_or library at 0) (f.depth (row - 1) (omega arith)) (read (get_or library (at + 1) 0)) _)
    where
      one : (d : ℕ) → d ≤ over → (o : Option ℕ) (ws : List Way) → lesser_row costs d o (least costs ws) ≡ least costs (with_way d named_columns o ws)
      one d b none ws = unfold lesser_row with_way in refl
      one d b (some x) ws = unfold lesser_row row_sum with_way least way capped in (let c : capped d ≡ d = omega arith in rw c)

  pub rows_all : (row : ℕ) → row ≤ 0 → least_from row ≡ least costs (group_columns read library group)
  unfolding group_ways
  rows_all row h =
      let e : row ≡ 0 = omega arith in
      let n : get_or library group 0 - 0 ≡ get_or library group 0 = omega arith in
      let m : group + 1 + Size.row_words * 0 ≡ group + 1 = omega arith in
      rw (e, n, m)

  -- The same of a sum in its kind.
  abbrev pub SummedFrom : ℕ → ℕ → Sum → Type 0
  SummedFrom kind row best = Summed kind (least_from row) best

  pub summed-none : {kind : ℕ} {best : Sum} → Summed kind never best → SummedFrom kind (get_or library group 0) best
  summed-none s = record { of_kind = s.of_kind; comes_to = s.comes_to ∙ rows_none (get_or library group 0) refl }

  pub summed-more : {kind row : ℕ} {best next : Sum} → 0 < row → row ≤ get_or library group 0 → GroupFits library group Size.columns
      → SummedFrom kind row best
      → let at = group + 1 + Size.row_words * (row - 1) in
      Summed (sum_kind best) (lesser_row costs (get_or library at 0) (read (get_or library (at + 1) 0)) (sum_number best)) next
      → SummedFrom kind (row - 1) next
  summed-more {row = row} p q f b n =
      let at = group + 1 + Size.row_words * (row - 1) in
      record {
        of_kind = n.of_kind ∙ b.of_kind;
        comes_to =
            n.comes_to
            ∙ ap (lesser_row costs (get_or library at 0) (read (get_or library (at + 1) 0))) b.comes_to
            ∙ rows_more row Size.columns p q f;
      }

  pub summed-all : {kind row : ℕ} {best : Sum} → row ≤ 0 → SummedFrom kind row best
      → Summed kind (least costs (group_columns read library group)) best
  summed-all {row = row} h s = record { of_kind = s.of_kind; comes_to = s.comes_to ∙ rows_all row h }
