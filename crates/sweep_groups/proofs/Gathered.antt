-- The costs of a gate's columns, gathered out of the numbers table: one column after the other, and what the rows come to over
-- them.
use Rattle.common_laws.proofs.Base.{Bool, true, false, List, Option, none, some, ◌≡◌, refl, sym, ap, ap₂, ◌∙◌, ℕ, zero, suc, ◌+◌, ◌*◌, ◌-◌, ◌/◌, ◌%◌, ◌^◌, ◌≤◌, ◌<◌, ℕ_discrete}
use Rattle.common_laws.proofs.Base.{arith, length, get_or, set, length-set, pow_mono, get_or-set_same, get_or-set_other}
use Rattle.sizes.specs.Sizes as Size
use Rattle.reading.specs.Choice.{pick}
use Rattle.sweep_wires.specs.Wires.{once_columns, both_columns}
use Rattle.sweep_wires.proofs.RowBits.{once-few}
use Rattle.sizes.specs.Places.{setting_place, observing_place}
use Rattle.cost.specs.Cost.{◌⊕◌, capped, lesser}
use Rattle.plans.specs.System.{Way}
use Rattle.plans.specs.Sweep.{at, sums, way, least}
use Rattle.plans.proofs.Laws.{at_getD}
use Rattle.sweep_sums.specs.Columns.{with_named, column_places, named_columns}
use Rattle.sweep_sums.proofs.Columns.{fewer-places}
use Rattle.sweep_groups.specs.Tables.{column_place, row_places, read_row, with_way, row_ways, group_ways, group_columns}
use Rattle.sweep_groups.specs.Fits.{LinesFit, Gathered, GroupFits}
use Rattle.sweep_groups.proofs.Rows.{line-column, observe-column, column-inside}

stands : (kind : ℕ) (lines : List ℕ) (pins : ℕ) (numbers : List ℕ) → kind ≤ 1 → LinesFit lines pins → length numbers ≡ Size.numbers → (j : ℕ)
    → get_or numbers (column_place kind lines pins j) 0 ≡ at numbers (column_place kind lines pins j)
stands kind lines pins numbers k f size j = sym (at_getD numbers (column_place kind lines pins j) 0 (omega (arith, column-inside kind lines pins j k f)))

module _ {kind : ℕ} {lines : List ℕ} {pins : ℕ} {numbers : List ℕ} where
  pub gather_none : {costs : List ℕ} → length costs ≡ Size.columns → Gathered 0 kind lines pins numbers costs
  gather_none e = record { size = e; each = λ j h. absurd (omega arith) }

  -- One column more.
  gather-next : {n : ℕ} {costs : List ℕ} → Gathered n kind lines pins numbers costs → n < Size.columns → (x : ℕ) → x ≡ at numbers (column_place kind lines pins n)
      → Gathered (suc n) kind lines pins numbers (set costs n x)
  unfolding at
  gather-next {n} {costs} g few x e = record { size = length-set costs n x ∙ g.size; each = λ j h. go j h (ℕ_discrete j n) }
    where
      go : (j : ℕ) → j < suc n → Dec (j ≡ n) → at (set costs n x) j ≡ at numbers (column_place kind lines pins j)
      go j h (yes q) = rw q (get_or-set_same costs n x _ (omega (arith, g.size)) ∙ e)
      go j h (no q) = get_or-set_other costs n j x _ q ∙ g.each j (omega arith)

  module _ (kind_fits : kind ≤ 1) (fit : LinesFit lines pins) (size : length numbers ≡ Size.numbers) where
    -- A line at 1, and at 0.
    pub gather-line : {back : ℕ} {costs : List ℕ} → Gathered (2 * back) kind lines pins numbers costs → back ≤ pins
        → let place = setting_place kind (get_or lines (pins - back) 0) 0 in
        Gathered (2 * (back + 1)) kind lines pins numbers (set (set costs (2 * back) (get_or numbers (place + 1) 0)) (2 * back + 1) (get_or numbers place 0))
    gather-line {back} {costs} g h =
        let few = fit.count in
        let line = get_or lines (pins - back) 0 in
        let place = setting_place kind line 0 in
        let b1 : 2 * back / 2 ≡ back = omega arith in
        let v1 : 1 - 2 * back % 2 ≡ 1 = omega arith in
        let b0 : suc (2 * back) / 2 ≡ back = omega arith in
        let v0 : 1 - suc (2 * back) % 2 ≡ 0 = omega arith in
        let p1 : setting_place kind line 1 ≡ place + 1 = omega arith in
        let c1 : column_place kind lines pins (2 * back) ≡ place + 1 =
        line-column kind lines pins (2 * back) (omega arith) ∙ rw (b1, v1) p1 in
        let c0 : column_place kind lines pins (suc (2 * back)) ≡ place =
        line-column kind lines pins (suc (2 * back)) (omega arith) ∙ rw (b0, v0) in
        let e : 2 * (back + 1) ≡ suc (suc (2 * back)) = omega arith in
        let n : 2 * back + 1 ≡ suc (2 * back) = omega arith in
        rw (e, n)
        (gather-next
        (gather-next g (omega arith) (get_or numbers (place + 1) 0) (rw (← c1) (stands kind lines pins numbers kind_fits fit size (2 * back))))
        (omega arith) (get_or numbers place 0) (rw (← c0) (stands kind lines pins numbers kind_fits fit size (suc (2 * back)))))

    -- The output observed.
    pub gather-observed : {costs : List ℕ} → Gathered (2 * (pins + 1)) kind lines pins numbers costs
        → Gathered (2 * pins + 3) kind lines pins numbers (set costs (2 * pins + 2) (get_or numbers (observing_place kind (get_or lines 0 0)) 0))
    gather-observed {costs} g =
        let few = fit.count in
        let c : column_place kind lines pins (2 * pins + 2) ≡ observing_place kind (get_or lines 0 0) =
        observe-column kind lines pins (2 * pins + 2) (omega arith) in
        let e : 2 * pins + 3 ≡ suc (2 * pins + 2) = omega arith in
        let n : 2 * (pins + 1) ≡ 2 * pins + 2 = omega arith in
        rw e (gather-next (rw n at g) (omega arith) _ (rw (← c) (stands kind lines pins numbers kind_fits fit size (2 * pins + 2))))

  -- ---- sums over the costs are sums over the numbers

  module _ {count : ℕ} {costs : List ℕ} (g : Gathered count kind lines pins numbers costs) where
    sums_same : (k first columns : ℕ) → first + k ≤ count
        → sums costs (column_places (λ j. j) k first columns) ≡ sums numbers (column_places (column_place kind lines pins) k first columns)
    unfolding column_places with_named sums
    sums_same zero first columns h = refl
    sums_same (suc k) first columns h = go (columns % 2) (sums_same k (suc first) (columns / 2) (omega arith))
      where
        go : (r : ℕ) → sums costs (column_places (λ j. j) k (suc first) (columns / 2)) ≡ sums numbers (column_places (column_place kind lines pins) k (suc first) (columns / 2))
            → sums costs (with_named r first (column_places (λ j. j) k (suc first) (columns / 2)))
            ≡ sums numbers (with_named r (column_place kind lines pins first) (column_places (column_place kind lines pins) k (suc first) (columns / 2)))
        go zero ih = ih
        go (suc r) ih = ap₂ (λ (a b : ℕ). a ⊕ b) (g.each first (omega arith)) ih

    pub row_same : (columns : ℕ) → count ≤ 32 → columns < 2 ^ count → sums costs (named_columns columns) ≡ sums numbers (row_places kind lines pins columns)
    unfolding named_columns row_places
    row_same columns few b =
        let s : 32 ≡ count + (32 - count) = omega arith in
        ap (λ (k : ℕ). sums costs (column_places (λ j. j) k 0 columns)) s
        ∙ ap (sums costs) (fewer-places (λ j. j) count (32 - count) 0 columns b)
        ∙ sums_same count 0 columns (omega arith)
        ∙ sym (ap (λ (k : ℕ). sums numbers (column_places (column_place kind lines pins) k 0 columns)) s
        ∙ ap (sums numbers) (fewer-places (column_place kind lines pins) count (32 - count) 0 columns b))

    -- Rows that are read as some of the columns.
    module _ (read : ℕ → Option ℕ) (narrow : (c x : ℕ) → c < 2 ^ count → read c ≡ some x → x < 2 ^ count) where
      pub rows_same : (library : List ℕ) (n place : ℕ) → count ≤ 32 → ((i : ℕ) → i < n → get_or library (place + Size.row_words * i + 1) 0 < 2 ^ count)
          → least costs (row_ways read named_columns library n place) ≡ least numbers (row_ways read (row_places kind lines pins) library n place)
      unfolding row_ways with_way least way
      rows_same library zero place few b = refl
      rows_same library (suc n) place few b =
          side (read (get_or library (place + 1) 0)) refl _ _ (rows_same library n (place + Size.row_words) few (λ i h. rw (next i) (b (suc i) (omega arith))))
        where
          next : (i : ℕ) → place + Size.row_words + Size.row_words * i ≡ place + Size.row_words * suc i
          next i = omega arith

          first : get_or library (place + 1) 0 < 2 ^ count
          first = let z : place + Size.row_words * 0 ≡ place = omega arith in rw z at (b 0 (omega arith))

          side : (o : Option ℕ) → read (get_or library (place + 1) 0) ≡ o → (us vs : List Way) → least costs us ≡ least numbers vs
              → least costs (with_way (get_or library place 0) named_columns o us) ≡ least numbers (with_way (get_or library place 0) (row_places kind lines pins) o vs)
          side none e us vs ih = ih
          side (some x) e us vs ih =
              ap₂ (λ (y z : ℕ). lesser (capped (get_or library place 0) ⊕ y) z) (row_same x few (narrow (get_or library (place + 1) 0) x first e)) ih

      -- The least row sum of a group.
      pub group_same : (library : List ℕ) (group : ℕ) → count ≤ Size.columns → GroupFits library group count
          → least costs (group_columns read library group) ≡ least numbers (group_ways read (row_places kind lines pins) library group)
      unfolding group_ways
      group_same library group few f = rows_same library (get_or library group 0) (group + 1) (omega arith) f.columns

-- A group whose rows have so few columns.
pub group_wider : {library : List ℕ} {group count : ℕ} → count ≤ Size.columns → GroupFits library group count → GroupFits library group Size.columns
group_wider {library} {group} {count} few f =
    record {
      room = f.room;
      depth = f.depth;
      columns = λ i h. omega (arith, f.columns i h, pow_mono few);
    }

-- A row is read as columns that it has.
pub read-narrow : (wired : Bool) (lines : List ℕ) (pins count : ℕ) → count ≤ 32 → (c x : ℕ) → c < 2 ^ count → read_row wired lines pins c ≡ some x → x < 2 ^ count
unfolding read_row pick
read-narrow true lines pins count few c x h e = side (both_columns lines pins c) e
  where
    side : (b : Bool) → pick b none (some (once_columns lines pins c)) ≡ some x → x < 2 ^ count
    side true q = let z : ◌≡◌ {A = ℕ} 0 1 = cc in absurd (omega arith)
    side false q = let z : once_columns lines pins c ≡ x = cc in rw z at (once-few lines pins c count few h)
read-narrow false lines pins count few c x h e = let z : c ≡ x = cc in rw z at h
