-- The first of the rows that come to the least sum, and the same over the costs of the columns and over the numbers.
use Rattle.common_laws.proofs.Base.{Bool, true, false, List, [], Option, none, some, ◌≡◌, refl, sym, ◌∙◌, ℕ, zero, suc, ◌+◌, ◌*◌, ◌-◌, ◌^◌, ◌≤◌, ◌<◌, arith, le-leb, lt-leb}
use Rattle.common_laws.proofs.Base.{ltb-true, ltb-false, ltb, get_or}
use Rattle.sizes.specs.Sizes as Size
use Rattle.reading.specs.Choice.{pick}
use Rattle.cost.specs.Cost.{over, capped, never, lesser, counted, ◌⊕◌}
use Rattle.cost.proofs.Laws.{sum_bound}
use Rattle.plans.specs.System.{Way}
use Rattle.plans.specs.Sweep.{sums, way, least}
use Rattle.plans.specs.Trace.{first_place}
use Rattle.plans.proofs.Laws.{least-bound}
use Rattle.sweep_sums.specs.Columns.{named_columns}
use Rattle.sweep_sums.specs.declared.Sum.{Sum}
use Rattle.sweep_sums.specs.Sums.{sum_number, Summed, row_sum}
use Rattle.sweep_groups.specs.Tables.{row_places, has_way, with_way, row_ways, group_columns, group_ways}
use Rattle.sweep_groups.specs.Fits.{Gathered, GroupFits}
use Rattle.sweep_groups.specs.Sums.{lesser_row}
use Rattle.sweep_groups.proofs.Gathered.{row_same, rows_same}
use Rattle.sweep_groups.proofs.Rows.{least_from, rows_none, rows_more, rows_all}
use Rattle.plan_marks.specs.Rows.{step_row, way_row, FirstOf}

-- ---- one row before others

module _ (costs : List ℕ) (d : ℕ) (shallow : d ≤ over) where
  here : (o : Option ℕ) (ws : List Way) (f : ℕ → ℕ) → has_way o ≡ true → lesser_row costs d o never ≤ least costs ws
      → step_row o (first_place costs (with_way d named_columns o ws)) f ≡ 0
  unfolding has_way lesser_row row_sum lesser counted step_row with_way first_place way capped pick
  here none ws f b h = let z : ◌≡◌ {A = ℕ} 0 1 = cc in absurd (omega arith)
  here (some x) ws f b h =
      let c : capped d ≡ d = omega arith in
      let s : d ⊕ sums costs (named_columns x) ≤ least costs ws = omega (arith, sum_bound d (sums costs (named_columns x)), least-bound costs ws) in
      rw (c, le-leb (d ⊕ sums costs (named_columns x)) (least costs ws) s)

  later : (o : Option ℕ) (ws : List Way) (f : ℕ → ℕ) → least costs ws < lesser_row costs d o never
      → step_row o (first_place costs (with_way d named_columns o ws)) f ≡ suc (f (first_place costs ws))
  unfolding lesser_row row_sum lesser counted step_row with_way first_place way capped pick
  later none ws f h = refl
  later (some x) ws f h =
      let c : capped d ≡ d = omega arith in
      let s : least costs ws < d ⊕ sums costs (named_columns x) = omega (arith, sum_bound d (sums costs (named_columns x))) in
      rw (c, lt-leb (d ⊕ sums costs (named_columns x)) (least costs ws) s)

  past : (o : Option ℕ) (ws : List Way) (f : ℕ → ℕ) → has_way o ≡ false → step_row o (first_place costs (with_way d named_columns o ws)) f ≡ suc (f (first_place costs ws))
  unfolding has_way step_row with_way
  past none ws f b = refl
  past (some x) ws f b = let z : ◌≡◌ {A = ℕ} 0 1 = cc in absurd (omega arith)

  unread : (o : Option ℕ) (best : ℕ) → has_way o ≡ false → lesser_row costs d o best ≡ best
  unfolding has_way lesser_row
  unread none best b = refl
  unread (some x) best b = let z : ◌≡◌ {A = ℕ} 0 1 = cc in absurd (omega arith)

  joined : (o : Option ℕ) (best : ℕ) → best ≤ never → lesser_row costs d o best ≡ lesser (lesser_row costs d o never) best
  unfolding lesser_row row_sum lesser counted
  joined none best b = omega arith
  joined (some x) best b = omega (arith, sum_bound d (sums costs (named_columns x)))

module _ (read : ℕ → Option ℕ) (library costs : List ℕ) (group : ℕ) where
  abbrev rows_from_lem : ℕ → List Way
  rows_from_lem row = row_ways read named_columns library (get_or library group 0 - row) (group + 1 + Size.row_words * row)

  -- The first of the rows from `row` on that come to the least of their sums.
  abbrev first_from : ℕ → ℕ
  first_from row = row + way_row read library (get_or library group 0 - row) (group + 1 + Size.row_words * row) (first_place costs (rows_from_lem row))

  module _ (row : ℕ) (within : row < get_or library group 0) (fit : GroupFits library group Size.columns) where
    abbrev place : ℕ
    place = group + 1 + Size.row_words * row

    abbrev sum : ℕ
    sum = lesser_row costs (get_or library place 0) (read (get_or library (place + 1) 0)) never

    more : get_or library group 0 - row ≡ suc (get_or library group 0 - (row + 1))
    more = omega arith

    next : place + Size.row_words ≡ group + 1 + Size.row_words * (row + 1)
    next = omega arith

    deep : get_or library place 0 ≤ over
    deep = fit.depth row within

    abbrev behind : ℕ → ℕ
    behind = way_row read library (get_or library group 0 - (row + 1)) (group + 1 + Size.row_words * (row + 1))

    first_here : sum ≤ least_from read library costs group (row + 1) → has_way (read (get_or library (place + 1) 0)) ≡ true → row ≡ first_from row
    unfolding row_ways way_row
    first_here h b =
        let e = here costs (get_or library place 0) deep (read (get_or library (place + 1) 0)) (rows_from_lem (row + 1)) behind b h in
        rw (more, next) (omega (arith, e))

    first_later : least_from read library costs group (row + 1) < sum → first_from (row + 1) ≡ first_from row
    unfolding row_ways way_row
    first_later h =
        let e = later costs (get_or library place 0) deep (read (get_or library (place + 1) 0)) (rows_from_lem (row + 1)) behind h in
        rw (more, next) (omega (arith, e))

    -- A row that is no way is passed over.
    first_past : has_way (read (get_or library (place + 1) 0)) ≡ false → first_from (row + 1) ≡ first_from row
    unfolding row_ways way_row
    first_past b =
        let e = past costs (get_or library place 0) deep (read (get_or library (place + 1) 0)) (rows_from_lem (row + 1)) behind b in
        rw (more, next) (omega (arith, e))

    least_is_lem : lesser_row costs (get_or library place 0) (read (get_or library (place + 1) 0)) (least_from read library costs group (row + 1)) ≡ least_from read library costs group row
    least_is_lem =
        let z : row + 1 - 1 ≡ row = omega arith in
        rw z at (rows_more read library costs group (row + 1) Size.columns (omega arith) (omega arith) fit)

    lesser_is : lesser sum (least_from read library costs group (row + 1)) ≡ least_from read library costs group row
    lesser_is =
        sym (joined costs (get_or library place 0) deep (read (get_or library (place + 1) 0)) (least_from read library costs group (row + 1)) (least-bound costs (rows_from_lem (row + 1))))
        ∙ least_is_lem

    least-past : has_way (read (get_or library (place + 1) 0)) ≡ false → least_from read library costs group (row + 1) ≡ least_from read library costs group row
    least-past b = sym (unread costs (get_or library place 0) deep (read (get_or library (place + 1) 0)) (least_from read library costs group (row + 1)) b) ∙ least_is_lem

  first_none : (row : ℕ) → row ≡ get_or library group 0 → row ≡ first_from row
  unfolding way_row
  first_none row h = let e : get_or library group 0 - row ≡ 0 = omega arith in rw e (omega arith)

  first_all : (row : ℕ) → row ≤ 0 → first_from row ≡ way_row read library (get_or library group 0) (group + 1) (first_place costs (group_columns read library group))
  unfolding group_ways
  first_all row h =
      let e : row ≡ 0 = omega arith in
      let n : get_or library group 0 - 0 ≡ get_or library group 0 = omega arith in
      let m : group + 1 + Size.row_words * 0 ≡ group + 1 = omega arith in
      rw (e, n, m) (omega arith)

-- ---- the rows before `row` do not come to the least sum

pub record Sought (read : ℕ → Option ℕ) (library costs : List ℕ) (group row : ℕ) : Type 0 where
  pub within : row ≤ get_or library group 0
  pub least_is : least_from read library costs group row ≡ least costs (group_columns read library group)
  pub first_is : first_from read library costs group row ≡ way_row read library (get_or library group 0) (group + 1) (first_place costs (group_columns read library group))

row_bound : (costs : List ℕ) (d : ℕ) (o : Option ℕ) → lesser_row costs d o never ≤ never
unfolding lesser_row lesser counted
row_bound costs d none = omega arith
row_bound costs d (some x) = omega arith

module _ {read : ℕ → Option ℕ} {library costs : List ℕ} {group : ℕ} where
  pub sought_none : Sought read library costs group 0
  sought_none =
      record {
        within = omega arith;
        least_is = rows_all read library costs group 0 (omega arith);
        first_is = first_all read library costs group 0 (omega arith);
      }

  module _ {row : ℕ} (k : Sought read library costs group row) (b : row < get_or library group 0) (fit : GroupFits library group Size.columns) where
    abbrev row_at : ℕ
    row_at = group + 1 + Size.row_words * row

    abbrev comes_to : ℕ
    comes_to = lesser_row costs (get_or library row_at 0) (read (get_or library (row_at + 1) 0)) never

    -- How the row's sum stands to the least.
    module _ {kind : ℕ} {sum lowest : Sum} {lower : Bool} (s : Summed kind comes_to sum) (l : Summed kind (least costs (group_columns read library group)) lowest)
        (e : lower ≡ ltb (counted (sum_number lowest)) (counted (sum_number sum))) where
      test : lower ≡ ltb (counted (least_from read library costs group row)) (counted comes_to)
      test = e ∙ rw (l.comes_to, s.comes_to, k.least_is)

      abbrev bounds : (least_from read library costs group row ≤ never) × (least_from read library costs group (row + 1) ≤ never) × (comes_to ≤ never)
      bounds = (
        least-bound costs (rows_from_lem read library costs group row),
        least-bound costs (rows_from_lem read library costs group (row + 1)),
        row_bound costs (get_or library row_at 0) (read (get_or library (row_at + 1) 0)),
      )

      pub sought_here : {way : Bool} → way ≡ has_way (read (get_or library (row_at + 1) 0)) → way ≡ true → lower ≡ false
          → FirstOf read library group costs row
      unfolding lesser counted
      sought_here w t h =
          let f : comes_to ≤ least_from read library costs group (row + 1) =
          omega (arith, bounds, lesser_is read library costs group row b fit, ltb-false (counted (least_from read library costs group row)) (counted comes_to) (sym test ∙ h)) in
          record {
            row = first_here read library costs group row b fit f (sym w ∙ t) ∙ k.first_is;
            few = omega arith;
            some = λ j. b;
          }

      pub sought_later : lower ≡ true → Sought read library costs group (row + 1)
      unfolding lesser counted
      sought_later h =
          let g = ltb-true (counted (least_from read library costs group row)) (counted comes_to) (sym test ∙ h) in
          let f : least_from read library costs group (row + 1) < comes_to = omega (arith, bounds, lesser_is read library costs group row b fit, g) in
          let same : least_from read library costs group (row + 1) ≡ least_from read library costs group row = omega (arith, bounds, lesser_is read library costs group row b fit, g) in
          record {
            within = omega arith;
            least_is = same ∙ k.least_is;
            first_is = first_later read library costs group row b fit f ∙ k.first_is;
          }

    pub sought_past : {way : Bool} → way ≡ has_way (read (get_or library (row_at + 1) 0)) → way ≡ false → Sought read library costs group (row + 1)
    sought_past w t =
        record {
          within = omega arith;
          least_is = least-past read library costs group row b fit (sym w ∙ t) ∙ k.least_is;
          first_is = first_past read library costs group row b fit (sym w ∙ t) ∙ k.first_is;
        }

  -- Where no row does, there is no sum below never.
  pub sought_all : {row : ℕ} → row ≡ get_or library group 0 → Sought read library costs group row → FirstOf read library group costs row
  sought_all {row} e k =
      record {
        row = first_none read library costs group row e ∙ k.first_is;
        few = k.within;
        some = λ j. absurd (omega (arith, rows_none read library costs group row e, k.least_is));
      }

-- ---- the same over the numbers

module _ {count kind : ℕ} {lines : List ℕ} {pins : ℕ} {numbers costs : List ℕ} (g : Gathered count kind lines pins numbers costs)
    (read : ℕ → Option ℕ) (narrow : (c x : ℕ) → c < 2 ^ count → read c ≡ some x → x < 2 ^ count) where
  firsts_same : (library : List ℕ) (n place : ℕ) → count ≤ 32 → ((i : ℕ) → i < n → get_or library (place + Size.row_words * i + 1) 0 < 2 ^ count)
      → first_place costs (row_ways read named_columns library n place) ≡ first_place numbers (row_ways read (row_places kind lines pins) library n place)
  unfolding row_ways with_way first_place way
  firsts_same library zero place few b = refl
  firsts_same library (suc n) place few b =
      side (read (get_or library (place + 1) 0)) refl _ _
      (rows_same g read narrow library n (place + Size.row_words) few (λ i h. rw (next i) (b (suc i) (omega arith))))
      (firsts_same library n (place + Size.row_words) few (λ i h. rw (next i) (b (suc i) (omega arith))))
    where
      next : (i : ℕ) → place + Size.row_words + Size.row_words * i ≡ place + Size.row_words * suc i
      next i = omega arith

      first : get_or library (place + 1) 0 < 2 ^ count
      first = let z : place + Size.row_words * 0 ≡ place = omega arith in rw z at (b 0 (omega arith))

      side : (o : Option ℕ) → read (get_or library (place + 1) 0) ≡ o → (us vs : List Way) → least costs us ≡ least numbers vs → first_place costs us ≡ first_place numbers vs
          → first_place costs (with_way (get_or library place 0) named_columns o us) ≡ first_place numbers (with_way (get_or library place 0) (row_places kind lines pins) o vs)
      side none e us vs l f = f
      side (some x) e us vs l f = rw (row_same g x few (narrow (get_or library (place + 1) 0) x first e), l, f)

  pub first_same : (library : List ℕ) (group : ℕ) → count ≤ Size.columns → GroupFits library group count
      → first_place costs (group_columns read library group) ≡ first_place numbers (group_ways read (row_places kind lines pins) library group)
  unfolding group_ways
  first_same library group few f = firsts_same library (get_or library group 0) (group + 1) (omega arith) f.columns
