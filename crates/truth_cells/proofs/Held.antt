-- What the tests of rows and groups say of a table in which groups stand.
use Rattle.common_laws.proofs.Base.{true, List, [], ◌∷◌, map, ◌↔◌, ◌≡◌, refl, sym, ap, ◌∙◌, ℕ, suc, ◌+◌, ◌*◌, ◌/◌, ◌%◌, ◌≤◌, ◌<◌, add-zero, add-suc, arith, eqb, length, get_or, drop}
use Rattle.common_laws.proofs.Base.{drop_of_length-le, drop-cons, eqb-true, eq-eqb}
use Rattle.sizes.specs.Places.{group_place}
use Rattle.sizes.specs.Sizes as Size
use Rattle.reading.specs.Each.{Each}
use Rattle.reading.proofs.Laws.{and_left, and_right}
use Rattle.library_table.specs.Cells.{Row, Group, no_row}
use Rattle.truth_tables.specs.Entries.{row_number}
use Rattle.truth_cells.specs.Words.{row_is, rows_are, groups_are}

-- A group that starts at a number of the table.
pub record Stands (table : List ℕ) (at : ℕ) (g : Group) : Type 0 where
  pub count : get_or table at 0 ≡ length g
  pub most : length g ≤ Size.rows
  pub depth : (r : ℕ) → r < length g → get_or table (at + 1 + 2 * r) 0 ≡ (get_or g r no_row).depth
  pub columns : (r : ℕ) → r < length g → get_or table (at + 2 + 2 * r) 0 ≡ (get_or g r no_row).columns

-- No row is deeper than a plain entry can write.
unfoldable pub Shallow : Group → Type 0
Shallow g = Each (λ (r : Row). r.depth ≤ 1) g

abbrev row_with : ℕ → ℕ → Row
row_with depth columns = record { depth = depth; columns = columns }

row_same : (r q : Row) → r.depth ≡ q.depth → r.columns ≡ q.columns → r ≡ q
row_same r q d c = ap (λ (x : ℕ). row_with x r.columns) d ∙ ap (row_with q.depth) c

number-depth : (r : Row) → r.depth ≤ 1 → row_number r % 2 ≡ r.depth
unfolding row_number
number-depth r h = omega arith

number-columns : (r : Row) → r.depth ≤ 1 → row_number r / 2 ≡ r.columns
unfolding row_number
number-columns r h = omega arith

module _ (table : List ℕ) (at : ℕ) (g : Group) (s : Stands table at g) where
  rows-count : (r : ℕ) (xs : List ℕ) → rows_are table at r xs ≡ true → length g ≡ r + length xs
  unfolding rows_are
  rows-count r [] e = omega (arith, s.count, eqb-true (get_or table at 0) r e)
  rows-count r (x ∷ xs) e =
      omega (arith, rows-count (suc r) xs (and_right (row_is table at r x) (rows_are table at (suc r) xs) e))

  row_held : (r : ℕ) (x : Row) → r < length g → x.depth ≤ 1 → row_is table at r (row_number x) ≡ true → get_or g r no_row ≡ x
  unfolding row_is
  row_held r x h d e =
      let a = eqb (get_or table (at + 1 + 2 * r) 0) (row_number x % 2) in
      let b = eqb (get_or table (at + 2 + 2 * r) 0) (row_number x / 2) in
      row_same (get_or g r no_row) x
      (sym (s.depth r h) ∙ eqb-true _ _ (and_left a b e) ∙ number-depth x d)
      (sym (s.columns r h) ∙ eqb-true _ _ (and_right a b e) ∙ number-columns x d)

  rows-held : (r : ℕ) (x : Group) → Shallow x → rows_are table at r (map row_number x) ≡ true → drop r g ≡ x
  unfolding rows_are Shallow Each
  rows-held r [] d e = let past : length g ≤ r = omega (arith, rows-count r [] e) in drop_of_length-le g past
  rows-held r (q ∷ x) d e =
      let first = row_is table at r (row_number q) in
      let others = rows_are table at (suc r) (map row_number x) in
      let here : r < length g = omega (arith, rows-count (suc r) (map row_number x) (and_right first others e)) in
      drop-cons g r no_row here
      ∙ rw (row_held r q here d.0 (and_left first others e), rows-held (suc r) x d.1 (and_right first others e)) refl

  row_holds : (r : ℕ) (x : Row) → r < length g → x.depth ≤ 1 → get_or g r no_row ≡ x
      → row_is table at r (row_number x) ≡ true
  unfolding row_is
  row_holds r x h d e =
      let deep = s.depth r h ∙ ap (λ (q : Row). q.depth) e ∙ sym (number-depth x d) in
      let named = s.columns r h ∙ ap (λ (q : Row). q.columns) e ∙ sym (number-columns x d) in
      rw (
        eq-eqb (get_or table (at + 1 + 2 * r) 0) (row_number x % 2) deep,
        eq-eqb (get_or table (at + 2 + 2 * r) 0) (row_number x / 2) named,
      )
      refl

  rows_hold : (r : ℕ) (x : Group) → Shallow x → r + length x ≡ length g → drop r g ≡ x
      → rows_are table at r (map row_number x) ≡ true
  unfolding rows_are Shallow Each
  rows_hold r [] d l e = eq-eqb (get_or table at 0) r (omega (arith, s.count))
  rows_hold r (q ∷ x) d l e =
      let here : r < length g = omega arith in
      let parts : get_or g r no_row ∷ drop (suc r) g ≡ q ∷ x = sym (drop-cons g r no_row here) ∙ e in
      let first : get_or g r no_row ≡ q = cc in
      let others : drop (suc r) g ≡ x = cc in
      rw (row_holds r q here d.0 first) (rows_hold (suc r) x d.1 (omega arith) others)

  -- The test of a group.
  is_rows : (x : Group) → Shallow x → (rows_are table at 0 (map row_number x) ≡ true) ↔ (g ≡ x)
  is_rows x d = (λ e. rows-held 0 x d e, λ e. rows_hold 0 x d (omega (arith, ap length e)) e)

-- Groups of cell k that stand one behind the other, from one on.
unfoldable pub Stand : List ℕ → (k first : ℕ) → List Group → Type 0
Stand table k first gs = (i : ℕ) → i < length gs → Stands table (group_place k (first + i)) (get_or gs i [])

module _ (table : List ℕ) (k first : ℕ) (gs : List Group) (stand : Stand table k first gs) where
  is_group : (i : ℕ) → i < length gs → (x : Group) → Shallow x
      → (rows_are table (group_place k (first + i)) 0 (map row_number x) ≡ true) ↔ (get_or gs i [] ≡ x)
  unfolding Stand
  is_group i h x d = is_rows table (group_place k (first + i)) (get_or gs i []) (stand i h) x d

  groups-held : (i : ℕ) (xs : List Group) → Each Shallow xs → i + length xs ≡ length gs
      → groups_are table k (first + i) xs ≡ true → drop i gs ≡ xs
  unfolding groups_are Each
  groups-held i [] d l e = let past : length gs ≤ i = omega arith in drop_of_length-le gs past
  groups-held i (x ∷ xs) d l e =
      let here : i < length gs = omega arith in
      let a = rows_are table (group_place k (first + i)) 0 (map row_number x) in
      let b = groups_are table k (suc (first + i)) xs in
      drop-cons gs i [] here
      ∙ rw (
        (is_group i here x d.0).0 (and_left a b e),
        groups-held (suc i) xs d.1 (omega arith) (rw (add-suc first i) (and_right a b e)),
      )
      refl

  groups_hold : (i : ℕ) (xs : List Group) → Each Shallow xs → i + length xs ≡ length gs → drop i gs ≡ xs
      → groups_are table k (first + i) xs ≡ true
  unfolding groups_are Each
  groups_hold i [] d l e = refl
  groups_hold i (x ∷ xs) d l e =
      let here : i < length gs = omega arith in
      let parts : get_or gs i [] ∷ drop (suc i) gs ≡ x ∷ xs = sym (drop-cons gs i [] here) ∙ e in
      let one : get_or gs i [] ≡ x = cc in
      let others : drop (suc i) gs ≡ xs = cc in
      rw ((is_group i here x d.0).1 one)
      (rw (add-suc first i) at (groups_hold (suc i) xs d.1 (omega arith) others))

  -- The test of groups.
  pub is_groups : (xs : List Group) → Each Shallow xs → length xs ≡ length gs
      → (groups_are table k first xs ≡ true) ↔ (gs ≡ xs)
  is_groups xs d l = (
    λ e. groups-held 0 xs d (omega arith) (rw (add-zero first) e),
    λ e. rw (add-zero first) at (groups_hold 0 xs d (omega arith) e),
  )
