-- What `generated_at` says of a table that holds the cells of an accepted library.
use Rattle.common_laws.proofs.Base.{Bool, true, false, ◌&&◌, List, [], ◌∷◌, ◌++◌, map, ◌↔◌, ◌≡◌, refl, sym, ap, ◌∙◌, ℕ, zero, suc, ◌+◌, ◌^◌, ◌≤◌, ◌<◌, arith, leb, ltb, length}
use Rattle.common_laws.proofs.Base.{get_or, lt-ltb, le-leb, leb-true}
use Rattle.sizes.specs.Places.{group_place}
use Rattle.sizes.specs.Sizes as Size
use Rattle.reading.specs.Each.{Each}
use Rattle.reading.proofs.Laws.{and_left, and_right, each_at}
use Rattle.library_table.specs.Cells.{Row, Group, Cell, no_row}
use Rattle.library_table.specs.Layout.{cell_groups, first_group, library_words}
use Rattle.library_table.specs.declared.Word.{Word}
use Rattle.library_table.specs.declared.Word.TheVariants.{CC, CO, SC, SO}
use Rattle.library_table.specs.Library.{group_count, word_groups}
use Rattle.library_table.specs.Sound.{SoundGroup, SoundCell, Sound}
use Rattle.library_table.proofs.Laws.{cell-known}
use Rattle.library_table.proofs.Places.{within-space, first_most, cell_group, library-count, cell-pins}
use Rattle.library_table.proofs.Places.{group_count_lem, row_depth, row_columns}
use Rattle.truth_tables.specs.Entries.{setting_row, observing_row, setting_group, observing_group}
use Rattle.truth_tables.specs.Entries.{setting_groups, groups_from, observing_groups}
use Rattle.truth_tables.specs.Generated.{Generated}
use Rattle.truth_tables.specs.Tables.{Term, primes, gives, observing}
use Rattle.truth_cells.specs.Tabled.{HasTable}
use Rattle.truth_cells.specs.Words.{groups_are, groups_of, pins_at, table_at, generated_at}
use Rattle.truth_cells.proofs.Held.{Stands, Shallow, Stand, is_groups}
use Rattle.truth_cells.proofs.Steps.{truth_length}
use Rattle.truth_cells.proofs.Truth.{told}

-- ---- the rows of a truth table

rows-shallow : (row : Term → Row) → ((t : Term) → (row t).depth ≤ 1) → (ts : List Term) → Shallow (map row ts)
unfolding Shallow Each
rows-shallow row h [] = tt
rows-shallow row h (t ∷ ts) = (h t, rows-shallow row h ts)

module _ (d n : ℕ) (bits : List Bool) (h : d ≤ 1) where
  setting-shallow : Each Shallow (setting_groups d n bits)
  unfolding Each setting_groups setting_group setting_row
  setting-shallow = (
    rows-shallow (setting_row d) (λ t. h) (primes n (gives bits false)),
    (rows-shallow (setting_row d) (λ t. h) (primes n (gives bits true)), tt),
  )

  observing-shallow : (k left : ℕ) → Each Shallow (groups_from d n bits k left)
  unfolding Each groups_from observing_group observing_row
  observing-shallow k zero = tt
  observing-shallow k (suc left) =
      (rows-shallow (observing_row d n) (λ t. h) (observing n bits k), observing-shallow (suc k) left)

length_from : (d n : ℕ) (bits : List Bool) (k left : ℕ) → length (groups_from d n bits k left) ≡ left
unfolding groups_from
length_from d n bits k zero = refl
length_from d n bits k (suc left) = ap suc (length_from d n bits (suc k) left)

-- ---- a cell of the table

module _ (d : Cell) (cells : List Cell) (rest : List ℕ) (sound : Sound cells) (k : ℕ) (h : k < length cells) where
  abbrev table : List ℕ
  table = library_words cells ++ rest

  abbrev cell : Cell
  cell = get_or cells k d

  known : SoundCell cell
  known = each_at SoundCell cells k d h sound.each

  -- Group g.
  stands_at : (g : ℕ) → g < Size.groups → length (get_or (cell_groups cell) g []) ≤ Size.rows
      → Stands table (group_place k g) (get_or (cell_groups cell) g [])
  stands_at g hg most =
      record {
        count = group_count_lem d cells rest sound.few k h g hg;
        most = most;
        depth = λ r hr. row_depth d cells rest sound.few k h g hg r no_row most hr;
        columns = λ r hr. row_columns d cells rest sound.few k h g hg r no_row most hr;
      }

  -- The groups behind a word.
  stand : (w : Word) → Stand table k (first_group w) (word_groups w cell)
  unfolding Stand
  stand w i hi =
      let groups = cell-known w cell known in
      let few = known.header.most-pins in
      let inside : i < group_count w cell.pins = omega (arith, groups.count) in
      let here : first_group w + i < Size.groups = omega (arith, first_most w, within-space w cell.pins few) in
      let e = cell_group w cell i few inside in
      let most : length (get_or (word_groups w cell) i []) ≤ Size.rows =
      (each_at (SoundGroup w cell.pins (word_groups w cell)) (word_groups w cell) i [] hi groups.groups).most-rows in
      rw e at (stands_at (first_group w + i) here (rw e most))

  word-groups : (w : Word) (xs : List Group) → Each Shallow xs → length xs ≡ group_count w cell.pins
      → (groups_are table k (first_group w) xs ≡ true) ↔ (word_groups w cell ≡ xs)
  word-groups w xs s l =
      is_groups table k (first_group w) (word_groups w cell) (stand w) xs s (l ∙ sym (cell-known w cell known).count)

  module _ (bits : List Bool) where
    is_cc : (groups_are table k Size.cc_group (setting_groups 1 cell.pins bits) ≡ true)
        ↔ (cell.cc ≡ setting_groups 1 cell.pins bits)
    unfolding first_group word_groups group_count setting_groups
    is_cc = word-groups CC (setting_groups 1 cell.pins bits) (setting-shallow 1 cell.pins bits (omega arith)) refl

    is_sc : (groups_are table k Size.sc_group (setting_groups 0 cell.pins bits) ≡ true)
        ↔ (cell.sc ≡ setting_groups 0 cell.pins bits)
    unfolding first_group word_groups group_count setting_groups
    is_sc = word-groups SC (setting_groups 0 cell.pins bits) (setting-shallow 0 cell.pins bits (omega arith)) refl

    is_co : (groups_are table k Size.co_group (observing_groups 1 cell.pins bits) ≡ true)
        ↔ (cell.co ≡ observing_groups 1 cell.pins bits)
    unfolding first_group word_groups group_count observing_groups
    is_co =
        let n = cell.pins in
        word-groups CO (observing_groups 1 n bits) (observing-shallow 1 n bits (omega arith) 0 n) (length_from 1 n bits 0 n)

    is_so : (groups_are table k Size.so_group (observing_groups 0 cell.pins bits) ≡ true)
        ↔ (cell.so ≡ observing_groups 0 cell.pins bits)
    unfolding first_group word_groups group_count observing_groups
    is_so =
        let n = cell.pins in
        word-groups SO (observing_groups 0 n bits) (observing-shallow 0 n bits (omega arith) 0 n) (length_from 0 n bits 0 n)

  pins-here : pins_at table k ≡ cell.pins
  unfolding pins_at
  pins-here = cell-pins d cells rest sound.few k h

  table-length : length (table_at table k) ≡ 2 ^ cell.pins
  unfolding table_at
  table-length = truth_length table (group_place k (Size.cc_group + 1)) (pins_at table k) ∙ ap (λ (n : ℕ). 2 ^ n) pins-here

  -- Where the answer is true, the cell has the truth table that its rows of value 1 tell.
  pub generated-told : generated_at table k ≡ true → Generated cell (table_at table k)
  unfolding generated_at groups_of
  generated-told e =
      let n = cell.pins in
      let bits = table_at table k in
      let cc = groups_are table k Size.cc_group (setting_groups 1 n bits) in
      let sc = groups_are table k Size.sc_group (setting_groups 0 n bits) in
      let co = groups_are table k Size.co_group (observing_groups 1 n bits) in
      let so = groups_are table k Size.so_group (observing_groups 0 n bits) in
      let counted = ltb k (get_or table 0 0) in
      let all : ((counted && leb n 4) && ((cc && sc) && (co && so))) ≡ true = rw pins-here at e in
      let few = and_left (counted && leb n 4) ((cc && sc) && (co && so)) all in
      let groups = and_right (counted && leb n 4) ((cc && sc) && (co && so)) all in
      let set = and_left (cc && sc) (co && so) groups in
      let observed = and_right (cc && sc) (co && so) groups in
      record {
        few = leb-true n 4 (and_right counted (leb n 4) few);
        size = table-length;
        cc = (is_cc bits).0 (and_left cc sc set);
        co = (is_co bits).0 (and_left co so observed);
        sc = (is_sc bits).0 (and_right cc sc set);
        so = (is_so bits).0 (and_right co so observed);
      }

  table-told : (bits : List Bool) → Generated cell bits → table_at table k ≡ bits
  unfolding table_at first_group word_groups setting_groups Stand
  table-told bits g =
      let two : 1 < length cell.cc = rw g.cc (omega arith) in
      let rows = rw g.cc at (stand CC 1 two) in
      rw pins-here (told table (group_place k (Size.cc_group + 1)) 1 cell.pins bits g.size rows)

  -- A cell that has a truth table has that one, and the answer is true.
  pub generated-tells : (bits : List Bool) → Generated cell bits → (table_at table k ≡ bits) × (generated_at table k ≡ true)
  unfolding generated_at groups_of
  generated-tells bits g =
      let same = table-told bits g in (
        same,
        rw (
          library-count cells rest,
          lt-ltb k (length cells) h,
          pins-here,
          le-leb cell.pins 4 g.few,
          same,
          (is_cc bits).1 g.cc,
          (is_sc bits).1 g.sc,
          (is_co bits).1 g.co,
          (is_so bits).1 g.so,
        )
            refl,
      )

  -- The answer is true exactly when the cell has a truth table.
  pub generated-cell : (generated_at table k ≡ true) ↔ HasTable cell
  generated-cell = (
    λ e. record { bits = table_at table k; generated = generated-told e },
    λ t. (generated-tells t.bits t.generated).1,
  )
