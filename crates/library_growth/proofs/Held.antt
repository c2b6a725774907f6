-- What two library tables tell, where they hold accepted cells: whether a cell has grown.
use Rattle.common_laws.proofs.Base.{Bool, true, false, not, ◌&&◌, ◌||◌, and_assoc, List, [], ◌∷◌, ◌++◌, append_assoc, ◌≡◌, refl, sym, ap, ap₂, ◌∙◌, ℕ, zero, suc, ◌+◌, ◌*◌, ◌≤◌}
use Rattle.common_laws.proofs.Base.{◌<◌, zero-add, arith, eqb-true, eqb-false, eqb, length, get_or, length-append, List-get_or-append}
use Rattle.sizes.specs.Places.{cell_place, pins_place, group_place}
use Rattle.sizes.specs.Sizes as Size
use Rattle.reading.proofs.Laws.{by_test, each_at, and_left, and_right}
use Rattle.text.specs.Lines.{same_bytes}
use Rattle.text.proofs.Laws.{same_bytes-other}
use Rattle.text.proofs.FieldLaws.{name_form-length}
use Rattle.table.specs.Blocks.{fitted, blocks}
use Rattle.table.proofs.Places.{length-fitted}
use Rattle.library_table.specs.Cells.{Row, Group, Cell, no_row}
use Rattle.library_table.specs.declared.Heading.{Heading}
use Rattle.library_table.specs.declared.Heading.TheVariants.{Plain as plain, Deep as deep}
use Rattle.library_table.specs.Library.{group_count}
use Rattle.library_table.specs.Layout.{library_words, group_words, cell_groups, heading_number, cell_words}
use Rattle.library_table.specs.Sound.{SoundCell, Sound}
use Rattle.library_table.proofs.Places.{length-cell_groups, length-library_words, library-count, cell-word, cell-pins, group_count_lem, row_depth, row_columns}
use Rattle.calculation.specs.Ways.{no_cell, one_wire}
use Rattle.calculation.specs.Growth.{keeps, pairwise, same_heading, same_entry, grown_cell, grown}
use Rattle.sweep_wires.specs.Wires.{cell_both}
use Rattle.sweep_wires.proofs.Cells.{most-rows, cell-one-wire}
use Rattle.library_growth.specs.Held.{listed, entry_at, row_at, group_at, groups_at, HoldsCells}
use Rattle.library_growth.proofs.Pairs.{listed_is, left, left-all, pairwise-length, pairwise_join, pairwise-fitted}

-- ---- a cell of a table

abbrev pub entry_words : Cell → List ℕ
entry_words c = length c.name ∷ (fitted 0 Size.name_bytes c.name ++ (c.pins ∷ heading_number c.heading ∷ []))

length-entry : (c : Cell) → length (entry_words c) ≡ Size.groups_at
length-entry c = simp (length-append, length-fitted)

cell_open : (c : Cell) → cell_words c ≡ entry_words c ++ blocks group_words (cell_groups c)
unfolding cell_words
cell_open c =
    ap (λ (xs : List ℕ). length c.name ∷ xs)
    (sym (append_assoc (fitted 0 Size.name_bytes c.name) (c.pins ∷ heading_number c.heading ∷ []) (blocks group_words (cell_groups c))))

module _ (cells : List Cell) (past : List ℕ) (sound : Sound cells) (k : ℕ) (known : k < length cells) where
  abbrev cell : Cell
  cell = get_or cells k no_cell

  abbrev table : List ℕ
  table = library_words cells ++ past

  pub cell-sound : SoundCell cell
  cell-sound = each_at SoundCell cells k no_cell known sound.each

  pub entry-held : entry_at table k ≡ entry_words cell
  unfolding entry_at
  entry-held =
      ap (listed (λ i. get_or table (cell_place k + i) 0) 0) (sym (length-entry cell))
      ∙ listed_is (λ i. get_or table (cell_place k + i) 0) 0 0 (entry_words cell)
      (λ i h.
      let few : i < Size.groups_at = omega (arith, length-entry cell) in
      rw (zero-add i)
      (cell-word no_cell cells past sound.few k known i (omega arith)
      ∙ ap (λ (xs : List ℕ). get_or xs i 0) (cell_open cell)
      ∙ List-get_or-append (entry_words cell) (blocks group_words (cell_groups cell)) 0 i h))

  abbrev rows_at : ℕ → ℕ → Row
  rows_at g r = row_at table (group_place k g + 1 + Size.row_words * r)

  row_held : (g : ℕ) → g < Size.groups → (r : ℕ) → r < length (get_or (cell_groups cell) g [])
      → rows_at g r ≡ get_or (get_or (cell_groups cell) g []) r no_row
  unfolding row_at
  row_held g h r l =
      let most = most-rows no_cell cells past sound.few k known cell-sound g h in
      let d = row_depth no_cell cells past sound.few k known g h r no_row most l in
      let e : group_place k g + 1 + Size.row_words * r + 1 ≡ group_place k g + 2 + Size.row_words * r = omega arith in
      let c = ap (λ (p : ℕ). get_or table p 0) e ∙ row_columns no_cell cells past sound.few k known g h r no_row most l in
      λ i. record { depth = d i; columns = c i }

  group_held : (g : ℕ) → g < Size.groups → group_at table (group_place k g) ≡ get_or (cell_groups cell) g []
  unfolding group_at
  group_held g h =
      ap (listed (rows_at g) 0) (group_count_lem no_cell cells past sound.few k known g h)
      ∙ listed_is (rows_at g) no_row 0 (get_or (cell_groups cell) g []) (λ r l. rw (zero-add r) (row_held g h r l))

  pub groups-held : groups_at table k ≡ cell_groups cell
  unfolding groups_at
  groups-held =
      ap (listed (λ g. group_at table (group_place k g)) 0) (sym (length-cell_groups cell))
      ∙ listed_is (λ g. group_at table (group_place k g)) [] 0 (cell_groups cell)
      (λ g h. rw (zero-add g) (group_held g (omega (arith, length-cell_groups cell))))

module _ (table : List ℕ) (cells : List Cell) (h : HoldsCells table cells) where
  pub count_held_lem : get_or table 0 0 ≡ length cells
  count_held_lem = rw h.stand (library-count cells h.past)

  module _ (k : ℕ) (known : k < length cells) where
    pub pins-held : get_or table (pins_place k) 0 ≡ (get_or cells k no_cell).pins
    pins-held = rw h.stand (cell-pins no_cell cells h.past h.sound.few k known)

    pub pins-few : get_or table (pins_place k) 0 ≤ Size.pins
    pins-few = rw pins-held (cell-sound cells h.past h.sound k known).header.most-pins

    -- All of the cell's numbers stand in the table.
    pub cell_room : cell_place k + Size.cell_words ≤ length table
    cell_room =
        omega (arith, ap length h.stand, length-append (library_words cells) h.past, length-library_words cells, h.sound.few)

-- ---- two cells

-- Names of one length, filled up.
names-fitted : (n : ℕ) (f g us vs : List ℕ) → length f ≡ length g → length f ≤ n
    → pairwise eqb (fitted 0 n f ++ us) (fitted 0 n g ++ vs) ≡ (same_bytes f g && pairwise eqb us vs)
unfolding fitted pairwise same_bytes
names-fitted zero [] [] us vs e h = refl
names-fitted zero [] (b ∷ g) us vs e h = absurd (omega arith)
names-fitted zero (a ∷ f) g us vs e h = absurd (omega arith)
names-fitted (suc n) [] [] us vs e h = names-fitted n [] [] us vs refl (omega arith)
names-fitted (suc n) [] (b ∷ g) us vs e h = absurd (omega arith)
names-fitted (suc n) (a ∷ f) [] us vs e h = absurd (omega arith)
names-fitted (suc n) (a ∷ f) (b ∷ g) us vs e h =
    ap (λ (t : Bool). eqb a b && t) (names-fitted n f g us vs (omega arith) (omega arith)) ∙ sym (and_assoc (eqb a b) (same_bytes f g) (pairwise eqb us vs))

headings : (g h : Heading) → (eqb (heading_number g) (heading_number h) && true) ≡ same_heading g h
unfolding heading_number same_heading
headings plain plain = refl
headings plain deep = refl
headings deep plain = refl
headings deep deep = refl

module _ (c d : Cell) (sc : SoundCell c) (sd : SoundCell d) where
  entry-same : pairwise eqb (entry_words c) (entry_words d) ≡ same_entry c d
  unfolding pairwise same_entry
  entry-same =
      by_test (eqb (length c.name) (length d.name))
      (λ t.
      rw t
      (names-fitted Size.name_bytes c.name d.name (c.pins ∷ heading_number c.heading ∷ []) (d.pins ∷ heading_number d.heading ∷ [])
      (eqb-true _ _ t) (omega (arith, name_form-length c.name sc.header.form))
      ∙ ap (λ (b : Bool). same_bytes c.name d.name && (eqb c.pins d.pins && b)) (headings c.heading d.heading)))
      (λ t. rw (t, same_bytes-other c.name d.name (eqb-false _ _ t)))

  abbrev kept_groups : Bool
  kept_groups = pairwise keeps c.cc d.cc && (pairwise keeps c.sc d.sc && (pairwise keeps c.co d.co && pairwise keeps c.so d.so))

  groups-same : d.pins ≡ c.pins → pairwise keeps (cell_groups c) (cell_groups d) ≡ kept_groups
  unfolding cell_groups group_count keeps
  groups-same p =
      part 2 c.cc d.cc _ _ (sc.cc.count ∙ sym sd.cc.count) (omega (arith, sc.cc.count))
      ∙ ap (λ (b : Bool). pairwise keeps c.cc d.cc && b)
      (part 2 c.sc d.sc _ _ (sc.sc.count ∙ sym sd.sc.count) (omega (arith, sc.sc.count))
      ∙ ap (λ (b : Bool). pairwise keeps c.sc d.sc && b)
      (part Size.pins c.co d.co _ _ (sc.co.count ∙ sym (sd.co.count ∙ p)) (omega (arith, sc.co.count, sc.header.most-pins))
      ∙ ap (λ (b : Bool). pairwise keeps c.co d.co && b)
      (pairwise-fitted keeps [] refl Size.pins c.so d.so (sc.so.count ∙ sym (sd.so.count ∙ p)) (omega (arith, sc.so.count, sc.header.most-pins)))))
    where
      part : (n : ℕ) (xs ys us vs : List Group) → length xs ≡ length ys → length xs ≤ n
          → pairwise keeps (fitted [] n xs ++ us) (fitted [] n ys ++ vs) ≡ (pairwise keeps xs ys && pairwise keeps us vs)
      part n xs ys us vs e h =
          pairwise_join keeps (fitted [] n xs) (fitted [] n ys) us vs (length-fitted [] n xs ∙ sym (length-fitted [] n ys))
          ∙ ap (λ (b : Bool). b && pairwise keeps us vs) (pairwise-fitted keeps [] refl n xs ys e h)

same-pins : (c d : Cell) → same_entry c d ≡ true → d.pins ≡ c.pins
unfolding same_entry
same-pins c d e =
    sym (eqb-true c.pins d.pins
    (and_left (eqb c.pins d.pins) (same_heading c.heading d.heading)
    (and_right (same_bytes c.name d.name) (eqb c.pins d.pins && same_heading c.heading d.heading) e)))

-- ---- a cell of two tables

module _ (old new : List ℕ) (cells more : List Cell) (h : HoldsCells old cells) (g : HoldsCells new more) (k : ℕ) (in_old : k < length cells) (in_new : k < length more) where
  abbrev c : Cell
  c = get_or cells k no_cell

  abbrev d : Cell
  d = get_or more k no_cell

  c-sound : SoundCell c
  c-sound = cell-sound cells h.past h.sound k in_old

  d-sound : SoundCell d
  d-sound = cell-sound more g.past g.sound k in_new

  entries : pairwise eqb (entry_at old k) (entry_at new k) ≡ same_entry c d
  entries =
      rw (h.stand, g.stand, entry-held cells h.past h.sound k in_old, entry-held more g.past g.sound k in_new)
      (entry-same c d c-sound d-sound)

  groups : same_entry c d ≡ true → pairwise keeps (groups_at old k) (groups_at new k) ≡ kept_groups c d c-sound d-sound
  groups e =
      rw (h.stand, g.stand, groups-held cells h.past h.sound k in_old, groups-held more g.past g.sound k in_new)
      (groups-same c d c-sound d-sound (same-pins c d e))

  wires : same_entry c d ≡ true → (n : ℕ) → n ≡ c.pins → (cell_both old n (cell_place k) || not (cell_both new n (cell_place k))) ≡ (not (one_wire c) || one_wire d)
  wires e n q =
      let a : not (cell_both old n (cell_place k)) ≡ one_wire c = rw (h.stand, q) (cell-one-wire no_cell cells h.past h.sound.few k in_old c-sound) in
      let b : not (cell_both new n (cell_place k)) ≡ one_wire d =
      rw (g.stand, q, ← same-pins c d e) (cell-one-wire no_cell more g.past g.sound.few k in_new d-sound) in
      rw (← a, ← b) (twice (cell_both old n (cell_place k)) (not (cell_both new n (cell_place k))))
    where
      twice : (x y : Bool) → (x || y) ≡ (not (not x) || y)
      twice true y = refl
      twice false y = refl

  -- What the three tests of a cell come to.
  pub other-entry : pairwise eqb (entry_at old k) (entry_at new k) ≡ false → grown_cell c d ≡ false
  unfolding grown_cell
  other-entry t = rw (sym entries ∙ t)

  pub row_lost : pairwise eqb (entry_at old k) (entry_at new k) ≡ true → pairwise keeps (groups_at old k) (groups_at new k) ≡ false → grown_cell c d ≡ false
  unfolding grown_cell
  row_lost s t = let e : same_entry c d ≡ true = sym entries ∙ s in rw (e, sym (groups e) ∙ t)

  pub rows-kept : pairwise eqb (entry_at old k) (entry_at new k) ≡ true → pairwise keeps (groups_at old k) (groups_at new k) ≡ true
      → (n : ℕ) → n ≡ get_or old (pins_place k) 0
      → (cell_both old n (cell_place k) || not (cell_both new n (cell_place k))) ≡ grown_cell c d
  unfolding grown_cell
  rows-kept s t n q =
      let e : same_entry c d ≡ true = sym entries ∙ s in
      rw (e, sym (groups e) ∙ t) (wires e n (q ∙ pins-held old cells h k in_old))

-- ---- all cells of two tables

abbrev pub cells_of : List Cell → ℕ → Cell
cells_of cells k = get_or cells k no_cell

pub all_cells : (cells more : List Cell) (n : ℕ) → n ≡ length cells → n ≡ length more → grown cells more ≡ left grown_cell (cells_of cells) (cells_of more) 0 n
unfolding grown
all_cells cells more n p q =
    rw (← left-all grown_cell (cells_of cells) (cells_of more) n)
    (sym (ap₂ (pairwise grown_cell) (same cells p) (same more q)))
  where
    same : (xs : List Cell) → n ≡ length xs → listed (cells_of xs) 0 n ≡ xs
    same xs e = ap (listed (cells_of xs) 0) e ∙ listed_is (cells_of xs) no_cell 0 xs (λ i h. ap (cells_of xs) (zero-add i))

pub other-count : (cells more : List Cell) → (length cells ≡ length more → ⊥) → grown cells more ≡ false
unfolding grown
other-count cells more h = pairwise-length grown_cell cells more h
