-- What stands at a place of the library table.
use Rattle.common_laws.proofs.Base.{List, [], ◌∷◌, ◌++◌, append_assoc, append-nil, ◌≡◌, refl, sym, ap, ◌∙◌, ℕ, suc, ◌+◌, ◌*◌, ◌≤◌, ◌<◌, add_assoc, one-add, arith}
use Rattle.common_laws.proofs.Base.{length, get_or, length-append, List-get_or-append, get_or-append-add}
use lib.Pow.{split}
use lib.Seq.{get_or_at}
use Rattle.sizes.specs.Places.{cell_place, group_place}
use Rattle.sizes.specs.Sizes as Size
use Rattle.table.specs.Blocks.{fitted, blocks}
use Rattle.table.proofs.Places.{length-fitted, getD_fitted, length_blocks, getD_blocks}
use Rattle.library_table.specs.Cells.{depth_bits, Row, row_of, row_value, Group, Cell}
use Rattle.library_table.specs.declared.Heading.{Heading}
use Rattle.library_table.specs.declared.Word.{Word}
use Rattle.library_table.specs.declared.Word.TheVariants.{CC, CO, SC, SO}
use Rattle.library_table.specs.Library.{group_count, word_groups}
use Rattle.library_table.specs.Layout.{row_words, group_words, cell_groups, heading_number, cell_words, first_group, library_words}

-- What a row was read from is what its entry writes for it.
pub row_written : (h : Heading) (x : ℕ) → row_value h (row_of h x) ≡ x
unfolding row_value row_of
row_written h x = split x (depth_bits h)

pub length-row_words : (r : Row) → length (row_words r) ≡ Size.row_words
unfolding row_words
length-row_words r = refl

pub length-group_words : (g : Group) → length (group_words g) ≡ Size.group_words
unfolding group_words
length-group_words g = ap suc (length-fitted 0 (Size.rows * Size.row_words) (blocks row_words g))

pub length-cell_groups : (c : Cell) → length (cell_groups c) ≡ Size.groups
unfolding cell_groups
length-cell_groups c = simp (length-append, length-fitted)

pub length-cell_words : (c : Cell) → length (cell_words c) ≡ Size.cell_words
unfolding cell_words
length-cell_words c =
    ap suc (length-append (fitted 0 Size.name_bytes c.name) (c.pins ∷ heading_number c.heading ∷ blocks group_words (cell_groups c))
    ∙ rw (length-fitted 0 Size.name_bytes c.name, length_blocks group_words Size.group_words length-group_words (cell_groups c), length-cell_groups c) refl)

pub length-library_words : (cells : List Cell) → length (library_words cells) ≡ Size.library
unfolding library_words
length-library_words cells = ap suc (length-fitted 0 (Size.cells * Size.cell_words) (blocks cell_words cells))

-- ---- the groups of a word among those of its cell

-- The groups that the layout has space for behind a word: "CC and SC have two groups .., CO and SO one for each pin".
abbrev pub space : Word → ℕ
space w = group_count w Size.pins

pub within-space : (w : Word) (n : ℕ) → n ≤ Size.pins → group_count w n ≤ space w
unfolding group_count
within-space CC n h = omega arith
within-space CO n h = h
within-space SC n h = omega arith
within-space SO n h = h

unfoldable pub filled_groups : Word → Cell → List Group
filled_groups w c = fitted [] (space w) (word_groups w c)

-- The groups before those of a word, and behind them.
unfoldable pub front_groups : Word → Cell → List Group
front_groups CC c = []
front_groups SC c = filled_groups CC c
front_groups CO c = filled_groups CC c ++ filled_groups SC c
front_groups SO c = (filled_groups CC c ++ filled_groups SC c) ++ filled_groups CO c

unfoldable pub back_groups : Word → Cell → List Group
back_groups CC c = filled_groups SC c ++ (filled_groups CO c ++ filled_groups SO c)
back_groups SC c = filled_groups CO c ++ filled_groups SO c
back_groups CO c = filled_groups SO c
back_groups SO c = []

pub groups_open : (w : Word) (c : Cell) → cell_groups c ≡ front_groups w c ++ (fitted [] (space w) (word_groups w c) ++ back_groups w c)
unfolding cell_groups front_groups back_groups filled_groups word_groups group_count
groups_open CC c = refl
groups_open SC c = refl
groups_open CO c = simp append_assoc
groups_open SO c = simp (append_assoc, append-nil)

pub length_front : (w : Word) (c : Cell) → length (front_groups w c) ≡ first_group w
unfolding front_groups filled_groups first_group group_count
length_front CC c = refl
length_front SC c = simp length-fitted
length_front CO c = simp (length-append, length-fitted)
length_front SO c = simp (length-append, length-fitted)

pub first_most : (w : Word) → first_group w + space w ≤ Size.groups
unfolding first_group group_count
first_most CC = omega arith
first_most CO = omega arith
first_most SC = omega arith
first_most SO = omega arith

-- Group i behind a word.
pub cell_group : (w : Word) (c : Cell) (i : ℕ) → c.pins ≤ Size.pins → i < group_count w c.pins
    → get_or (cell_groups c) (first_group w + i) [] ≡ get_or (word_groups w c) i []
cell_group w c i p h =
    let front = front_groups w c in
    let these = fitted [] (space w) (word_groups w c) in
    let below : i < space w = omega (arith, within-space w c.pins p) in
    ap (λ (gs : List Group). get_or gs (first_group w + i) []) (groups_open w c)
    ∙ ap (λ (j : ℕ). get_or (front ++ (these ++ back_groups w c)) (j + i) []) (sym (length_front w c))
    ∙ get_or-append-add front (these ++ back_groups w c) i []
    ∙ List-get_or-append these (back_groups w c) [] i (omega (arith, length-fitted {A = Group} [] (space w) (word_groups w c)))
    ∙ getD_fitted [] (space w) (word_groups w c) i below

-- ---- the numbers of a table

-- the count of cells
pub library-count : (cells : List Cell) (rest : List ℕ) → get_or (library_words cells ++ rest) 0 0 ≡ length cells
unfolding library_words
library-count cells rest = refl

-- what stands behind a cell's header
past-header : (c : Cell) (m : ℕ) → get_or (cell_words c) (Size.groups_at + m) 0 ≡ get_or (blocks group_words (cell_groups c)) m 0
unfolding cell_words
past-header c m =
    let named = fitted 0 Size.name_bytes c.name in
    let behind = c.pins ∷ heading_number c.heading ∷ blocks group_words (cell_groups c) in
    let e : Size.groups_at + m ≡ suc (Size.name_bytes + suc (suc m)) = omega arith in
    ap (λ (i : ℕ). get_or (cell_words c) i 0) e
    ∙ ap (λ (i : ℕ). get_or (named ++ behind) (i + suc (suc m)) 0) (sym (length-fitted 0 Size.name_bytes c.name))
    ∙ get_or-append-add named behind (suc (suc m)) 0

-- number j of cell k
module _ (d : Cell) (cells : List Cell) (rest : List ℕ) (few : length cells ≤ Size.cells) (k : ℕ) (h : k < length cells) where
  pub cell-word : (j : ℕ) → j < Size.cell_words → get_or (library_words cells ++ rest) (cell_place k + j) 0 ≡ get_or (cell_words (get_or cells k d)) j 0
  unfolding library_words
  cell-word j q =
      rw (native.Mathlib.Nat.add_assoc 1 (k * Size.cell_words) j, one-add (k * Size.cell_words + j))
      (List-get_or-append (fitted 0 (Size.cells * Size.cell_words) (blocks cell_words cells)) rest 0 (k * Size.cell_words + j) (rw (length-fitted 0 (Size.cells * Size.cell_words) (blocks cell_words cells)) (omega arith))
      ∙ getD_fitted 0 (Size.cells * Size.cell_words) (blocks cell_words cells) (k * Size.cell_words + j) (omega arith)
      ∙ getD_blocks cell_words Size.cell_words length-cell_words d cells k j h q)

  pub cell-pins : get_or (library_words cells ++ rest) (cell_place k + Size.pins_at) 0 ≡ (get_or cells k d).pins
  unfolding cell_words
  cell-pins =
      let c = get_or cells k d in
      cell-word Size.pins_at (omega arith)
      ∙ get_or_at (fitted 0 Size.name_bytes c.name) c.pins (heading_number c.heading ∷ blocks group_words (cell_groups c)) 0 Size.name_bytes (length-fitted 0 Size.name_bytes c.name)

  pub cell-heading : get_or (library_words cells ++ rest) (cell_place k + Size.heading_at) 0 ≡ heading_number (get_or cells k d).heading
  unfolding cell_words
  cell-heading =
      let c = get_or cells k d in
      let named = fitted 0 Size.name_bytes c.name in
      let behind = c.pins ∷ heading_number c.heading ∷ blocks group_words (cell_groups c) in
      cell-word Size.heading_at (omega arith)
      ∙ ap (λ (i : ℕ). get_or (named ++ behind) (i + 1) 0) (sym (length-fitted 0 Size.name_bytes c.name))
      ∙ get_or-append-add named behind 1 0

  -- number j of group g
  pub group_word : (g j : ℕ) → g < Size.groups → j < Size.group_words
      → get_or (library_words cells ++ rest) (group_place k g + j) 0 ≡ get_or (group_words (get_or (cell_groups (get_or cells k d)) g [])) j 0
  group_word g j hg hj =
      let c = get_or cells k d in
      let e : group_place k g + j ≡ cell_place k + (Size.groups_at + (g * Size.group_words + j)) = omega arith in
      ap (λ (i : ℕ). get_or (library_words cells ++ rest) i 0) e
      ∙ cell-word (Size.groups_at + (g * Size.group_words + j)) (omega arith)
      ∙ past-header c (g * Size.group_words + j)
      ∙ getD_blocks group_words Size.group_words length-group_words [] (cell_groups c) g j (rw (length-cell_groups c) hg) hj

-- A row among the numbers of its group.
module _ (g : Group) (r : ℕ) (d : Row) (few : length g ≤ Size.rows) (h : r < length g) where
  row_at : (j : ℕ) → j < Size.row_words → get_or (group_words g) (1 + (r * 2 + j)) 0 ≡ get_or (row_words (get_or g r d)) j 0
  unfolding group_words
  row_at j q =
      ap (λ (i : ℕ). get_or (length g ∷ fitted 0 (Size.rows * Size.row_words) (blocks row_words g)) i 0) (one-add (r * 2 + j))
      ∙ getD_fitted 0 (Size.rows * Size.row_words) (blocks row_words g) (r * 2 + j) (omega arith)
      ∙ getD_blocks row_words Size.row_words length-row_words d g r j h q

  depth-at : get_or (group_words g) (1 + (r * 2 + 0)) 0 ≡ (get_or g r d).depth
  unfolding row_words
  depth-at = row_at 0 (omega arith)

  columns-at : get_or (group_words g) (1 + (r * 2 + 1)) 0 ≡ (get_or g r d).columns
  unfolding row_words
  columns-at = row_at 1 (omega arith)

-- In a table that holds the cells: the count of rows of group g of cell k, and the depth and the columns of its row r.
module _ (d : Cell) (cells : List Cell) (rest : List ℕ) (few : length cells ≤ Size.cells) (k : ℕ) (h : k < length cells) (g : ℕ) (hg : g < Size.groups) where
  pub group_count_lem : get_or (library_words cells ++ rest) (group_place k g) 0 ≡ length (get_or (cell_groups (get_or cells k d)) g [])
  unfolding group_words
  group_count_lem =
      ap (λ (i : ℕ). get_or (library_words cells ++ rest) i 0) (sym (native.Mathlib.Nat.add-zero (group_place k g)))
      ∙ group_word d cells rest few k h g 0 hg (omega arith)

  module _ (r : ℕ) (dr : Row) (most : length (get_or (cell_groups (get_or cells k d)) g []) ≤ Size.rows) (hr : r < length (get_or (cell_groups (get_or cells k d)) g [])) where
    pub row_depth : get_or (library_words cells ++ rest) (group_place k g + 1 + 2 * r) 0 ≡ (get_or (get_or (cell_groups (get_or cells k d)) g []) r dr).depth
    row_depth =
        let e : group_place k g + 1 + 2 * r ≡ group_place k g + (1 + (r * 2 + 0)) = omega arith in
        ap (λ (i : ℕ). get_or (library_words cells ++ rest) i 0) e
        ∙ group_word d cells rest few k h g (1 + (r * 2 + 0)) hg (omega arith)
        ∙ depth-at (get_or (cell_groups (get_or cells k d)) g []) r dr most hr

    pub row_columns : get_or (library_words cells ++ rest) (group_place k g + 2 + 2 * r) 0 ≡ (get_or (get_or (cell_groups (get_or cells k d)) g []) r dr).columns
    row_columns =
        let e : group_place k g + 2 + 2 * r ≡ group_place k g + (1 + (r * 2 + 1)) = omega arith in
        ap (λ (i : ℕ). get_or (library_words cells ++ rest) i 0) e
        ∙ group_word d cells rest few k h g (1 + (r * 2 + 1)) hg (omega arith)
        ∙ columns-at (get_or (cell_groups (get_or cells k d)) g []) r dr most hr
