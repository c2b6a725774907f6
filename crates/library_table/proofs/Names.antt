-- What a library table tells of its cells, where it holds them, their count, their pins and headings, and their places by name;
-- and of which cells any table tells.
use Rattle.common_laws.proofs.Base.{true, false, List, [], ◌∷◌, ◌≡◌, refl, sym, ap, ◌∙◌, ℕ, zero, suc, ◌+◌, ◌≤◌, ◌<◌, add-suc, suc-add, add-zero, zero-add, add_assoc}
use Rattle.common_laws.proofs.Base.{add-one, one-add, arith, leb, eqb, length, get_or, drop, drop_of_length-le, List-get_or-append, drop-cons, le-leb, lt-leb, leb-true}
use Rattle.common_laws.proofs.Base.{eqb-true, eqb-false}
use Rattle.std.specs.Prelude.{Option, Some, None}
use Rattle.std.specs.List.{list_all, range_with_len, zip, find}
use Rattle.std.specs.Option.{option_map, unwrap_or}
use Rattle.sizes.specs.Sizes as Size
use Rattle.sizes.specs.Places.{cell_place, pins_place}
use Rattle.table.specs.Blocks.{fitted, blocks}
use Rattle.table.proofs.Places.{length-fitted, getD_fitted}
use Rattle.reading.specs.Choice.{pick}
use Rattle.text.specs.Lines.{same_bytes}
use Rattle.text.proofs.Laws.{same_bytes-other}
use Rattle.library_table.specs.Cells.{Cell, no_cell}
use Rattle.library_table.specs.Library.{cell_named}
use Rattle.reading.specs.Each.{Each}
use Rattle.reading.proofs.Laws.{by_test, clash, and_left, and_right, each_at}
use Rattle.library_table.specs.Layout.{cell_groups, group_words, heading_number, cell_words, ShortName, FewPins, LibraryHolds, bytes_at, name_at, found_from, found_at, CellsTold, words_from, cell_in, cells_from, narrow_from, cells_fit, cells_in, TellsCells}
use Rattle.library_table.proofs.Places.{library-count, cell-word, cell-pins}

-- ---- bytes from a place on

pub bytes-all : (table name : List ℕ) (at : ℕ) → list_all (λ (p : ℕ × ℕ). eqb p.0 (get_or table p.1 0)) (zip name (range_with_len at (length name))) ≡ bytes_at name table at
unfolding bytes_at
bytes-all table [] at = refl
bytes-all table (b ∷ f) at = rw (add-one at, bytes-all table f (suc at)) refl

bytesAt_same : (f g table : List ℕ) (at : ℕ) → length f ≡ length g → ((j : ℕ) → j < length g → get_or table (at + j) 0 ≡ get_or g j 0) → bytes_at f table at ≡ same_bytes f g
unfolding bytes_at same_bytes
bytesAt_same [] [] table at e all = refl
bytesAt_same [] (b ∷ g) table at e all = absurd (omega arith)
bytesAt_same (a ∷ f) [] table at e all = absurd (omega arith)
bytesAt_same (a ∷ f) (b ∷ g) table at e all =
    let first : get_or table at 0 ≡ b = ap (λ (p : ℕ). get_or table p 0) (sym (add-zero at)) ∙ all 0 (omega arith) in
    let next : (j : ℕ) → j < length g → get_or table (suc at + j) 0 ≡ get_or g j 0 = λ j h. rw (suc-add at j, ← add-suc at j) (all (suc j) (omega arith)) in
    rw (first, bytesAt_same f g table (suc at) (omega arith) next)

-- A cell of the table whose name is g.
same_at : (name g table : List ℕ) (k : ℕ) → get_or table (cell_place k) 0 ≡ length g → ((j : ℕ) → j < length g → get_or table (cell_place k + 1 + j) 0 ≡ get_or g j 0) → name_at name table k ≡ same_bytes name g
unfolding name_at
same_at name g table k long bytes =
    rw long
    (by_test (eqb (length g) (length name))
    (λ e. rw e (bytesAt_same name g table (cell_place k + 1) (sym (eqb-true (length g) (length name) e)) bytes))
    (λ e. rw e (sym (same_bytes-other name g (λ q. eqb-false (length g) (length name) e (sym q))))))

-- ---- the cells of a table

pub holds-count : (table : List ℕ) (cells : List Cell) → LibraryHolds table cells → get_or table 0 0 ≡ length cells
holds-count table cells holds = rw holds.words (library-count cells holds.past)

-- Cell k of a table that holds the cells.
module _ (table : List ℕ) (cells : List Cell) (holds : LibraryHolds table cells) (k : ℕ) (h : k < length cells) where
  pub holds-pins : (d : Cell) → get_or table (pins_place k) 0 ≡ (get_or cells k d).pins
  holds-pins d = rw holds.words (cell-pins d cells holds.past holds.fits.few k h)

  abbrev here : Cell
  here = get_or cells k no_cell

  name-word : (j : ℕ) → j < Size.cell_words → get_or table (cell_place k + j) 0 ≡ get_or (cell_words here) j 0
  name-word j q = rw holds.words (cell-word no_cell cells holds.past holds.fits.few k h j q)

  name-length : get_or table (cell_place k) 0 ≡ length here.name
  unfolding cell_words
  name-length = ap (λ (p : ℕ). get_or table p 0) (sym (add-zero (cell_place k))) ∙ name-word 0 (omega arith)

  name_byte_lem : (j : ℕ) → j < length here.name → get_or table (cell_place k + 1 + j) 0 ≡ get_or here.name j 0
  unfolding cell_words ShortName
  name_byte_lem j q =
      let short : length here.name ≤ Size.name_bytes = each_at ShortName cells k no_cell h holds.fits.short in
      let behind = here.pins ∷ heading_number here.heading ∷ blocks group_words (cell_groups here) in
      ap (λ (p : ℕ). get_or table p 0) (add_assoc (cell_place k) 1 j ∙ ap (λ (p : ℕ). cell_place k + p) (one-add j))
      ∙ name-word (suc j) (omega arith)
      ∙ List-get_or-append (fitted 0 Size.name_bytes here.name) behind 0 j (rw (length-fitted 0 Size.name_bytes here.name) (omega arith))
      ∙ getD_fitted 0 Size.name_bytes here.name j (omega arith)

  same_name : (name : List ℕ) → name_at name table k ≡ same_bytes name here.name
  same_name name = same_at name here.name table k name-length name_byte_lem

-- Where a table counts cells and has their names.
module _ (name table : List ℕ) (cells : List Cell) (counted : get_or table 0 0 ≡ length cells)
    (same : (k : ℕ) → k < length cells → name_at name table k ≡ same_bytes name (get_or cells k no_cell).name) where
  found_named : (left k : ℕ) → k + left ≡ length cells → found_from name table k left ≡ k + cell_named name (drop k cells)
  unfolding found_from cell_named pick
  found_named zero k e = let past : length cells ≤ k = omega arith in rw (drop_of_length-le cells past) (sym (add-zero k))
  found_named (suc left) k e =
      let h : k < length cells = omega arith in
      rw (drop-cons cells k no_cell h, ← same k h)
      (by_test (name_at name table k)
      (λ t. rw t (sym (add-zero k)))
      (λ t. rw t (found_named left (suc k) (omega arith) ∙ omega arith)))

  found_cells : found_at name table ≡ cell_named name cells
  unfolding found_at
  found_cells = rw counted (found_named (length cells) 0 (zero-add (length cells)) ∙ zero-add (cell_named name cells))

-- The place of a name in a table that holds the cells is its place among them.
pub holds_find : (name table : List ℕ) (cells : List Cell) → LibraryHolds table cells → found_at name table ≡ cell_named name cells
holds_find name table cells holds =
    found_cells name table cells (holds-count table cells holds) (λ k h. same_name table cells holds k h name)

pub holds-told : (table : List ℕ) (cells : List Cell) → LibraryHolds table cells → CellsTold table cells
holds-told table cells holds =
    record {
      count = holds-count table cells holds;
      named = λ name. holds_find name table cells holds;
      pins = λ k h d. holds-pins table cells holds k h d;
      narrow = holds.fits.narrow;
    }

-- ---- the cells of any table

length-words : (table : List ℕ) (at left : ℕ) → length (words_from table at left) ≡ left
unfolding words_from
length-words table at zero = refl
length-words table at (suc left) = ap suc (length-words table (suc at) left)

words-at : (table : List ℕ) (at left j : ℕ) → j < left → get_or table (at + j) 0 ≡ get_or (words_from table at left) j 0
unfolding words_from
words-at table at zero j h = absurd (omega arith)
words-at table at (suc left) zero h = rw (add-zero at) refl
words-at table at (suc left) (suc j) h = rw (add-suc at j, ← suc-add at j) (words-at table (suc at) left j (omega arith))

module _ (table : List ℕ) where
  length_from : (k left : ℕ) → length (cells_from table k left) ≡ left
  unfolding cells_from
  length_from k zero = refl
  length_from k (suc left) = ap suc (length_from (suc k) left)

  cell_from : (d : Cell) (k left j : ℕ) → j < left → get_or (cells_from table k left) j d ≡ cell_in table (k + j)
  unfolding cells_from
  cell_from d k zero j h = absurd (omega arith)
  cell_from d k (suc left) zero h = rw (add-zero k) refl
  cell_from d k (suc left) (suc j) h = rw (add-suc k j, ← suc-add k j) (cell_from d (suc k) left j (omega arith))

  cell_at : (d : Cell) (left j : ℕ) → j < left → get_or (cells_from table 0 left) j d ≡ cell_in table j
  cell_at d left j h = cell_from d 0 left j h ∙ ap (cell_in table) (zero-add j)

  pins-at : (d : Cell) (left j : ℕ) → j < left → (get_or (cells_from table 0 left) j d).pins ≡ get_or table (pins_place j) 0
  unfolding cell_in
  pins-at d left j h = ap (λ (c : Cell). c.pins) (cell_at d left j h)

  name_in : (name : List ℕ) (k : ℕ) → name_at name table k ≡ same_bytes name (cell_in table k).name
  unfolding cell_in
  name_in name k =
      let n = get_or table (cell_place k) 0 in
      let at = cell_place k + 1 in
      same_at name (words_from table at n) table k (sym (length-words table at n))
      (λ j h. words-at table at n j (omega (arith, length-words table at n)))

  each-narrow : (k left : ℕ) → narrow_from table k left ≡ true → Each FewPins (cells_from table k left)
  unfolding narrow_from cells_from cell_in FewPins Each
  each-narrow k zero e = tt
  each-narrow k (suc left) e = (
    leb-true (get_or table (pins_place k) 0) Size.pins (and_left _ (narrow_from table (suc k) left) e),
    each-narrow (suc k) left (and_right (leb (get_or table (pins_place k) 0) Size.pins) _ e),
  )

  told_fit : cells_fit table ≡ true → CellsTold table (cells_in table)
  unfolding cells_in pick cells_fit
  told_fit e =
      let n = get_or table 0 0 in
      let size = length_from 0 n in
      rw e
      (record {
        count = sym size;
        named =
            λ name.
            found_cells name table (cells_from table 0 n) (sym size)
            (λ k h. name_in name k ∙ ap (λ (c : Cell). same_bytes name c.name) (sym (cell_at no_cell n k (omega (arith, size)))));
        pins = λ k h d. sym (pins-at d n k (omega (arith, size)));
        narrow = each-narrow 0 n (and_right (leb n Size.cells) (narrow_from table 0 n) e);
      })

  pub tells-fit : cells_fit table ≡ true → TellsCells table table
  tells-fit e = record { any = told_fit e; holds = λ cells h. holds-told table cells h }

  -- ---- a table that counts what no library has

  told_none : CellsTold [] []
  unfolding found_at found_from cell_named Each
  told_none = record { count = refl; named = λ name. refl; pins = λ k h d. absurd (omega arith); narrow = tt }

  narrow-held : (cells : List Cell) → LibraryHolds table cells → (left k : ℕ) → k + left ≡ length cells → narrow_from table k left ≡ true
  unfolding narrow_from FewPins
  narrow-held cells holds zero k e = refl
  narrow-held cells holds (suc left) k e =
      let h : k < length cells = omega arith in
      let few : (get_or cells k no_cell).pins ≤ Size.pins = each_at FewPins cells k no_cell h holds.fits.narrow in
      rw (le-leb (get_or table (pins_place k) 0) Size.pins (rw (holds-pins table cells holds k h no_cell) few)) (narrow-held cells holds left (suc k) (omega arith))

  held-fit : (cells : List Cell) → LibraryHolds table cells → cells_fit table ≡ true
  unfolding cells_fit
  held-fit cells holds =
      rw (holds-count table cells holds, le-leb (length cells) Size.cells holds.fits.few)
      (narrow-held cells holds (length cells) 0 (zero-add (length cells)))

  pub tells_none : cells_fit table ≡ false → TellsCells table []
  unfolding cells_in pick
  tells_none e = record { any = rw e told_none; holds = λ cells h. clash (cells_fit table) (held-fit cells h) e }

  -- ---- the pins of the cells from one on

  pub narrow-all : (k left : ℕ) → list_all (λ (i : ℕ). leb (get_or table (pins_place i) 0) Size.pins) (range_with_len k left) ≡ narrow_from table k left
  unfolding narrow_from
  narrow-all k zero = refl
  narrow-all k (suc left) = rw (add-one k, narrow-all (suc k) left) refl

  module _ (n : ℕ) (e : n ≡ get_or table 0 0) where
    pub fit-few : n ≤ Size.cells → narrow_from table 0 n ≡ cells_fit table
    unfolding cells_fit
    fit-few h = rw (← e, le-leb n Size.cells h) refl

    pub fit-many : Size.cells < n → leb n Size.cells ≡ cells_fit table
    unfolding cells_fit
    fit-many h = rw (← e, lt-leb n Size.cells h) refl

-- ---- the search for a name among the cells from one on

same-option : (r : Option ℕ) → option_map (λ (x : ℕ). x) r ≡ r
same-option None = refl
same-option (Some x) = refl

module _ (name table : List ℕ) where
  find-cell : (n k left : ℕ) → k + left ≡ n → unwrap_or (find (name_at name table) (range_with_len k left)) n ≡ found_from name table k left
  unfolding found_from pick
  find-cell n k zero e = omega arith
  find-cell n k (suc left) e =
      by_test (name_at name table k)
      (λ t. rw t refl)
      (λ t. rw (t, add-one k) (find-cell n (suc k) left (omega arith)))

  -- The first cell that is found, or the count of cells.
  pub first-found : (n : ℕ) → n ≡ get_or table 0 0 → (r : Option ℕ) → option_map (λ (x : ℕ). x) r ≡ find (name_at name table) (range_with_len 0 n)
      → unwrap_or r n ≡ found_at name table
  unfolding found_at
  first-found n e r f = rw (sym (same-option r) ∙ f, ← e) (find-cell n 0 n (zero-add n))
