-- What the other stores of the reader make of the table: a header behind the cells, the count.
use Rattle.common_laws.proofs.Base.{List, [], ◌∷◌, ◌++◌, append_assoc, ◌≡◌, refl, sym, ap, ◌∙◌, ℕ, zero, suc, ◌+◌, ◌*◌, ◌≤◌, ◌<◌, add-zero, not-suc-le-zero, le_of_suc-le-suc}
use Rattle.common_laws.proofs.Base.{add-one, arith, length, get_or, set, drop, replicate, length-append, drop_of_length-le, set-append_seam, set_at, sets, drop-cons}
use Rattle.sizes.specs.Sizes as Size
use Rattle.table.specs.Blocks.{fitted, blocks}
use Rattle.table.proofs.Places.{length-fitted}
use Rattle.library_table.specs.Cells.{Cell, no_cell}
use Rattle.library_table.specs.declared.Heading.{Heading}
use Rattle.library_table.specs.Library.{begun}
use Rattle.library_table.specs.Layout.{group_words, cell_groups, heading_number, cell_words, library_words}
use Rattle.library_text.specs.Headers.{header_put}
use Rattle.library_text.specs.Passes.{counted_words}
use Rattle.library_text.proofs.Stores.{blocks_last, ahead_words, behind_words, length-ahead, cell_open}

-- ---- the header of a new cell, and the count at its end

-- Bytes over the zeros of a name.
bytes-over : (m : ℕ) (name pre rest : List ℕ) → length name ≤ m → sets (pre ++ (fitted 0 m [] ++ rest)) (length pre) name ≡ pre ++ (fitted 0 m name ++ rest)
unfolding fitted
bytes-over m [] pre rest h = refl
bytes-over zero (b ∷ name) pre rest h = absurd (not-suc-le-zero h)
bytes-over (suc m) (b ∷ name) pre rest h =
    ap (λ (l : List ℕ). sets l (suc (length pre)) name) (set-append_seam pre 0 (fitted 0 m [] ++ rest) b ∙ sym (append_assoc pre (b ∷ []) (fitted 0 m [] ++ rest)))
    ∙ ap (λ (i : ℕ). sets ((pre ++ (b ∷ [])) ++ (fitted 0 m [] ++ rest)) i name) (sym (length-append pre (b ∷ []) ∙ add-one (length pre)))
    ∙ bytes-over m name (pre ++ (b ∷ [])) rest (le_of_suc-le-suc h)
    ∙ append_assoc pre (b ∷ []) (fitted 0 m name ++ rest)

-- A header over zeros: the name and its length, then the pins and the heading.
name-over : (pre name rest : List ℕ) (m pins : ℕ) → length name ≤ Size.name_bytes → set (sets (set (pre ++ (0 ∷ (fitted 0 Size.name_bytes [] ++ (0 ∷ rest)))) (length pre) m) (length pre + 1) name) (length pre + Size.pins_at) pins ≡ pre ++ (m ∷ (fitted 0 Size.name_bytes name ++ (pins ∷ rest)))
name-over pre name rest m pins h =
    let first : set (pre ++ (0 ∷ (fitted 0 Size.name_bytes [] ++ (0 ∷ rest)))) (length pre) m ≡ (pre ++ (m ∷ [])) ++ (fitted 0 Size.name_bytes [] ++ (0 ∷ rest)) = set-append_seam pre 0 (fitted 0 Size.name_bytes [] ++ (0 ∷ rest)) m ∙ sym (append_assoc pre (m ∷ []) (fitted 0 Size.name_bytes [] ++ (0 ∷ rest))) in
    let seam : length pre + 1 ≡ length (pre ++ (m ∷ [])) = sym (length-append pre (m ∷ [])) in
    let second = bytes-over Size.name_bytes name (pre ++ (m ∷ [])) (0 ∷ rest) h ∙ sym (append_assoc (pre ++ (m ∷ [])) (fitted 0 Size.name_bytes name) (0 ∷ rest)) in
    let far : length ((pre ++ (m ∷ [])) ++ fitted 0 Size.name_bytes name) ≡ length pre + Size.pins_at = length-append (pre ++ (m ∷ [])) (fitted 0 Size.name_bytes name) ∙ omega (arith, length-append pre (m ∷ []), length-fitted 0 Size.name_bytes name) in
    ap (λ (l : List ℕ). set (sets l (length pre + 1) name) (length pre + Size.pins_at) pins) first
    ∙ ap (λ (i : ℕ). set (sets ((pre ++ (m ∷ [])) ++ (fitted 0 Size.name_bytes [] ++ (0 ∷ rest))) i name) (length pre + Size.pins_at) pins) seam
    ∙ ap (λ (l : List ℕ). set l (length pre + Size.pins_at) pins) second
    ∙ set_at ((pre ++ (m ∷ [])) ++ fitted 0 Size.name_bytes name) 0 rest pins (length pre + Size.pins_at) far
    ∙ append_assoc (pre ++ (m ∷ [])) (fitted 0 Size.name_bytes name) (pins ∷ rest)
    ∙ append_assoc pre (m ∷ []) (fitted 0 Size.name_bytes name ++ (pins ∷ rest))

header-over : (pre name rest : List ℕ) (m pins heading : ℕ) → length name ≤ Size.name_bytes
    → set (set (sets (set (pre ++ (0 ∷ (fitted 0 Size.name_bytes [] ++ (0 ∷ 0 ∷ rest)))) (length pre) m) (length pre + 1) name) (length pre + Size.pins_at) pins) (length pre + Size.heading_at) heading
    ≡ pre ++ (m ∷ (fitted 0 Size.name_bytes name ++ (pins ∷ heading ∷ rest)))
header-over pre name rest m pins heading h =
    let named = fitted 0 Size.name_bytes name in
    let seam : pre ++ (m ∷ (named ++ (pins ∷ 0 ∷ rest))) ≡ (pre ++ (m ∷ (named ++ (pins ∷ [])))) ++ (0 ∷ rest) =
    ap (λ (l : List ℕ). pre ++ (m ∷ l)) (sym (append_assoc named (pins ∷ []) (0 ∷ rest))) ∙ sym (append_assoc pre (m ∷ (named ++ (pins ∷ []))) (0 ∷ rest)) in
    let far : length (pre ++ (m ∷ (named ++ (pins ∷ [])))) ≡ length pre + Size.heading_at =
    length-append pre (m ∷ (named ++ (pins ∷ []))) ∙ omega (arith, length-append named (pins ∷ []), length-fitted 0 Size.name_bytes name) in
    ap (λ (l : List ℕ). set l (length pre + Size.heading_at) heading) (name-over pre name (0 ∷ rest) m pins h ∙ seam)
    ∙ set_at (pre ++ (m ∷ (named ++ (pins ∷ [])))) 0 rest heading (length pre + Size.heading_at) far
    ∙ append_assoc pre (m ∷ (named ++ (pins ∷ []))) (heading ∷ rest)
    ∙ ap (λ (l : List ℕ). pre ++ (m ∷ l)) (append_assoc named (pins ∷ []) (heading ∷ rest))

none-zeros : cell_words no_cell ≡ replicate Size.cell_words 0
unfolding cell_words no_cell heading_number cell_groups group_words fitted blocks
none-zeros = refl

fitted-zeros : (n m : ℕ) (xs : List ℕ) → fitted 0 n (xs ++ replicate m 0) ≡ fitted 0 n xs
unfolding fitted
fitted-zeros zero m xs = refl
fitted-zeros (suc n) zero [] = refl
fitted-zeros (suc n) (suc m) [] = ap (λ (l : List ℕ). 0 ∷ l) (fitted-zeros n m [])
fitted-zeros (suc n) m (x ∷ xs) = ap (λ (l : List ℕ). x ∷ l) (fitted-zeros n m xs)

-- Behind the cells of a table stands a cell of zeros.
none-cell : (cells : List Cell) → counted_words (length cells) (cells ++ (no_cell ∷ [])) ≡ library_words cells
unfolding counted_words library_words
none-cell cells =
    ap (λ (l : List ℕ). length cells ∷ fitted 0 (Size.cells * Size.cell_words) l) (blocks_last cell_words cells no_cell ∙ ap (λ (l : List ℕ). blocks cell_words cells ++ l) none-zeros)
    ∙ ap (λ (l : List ℕ). length cells ∷ l) (fitted-zeros (Size.cells * Size.cell_words) Size.cell_words (blocks cell_words cells))

pub header-stored : (cells : List Cell) (past name : List ℕ) (pins : ℕ) (heading : Heading) → length cells < Size.cells → length name ≤ Size.name_bytes
    → header_put (length cells) name pins (heading_number heading) (library_words cells ++ past)
    ≡ counted_words (length cells) (cells ++ (begun (record { name = name; pins = pins; heading = heading }) ∷ [])) ++ past
unfolding header_put begun no_cell cell_words cell_groups heading_number
header-stored cells past name pins heading few h =
    let n = length cells in
    let new : Cell = begun (record { name = name; pins = pins; heading = heading }) in
    let groups = blocks group_words (cell_groups no_cell) in
    let rest = groups ++ behind_words cells past in
    let zeroed : library_words cells ++ past ≡ ahead_words n cells ++ (0 ∷ (fitted 0 Size.name_bytes [] ++ (0 ∷ 0 ∷ rest))) =
    ap (λ (l : List ℕ). l ++ past) (sym (none-cell cells))
    ∙ cell_open n cells no_cell past few
    ∙ ap (λ (l : List ℕ). ahead_words n cells ++ (0 ∷ l)) (append_assoc (fitted 0 Size.name_bytes []) (0 ∷ 0 ∷ groups) (behind_words cells past)) in
    let headed : counted_words n (cells ++ (new ∷ [])) ++ past ≡ ahead_words n cells ++ (length name ∷ (fitted 0 Size.name_bytes name ++ (pins ∷ heading_number heading ∷ rest))) =
    cell_open n cells new past few
    ∙ ap (λ (l : List ℕ). ahead_words n cells ++ (length name ∷ l)) (append_assoc (fitted 0 Size.name_bytes name) (pins ∷ heading_number heading ∷ groups) (behind_words cells past)) in
    rw (zeroed, ← length-ahead n cells) (header-over (ahead_words n cells) name rest (length name) pins (heading_number heading) h ∙ sym headed)

pub count-stored : (cells : List Cell) (c : Cell) (past : List ℕ) → set (counted_words (length cells) (cells ++ (c ∷ [])) ++ past) 0 (length cells + 1) ≡ library_words (cells ++ (c ∷ [])) ++ past
unfolding counted_words library_words
count-stored cells c past =
    ap (λ (n : ℕ). n ∷ (fitted 0 (Size.cells * Size.cell_words) (blocks cell_words (cells ++ (c ∷ []))) ++ past)) (sym (length-append cells (c ∷ [])))

-- ---- one turn of the loop that stores bytes

module _ (table name : List ℕ) (at : ℕ) where
  pub sets-start : sets table (at + 0) name ≡ sets table at name
  sets-start = ap (λ (k : ℕ). sets table k name) (add-zero at)

  pub sets-turn : (i : ℕ) → i < length name → sets table (at + i) (drop i name) ≡ sets (set table (at + i) (get_or name i 0)) (at + (i + 1)) (drop (i + 1) name)
  sets-turn i h = rw (add-one i, native.Mathlib.Nat.add-suc at i, drop-cons name i 0 h) refl

  pub sets-ended : (i : ℕ) → length name ≤ i → sets table (at + i) (drop i name) ≡ table
  sets-ended i h = rw (drop_of_length-le name h)
