-- What the stores of a row line make of the table: a row behind those of its group, the groups of the line.
use Rattle.common_laws.proofs.Base.{Bool, true, false, List, [], ◌∷◌, ◌++◌, append_assoc, append-nil, ◌≡◌, refl, sym, ap, ◌∙◌, ℕ, zero, suc, ◌+◌, ◌*◌, ◌-◌, ◌≤◌, ◌<◌, one-add}
use Rattle.common_laws.proofs.Base.{arith, length, set, replicate, length-append, set-append_seam, set_at, ltb-false}
use Rattle.sizes.specs.Sizes as Size
use Rattle.sizes.specs.Places.{cell_place, group_place}
use Rattle.table.specs.Blocks.{fitted, blocks}
use Rattle.table.proofs.Places.{length-fitted, fitted_short, length_blocks, blocks_append}
use Rattle.reading.specs.Choice.{pick}
use Rattle.reading.proofs.Laws.{by_test, clash, or_left, or_right}
use Rattle.library_table.specs.Cells.{Row, Group, Cell}
use Rattle.library_table.specs.declared.Heading.{Heading}
use Rattle.library_table.proofs.Any.{any_append}
use Rattle.library_table.specs.declared.Word.{Word}
use Rattle.library_table.specs.declared.Word.TheVariants.{CC, CO, SC, SO}
use Rattle.library_table.specs.Library.{Fields, is_row, is_join, is_z, may_join, may_end, rows_form, groups_of, empty_group, any_of, above_rows, word_groups, with_groups}
use Rattle.library_table.specs.declared.Before.{Before}
use Rattle.library_table.specs.declared.Before.TheVariants.{Word as word, Row as row, Join as join}
use Rattle.library_table.specs.Layout.{row_words, group_words, cell_groups, heading_number, cell_words, first_group}
use Rattle.library_text.specs.Groups.{row_put, rowless_put, opened, group_for, rowless_added}
use Rattle.library_text.specs.Passes.{field_row, asked_of, none_passed, field_passed, field_stored, stored}
use Rattle.library_text.specs.Passes.{counted_words}
use Rattle.library_text.specs.declared.groups.Asked.{Asked}
use Rattle.library_text.specs.declared.groups.Passed.{Passed}
use Rattle.library_table.proofs.Places.{length-row_words, length-group_words, length-cell_words, space, filled_groups, front_groups, back_groups, groups_open, length_front}
use Rattle.library_text.proofs.Passes.{joined, gather, by_field, may-joined, rowless_first, gather_first, form_join, form_rowless, form_row, word_first, row_some, closed, joined-ends, shown, join_passed, rowless_passed, more-passed, new-passed, none_passed_lem, first_passed}

-- ---- stores into lists put together from parts

-- A count and two numbers behind a run.
three-stores : (pre run rest : List ℕ) (m a y z d e : ℕ) → set (set (set (pre ++ (m ∷ (run ++ (y ∷ (z ∷ rest))))) (length pre) a) (length pre + 1 + length run) d) (length pre + 2 + length run) e ≡ pre ++ (a ∷ (run ++ (d ∷ (e ∷ rest))))
three-stores pre run rest m a y z d e =
    let first : set (pre ++ (m ∷ (run ++ (y ∷ (z ∷ rest))))) (length pre) a ≡ (pre ++ (a ∷ run)) ++ (y ∷ (z ∷ rest)) = set-append_seam pre m (run ++ (y ∷ (z ∷ rest))) a ∙ sym (append_assoc pre (a ∷ run) (y ∷ (z ∷ rest))) in
    let far : length (pre ++ (a ∷ run)) ≡ length pre + 1 + length run = length-append pre (a ∷ run) ∙ omega arith in
    let second : (pre ++ (a ∷ run)) ++ (d ∷ (z ∷ rest)) ≡ ((pre ++ (a ∷ run)) ++ (d ∷ [])) ++ (z ∷ rest) = sym (append_assoc (pre ++ (a ∷ run)) (d ∷ []) (z ∷ rest)) in
    let farther : length ((pre ++ (a ∷ run)) ++ (d ∷ [])) ≡ length pre + 2 + length run = length-append (pre ++ (a ∷ run)) (d ∷ []) ∙ omega arith in
    ap (λ (l : List ℕ). set (set l (length pre + 1 + length run) d) (length pre + 2 + length run) e) first
    ∙ ap (λ (l : List ℕ). set l (length pre + 2 + length run) e) (set_at (pre ++ (a ∷ run)) y (z ∷ rest) d (length pre + 1 + length run) far ∙ second)
    ∙ set_at ((pre ++ (a ∷ run)) ++ (d ∷ [])) z rest e (length pre + 2 + length run) farther
    ∙ append_assoc (pre ++ (a ∷ run)) (d ∷ []) (e ∷ rest)
    ∙ append_assoc pre (a ∷ run) (d ∷ (e ∷ rest))

-- ---- a row behind those of its group

twice : (n : ℕ) → n * 2 ≡ 2 * n
twice n = omega arith

group_open : (g : Group) → length g ≤ Size.rows → group_words g ≡ length g ∷ (blocks row_words g ++ replicate (Size.rows * Size.row_words - 2 * length g) 0)
unfolding group_words
group_open g h =
    let n : length (blocks row_words g) ≡ 2 * length g = length_blocks row_words 2 length-row_words g ∙ twice (length g) in
    ap (λ (l : List ℕ). length g ∷ l) (fitted_short 0 (Size.rows * Size.row_words) (blocks row_words g) (omega arith) ∙ rw n)

two-zeros : (n : ℕ) → 2 ≤ n → replicate {A = ℕ} n 0 ≡ 0 ∷ (0 ∷ replicate (n - 2) 0)
two-zeros zero h = absurd (omega arith)
two-zeros (suc zero) h = absurd (omega arith)
two-zeros (suc (suc n)) h = let e : n ≡ suc (suc n) - 2 = omega arith in ap (λ (k : ℕ). 0 ∷ (0 ∷ replicate k 0)) e

pub blocks_last : {A : Type 0} (f : A → List ℕ) (xs : List A) (x : A) → blocks f (xs ++ (x ∷ [])) ≡ blocks f xs ++ f x
unfolding blocks
blocks_last f xs x = blocks_append f xs (x ∷ []) ∙ ap (λ (l : List ℕ). blocks f xs ++ l) (append-nil (f x))

row_put_lem : (pre post : List ℕ) (part : Group) (r : Row) → length part < Size.rows → row_put (length pre) (length part) r (pre ++ (group_words part ++ post)) ≡ pre ++ (group_words (part ++ (r ∷ [])) ++ post)
unfolding row_put row_words
row_put_lem pre post part r h =
    let run = blocks row_words part in
    let n : length run ≡ 2 * length part = length_blocks row_words 2 length-row_words part ∙ twice (length part) in
    let left : List ℕ = replicate (Size.rows * Size.row_words - 2 * length part - 2) 0 in
    let opened : group_words part ++ post ≡ length part ∷ (run ++ (0 ∷ (0 ∷ (left ++ post)))) =
    ap (λ (l : List ℕ). l ++ post) (group_open part (omega arith) ∙ ap (λ (l : List ℕ). length part ∷ (run ++ l)) (two-zeros (Size.rows * Size.row_words - 2 * length part) (omega arith)))
    ∙ ap (λ (l : List ℕ). length part ∷ l) (append_assoc run (0 ∷ (0 ∷ left)) post) in
    let grown : length (part ++ (r ∷ [])) ≡ length part + 1 = length-append part (r ∷ []) in
    let fewer : Size.rows * Size.row_words - 2 * length (part ++ (r ∷ [])) ≡ Size.rows * Size.row_words - 2 * length part - 2 = omega arith in
    let whole : group_words (part ++ (r ∷ [])) ≡ (length part + 1) ∷ ((run ++ (r.depth ∷ (r.columns ∷ []))) ++ left) =
    group_open (part ++ (r ∷ [])) (omega arith) ∙ rw (fewer, grown, blocks_last row_words part r) in
    let closed : group_words (part ++ (r ∷ [])) ++ post ≡ (length part + 1) ∷ (run ++ (r.depth ∷ (r.columns ∷ (left ++ post)))) =
    ap (λ (l : List ℕ). l ++ post) whole
    ∙ ap (λ (l : List ℕ). (length part + 1) ∷ l) (append_assoc (run ++ (r.depth ∷ (r.columns ∷ []))) left post ∙ append_assoc run (r.depth ∷ (r.columns ∷ [])) (left ++ post)) in
    rw opened
    (ap (λ (k : ℕ). set (set (set (pre ++ (length part ∷ (run ++ (0 ∷ (0 ∷ (left ++ post)))))) (length pre) (length part + 1)) (length pre + 1 + k) r.depth) (length pre + 2 + k) r.columns) (sym n)
    ∙ three-stores pre run (left ++ post) (length part) (length part + 1) 0 0 r.depth r.columns
    ∙ ap (λ (l : List ℕ). pre ++ l) (sym closed))

-- ---- the cell that is being read, and the cells before it

-- The numbers before a cell's groups.
header_words : Cell → List ℕ
header_words c = length c.name ∷ (fitted 0 Size.name_bytes c.name ++ (c.pins ∷ heading_number c.heading ∷ []))

length-header_words : (c : Cell) → length (header_words c) ≡ Size.groups_at
unfolding header_words
length-header_words c = simp (length-append, length-fitted)

cell_words_open : (c : Cell) → cell_words c ≡ header_words c ++ blocks group_words (cell_groups c)
unfolding cell_words header_words
cell_words_open c =
    ap (λ (l : List ℕ). length c.name ∷ l)
    (sym (append_assoc (fitted 0 Size.name_bytes c.name) (c.pins ∷ heading_number c.heading ∷ []) (blocks group_words (cell_groups c))))

-- The numbers before the cell that is being read, and those behind it.
pub ahead_words : ℕ → List Cell → List ℕ
ahead_words n cells = n ∷ blocks cell_words cells

unused : List Cell → ℕ
unused cells = Size.cells * Size.cell_words - Size.cell_words - length cells * Size.cell_words

pub behind_words : List Cell → List ℕ → List ℕ
behind_words cells past = replicate (unused cells) 0 ++ past

pub length-ahead : (n : ℕ) (cells : List Cell) → length (ahead_words n cells) ≡ cell_place (length cells)
unfolding ahead_words
length-ahead n cells = ap suc (length_blocks cell_words Size.cell_words length-cell_words cells) ∙ sym (one-add (length cells * Size.cell_words))

held_open : (cells : List Cell) (c : Cell) → length cells < Size.cells
    → fitted 0 (Size.cells * Size.cell_words) (blocks cell_words (cells ++ (c ∷ []))) ≡ (blocks cell_words cells ++ cell_words c) ++ replicate (unused cells) 0
unfolding unused
held_open cells c few =
    let held = blocks cell_words (cells ++ (c ∷ [])) in
    let size : length held ≡ length cells * Size.cell_words + Size.cell_words = length_blocks cell_words Size.cell_words length-cell_words (cells ++ (c ∷ [])) ∙ rw (length-append cells (c ∷ [])) (omega arith) in
    let left : (Size.cells * Size.cell_words) - length held ≡ unused cells = omega arith in
    rw (fitted_short 0 (Size.cells * Size.cell_words) held (omega arith), left, blocks_last cell_words cells c)

pub cell_open : (n : ℕ) (cells : List Cell) (c : Cell) (past : List ℕ) → length cells < Size.cells → counted_words n (cells ++ (c ∷ [])) ++ past ≡ ahead_words n cells ++ (cell_words c ++ behind_words cells past)
unfolding counted_words ahead_words behind_words
cell_open n cells c past few = rw (held_open cells c few) (simp append_assoc)

-- ---- the groups of a word among those of that cell

with-groups : (w : Word) (gs : List Group) (c : Cell) → cell_groups (with_groups w gs c) ≡ front_groups w c ++ (fitted [] (space w) gs ++ back_groups w c)
unfolding with_groups word_groups front_groups back_groups filled_groups
with-groups CC gs c = groups_open CC (with_groups CC gs c)
with-groups CO gs c = groups_open CO (with_groups CO gs c)
with-groups SC gs c = groups_open SC (with_groups SC gs c)
with-groups SO gs c = groups_open SO (with_groups SO gs c)

with_open : (w : Word) (gs : List Group) (c : Cell) → cell_words (with_groups w gs c) ≡ header_words c ++ blocks group_words (cell_groups (with_groups w gs c))
unfolding with_groups header_words
with_open CC gs c = cell_words_open (with_groups CC gs c)
with_open CO gs c = cell_words_open (with_groups CO gs c)
with_open SC gs c = cell_words_open (with_groups SC gs c)
with_open SO gs c = cell_words_open (with_groups SO gs c)

fitted-more : {A : Type 0} (d : A) (n : ℕ) (xs : List A) → fitted d n (xs ++ (d ∷ [])) ≡ fitted d n xs
unfolding fitted
fitted-more d zero xs = refl
fitted-more d (suc n) [] = refl
fitted-more {A = A} d (suc n) (x ∷ xs) = ap (λ (l : List A). x ∷ l) (fitted-more d n xs)

-- ---- what gathering keeps

-- Groups gathered on from whole ones and an open one: the whole ones stay, and the open one only grows.
record Gathered (done : List Group) (part : Group) (gs : List Group) : Type 0 where
  more : Group
  others : List Group
  same : gs ≡ done ++ ((part ++ more) ∷ others)

module _ (done : List Group) (part : Group) where
  ended : (gs others : List Group) → gs ≡ done ++ (part ∷ others) → Gathered done part gs
  ended gs others e = record { more = []; others = others; same = rw (append-nil part) e }

  gather-step : (h : Heading) (f : List ℕ) (fs : Fields) (rest : (d : List Group) (p : Group) (b : Before) → Gathered d p (gather h d p b fs)) (t z j : Bool)
      → Gathered done part (pick t (gather h done part join fs)
      (pick z (gather h (done ++ (part ∷ [])) [] word fs)
      (pick j (gather h done (part ++ (field_row h f ∷ [])) row fs)
      (gather h (done ++ (part ∷ [])) (field_row h f ∷ []) row fs))))
  unfolding pick
  gather-step h f fs rest true z j = rest done part join
  gather-step h f fs rest false true j =
      let g = rest (done ++ (part ∷ [])) [] word in
      ended _ (g.more ∷ g.others) (g.same ∙ append_assoc done (part ∷ []) (g.more ∷ g.others))
  gather-step h f fs rest false false true =
      let r = field_row h f in
      let g = rest done (part ++ (r ∷ [])) row in
      record { more = r ∷ g.more; others = g.others; same = g.same ∙ ap (λ (x : Group). done ++ (x ∷ g.others)) (append_assoc part (r ∷ []) g.more) }
  gather-step h f fs rest false false false =
      let r = field_row h f in
      let g = rest (done ++ (part ∷ [])) (r ∷ []) row in
      ended _ ((r ∷ g.more) ∷ g.others) (g.same ∙ append_assoc done (part ∷ []) ((r ∷ g.more) ∷ g.others))

gathered : (h : Heading) (done : List Group) (part : Group) (b : Before) (fs : Fields) → Gathered done part (gather h done part b fs)
unfolding gather
gathered h done part b [] = ended done part _ [] refl
gathered h done part b (f ∷ fs) = gather-step done part h f fs (λ d p c. gathered h d p c fs) (is_join f) (is_z f) (joined b)

module _ (done : List Group) (part : Group) (gs : List Group) (g : Gathered done part gs) where
  gather-count : length done < length gs
  gather-count = rw g.same (omega (arith, length-append done ((part ++ g.more) ∷ g.others)))

  gather-part : any_of above_rows gs ≡ false → length part ≤ Size.rows
  unfolding any_of above_rows
  gather-part h =
      let none = or_right (any_of above_rows done) _ (sym (any_append above_rows done ((part ++ g.more) ∷ g.others)) ∙ ap (any_of above_rows) (sym g.same) ∙ h) in
      omega (arith, ltb-false Size.rows (length (part ++ g.more)) (or_left (above_rows (part ++ g.more)) (any_of above_rows g.others) none), length-append part g.more)

-- The table with these groups behind the word that is being read.
module _ (n : ℕ) (cells : List Cell) (w : Word) (c : Cell) (past : List ℕ) (few : length cells < Size.cells) where
  unfoldable pub part_table : List Group → List ℕ
  part_table gs = counted_words n (cells ++ (with_groups w gs c ∷ [])) ++ past

  before_group : List Group → List ℕ
  before_group done = ahead_words n cells ++ (header_words c ++ blocks group_words (front_groups w c ++ done))

  behind_group : ℕ → List ℕ
  behind_group m = blocks group_words (replicate (space w - m) [] ++ back_groups w c) ++ behind_words cells past

  length_before : (done : List Group) → length (before_group done) ≡ group_place (length cells) (first_group w + length done)
  unfolding before_group
  length_before done =
      let groups : length (blocks group_words (front_groups w c ++ done)) ≡ (first_group w + length done) * Size.group_words = length_blocks group_words Size.group_words length-group_words (front_groups w c ++ done) ∙ rw (length-append (front_groups w c) done, length_front w c) in
      length-append (ahead_words n cells) (header_words c ++ blocks group_words (front_groups w c ++ done))
      ∙ omega (arith, length-ahead n cells, length-append (header_words c) (blocks group_words (front_groups w c ++ done)), length-header_words c)

  part_open : (done : List Group) (part : Group) → length done < space w → part_table (done ++ (part ∷ [])) ≡ before_group done ++ (group_words part ++ behind_group (length done + 1))
  unfolding part_table before_group behind_group blocks
  part_open done part h =
      let front = front_groups w c in
      let pad : List Group = replicate (space w - (length done + 1)) [] in
      let filled : fitted [] (space w) (done ++ (part ∷ [])) ≡ (done ++ (part ∷ [])) ++ pad = fitted_short [] (space w) (done ++ (part ∷ [])) (omega (arith, length-append done (part ∷ []))) ∙ rw (length-append done (part ∷ [])) in
      let groups : cell_groups (with_groups w (done ++ (part ∷ [])) c) ≡ (front ++ done) ++ (part ∷ (pad ++ back_groups w c)) =
      with-groups w (done ++ (part ∷ [])) c
      ∙ ap (λ (l : List Group). front ++ (l ++ back_groups w c)) filled
      ∙ ap (λ (l : List Group). front ++ l) (append_assoc (done ++ (part ∷ [])) pad (back_groups w c) ∙ append_assoc done (part ∷ []) (pad ++ back_groups w c))
      ∙ sym (append_assoc front done (part ∷ (pad ++ back_groups w c))) in
      let cell : cell_words (with_groups w (done ++ (part ∷ [])) c) ≡ header_words c ++ (blocks group_words (front ++ done) ++ (group_words part ++ blocks group_words (pad ++ back_groups w c))) =
      with_open w (done ++ (part ∷ [])) c
      ∙ rw (groups, blocks_append group_words (front ++ done) (part ∷ (pad ++ back_groups w c))) in
      cell_open n cells (with_groups w (done ++ (part ∷ [])) c) past few
      ∙ rw cell (simp append_assoc)

  row_stored : (done : List Group) (part : Group) (r : Row) → length done < space w → length part < Size.rows → row_put (group_place (length cells) (first_group w + length done)) (length part) r (part_table (done ++ (part ∷ []))) ≡ part_table (done ++ ((part ++ (r ∷ [])) ∷ []))
  row_stored done part r h q =
      rw (part_open done part h, part_open done (part ++ (r ∷ [])) h, ← length_before done)
      (row_put_lem (before_group done) (behind_group (length done + 1)) part r q)

  -- A group of no row holds the same numbers as none.
  part-empty : (gs : List Group) → part_table (gs ++ ([] ∷ [])) ≡ part_table gs
  unfolding part_table
  part-empty gs =
      let groups : cell_groups (with_groups w (gs ++ ([] ∷ [])) c) ≡ cell_groups (with_groups w gs c) = with-groups w (gs ++ ([] ∷ [])) c ∙ ap (λ (l : List Group). front_groups w c ++ (l ++ back_groups w c)) (fitted-more [] (space w) gs) ∙ sym (with-groups w gs c) in
      let cell : cell_words (with_groups w (gs ++ ([] ∷ [])) c) ≡ cell_words (with_groups w gs c) =
      with_open w (gs ++ ([] ∷ [])) c ∙ rw groups (sym (with_open w gs c)) in
      cell_open n cells (with_groups w (gs ++ ([] ∷ [])) c) past few
      ∙ ap (λ (l : List ℕ). ahead_words n cells ++ (l ++ behind_words cells past)) cell
      ∙ sym (cell_open n cells (with_groups w gs c) past few)

  abbrev asks : Asked
  asks = asked_of (length cells) c.heading w c.pins

  abbrev by : Heading
  by = asks.heading

  open_place : (done : List Group) → asks.place + length done * Size.group_words ≡ group_place (length cells) (first_group w + length done)
  unfolding asked_of
  open_place done = omega arith

  rowless_stored : (gs : List Group) → length gs < space w → rowless_put (group_place (length cells) (first_group w + length gs)) (part_table gs) ≡ part_table (gs ++ ([] ∷ []))
  unfolding rowless_put group_words
  rowless_stored gs h =
      rw (← part-empty gs, part_open gs [] h, ← length_before gs) (set-append_seam (before_group gs) 0 _ 0)

  -- What a field makes of the table.
  module _ (f : List ℕ) where
    abbrev new : Row
    new = field_row by f

    join_put : (p : Passed) (table : List ℕ) → is_join f ≡ true → field_stored asks p f table ≡ table
    unfolding field_stored pick
    join_put p table e = rw e

    module _ (e : is_join f ≡ false) (z : is_z f ≡ true) where
      none-put : 0 < space w → field_stored asks none_passed f (part_table []) ≡ part_table ([] ∷ [])
      unfolding field_stored rowless_added opened pick
      none-put h = rw (e, z, open_place []) (rowless_stored [] h)

      rowless_put_lem : (done : List Group) (part : Group) (b : Before) → length (done ++ (part ∷ [])) < space w
          → field_stored asks (shown asks done part b) f (part_table (done ++ (part ∷ []))) ≡ part_table ((done ++ (part ∷ [])) ++ ([] ∷ []))
      unfolding field_stored rowless_added opened pick
      rowless_put_lem done part b h =
          let more = done ++ (part ∷ []) in
          rw (e, z, ← length-append done (part ∷ []), open_place more) (rowless_stored more h)

    module _ (e : is_join f ≡ false) (z : is_z f ≡ false) (g : is_row by f ≡ true) where
      first_put : 0 < space w → field_stored asks none_passed f (part_table []) ≡ part_table ((new ∷ []) ∷ [])
      unfolding field_stored group_for opened may_end pick
      first_put h = rw (e, z, g, open_place [], ← part-empty []) (row_stored [] [] (field_row by f) h (omega arith))

      module _ (done : List Group) (part : Group) (b : Before) where
        more-put : joined b ≡ true → length done < space w → length part < Size.rows
            → field_stored asks (shown asks done part b) f (part_table (done ++ (part ∷ []))) ≡ part_table (done ++ ((part ++ (new ∷ [])) ∷ []))
        unfolding field_stored group_for pick
        more-put j h q = rw (e, z, g, joined-ends b, j, open_place done) (row_stored done part (field_row by f) h q)

        new-put : joined b ≡ false → length (done ++ (part ∷ [])) < space w
            → field_stored asks (shown asks done part b) f (part_table (done ++ (part ∷ []))) ≡ part_table ((done ++ (part ∷ [])) ++ ((new ∷ []) ∷ []))
        unfolding field_stored group_for opened pick
        new-put j h =
            let more = done ++ (part ∷ []) in
            rw (e, z, g, joined-ends b, j, ← length-append done (part ∷ []), open_place more, ← part-empty more) (row_stored more [] (field_row by f) h (omega arith))

  stored_as : (fs : Fields) {p q : Passed} {t u : List ℕ} → p ≡ q → t ≡ u → stored asks p fs t ≡ stored asks q fs u
  stored_as fs e d = cc

  -- What is stored behind `done` and `part`, where what is gathered fits.
  abbrev Puts : Fields → List Group → Group → Before → Type 0
  Puts fs done part b =
      empty_group part ≡ closed b → rows_form by b fs ≡ true → length (gather by done part b fs) ≤ space w → any_of above_rows (gather by done part b fs) ≡ false
      → stored asks (shown asks done part b) fs (part_table (done ++ (part ∷ []))) ≡ part_table (gather by done part b fs)

  module _ (f : List ℕ) (fs : Fields) (rest : (done : List Group) (part : Group) (b : Before) → Puts fs done part b) (done : List Group) (part : Group) where
    put_join : is_join f ≡ true → (b : Before) → Puts (f ∷ fs) done part b
    unfolding stored gather pick may_join closed
    put_join e word k h q s = clash false (form_join by word f fs e h).0 refl
    put_join e row k h q s =
        rw e
        (stored_as fs (join_passed asks f done part e) (join_put f _ _ e) ∙ rest done part join k (form_join by row f fs e h).1 (rw e at q) (rw e at s))
    put_join e join k h q s = clash false (form_join by join f fs e h).0 refl

    put_rowless : is_join f ≡ false → is_z f ≡ true → (b : Before) → Puts (f ∷ fs) done part b
    unfolding stored gather pick empty_group closed
    put_rowless e z b k h q s =
        let good = form_rowless by b f fs e z h in
        let more = done ++ (part ∷ []) in
        let fits : length (gather by more [] word fs) ≤ space w = rw (e, z) at q in
        let short : any_of above_rows (gather by more [] word fs) ≡ false = rw (e, z) at s in
        let below : length more < space w = omega (arith, gather-count more [] _ (gathered by more [] word fs)) in
        rw (e, z) (stored_as fs (rowless_passed asks f done part b e z (may-joined b good.0)) (rowless_put_lem f e z done part b below) ∙ rest more [] word refl good.1 fits short)

    put-more : is_join f ≡ false → is_z f ≡ false → (b : Before) → joined b ≡ true → Puts (f ∷ fs) done part b
    unfolding stored gather pick closed
    put-more e z b j k h q s =
        let good = form_row by b f fs e z h in
        let r = field_row by f in
        let grown = part ++ (r ∷ []) in
        let fits : length (gather by done grown row fs) ≤ space w = rw (e, z, j) at q in
        let short : any_of above_rows (gather by done grown row fs) ≡ false = rw (e, z, j) at s in
        let size : length grown ≡ length part + 1 = length-append part (r ∷ []) in
        let g = gathered by done grown row fs in
        let most : length grown ≤ Size.rows = gather-part done grown _ g short in
        let below : length done < space w = omega (arith, gather-count done grown _ g) in
        rw (e, z, j)
        (stored_as fs (more-passed asks f done part b e z good.0 k j) (more-put f e z good.0 done part b j below (omega arith))
        ∙ rest done grown row (row_some part r) good.1 fits short)

    put-new : is_join f ≡ false → is_z f ≡ false → (b : Before) → joined b ≡ false → Puts (f ∷ fs) done part b
    unfolding stored gather pick closed
    put-new e z b j k h q s =
        let good = form_row by b f fs e z h in
        let r = field_row by f in
        let more = done ++ (part ∷ []) in
        let fits : length (gather by more (r ∷ []) row fs) ≤ space w = rw (e, z, j) at q in
        let short : any_of above_rows (gather by more (r ∷ []) row fs) ≡ false = rw (e, z, j) at s in
        let below : length more < space w = omega (arith, gather-count more (r ∷ []) _ (gathered by more (r ∷ []) row fs)) in
        rw (e, z, j)
        (stored_as fs (new-passed asks f done part b e z good.0 j) (new-put f e z good.0 done part b j below)
        ∙ rest more (r ∷ []) row (row_some [] r) good.1 fits short)

  put-groups : (fs : Fields) (done : List Group) (part : Group) (b : Before) → Puts fs done part b
  unfolding stored gather
  put-groups [] done part b k h q s = refl
  put-groups (f ∷ fs) done part b k h q s =
      by_field f
      (λ e. put_join f fs (λ d p c i x y t. put-groups fs d p c i x y t) done part e b k h q s)
      (λ e z. put_rowless f fs (λ d p c i x y t. put-groups fs d p c i x y t) done part e z b k h q s)
      (λ e z.
      by_test (joined b)
      (λ j. put-more f fs (λ d p c i x y t. put-groups fs d p c i x y t) done part e z b j k h q s)
      (λ j. put-new f fs (λ d p c i x y t. put-groups fs d p c i x y t) done part e z b j k h q s))

  -- From a cell without these groups: behind the first of them the others.
  first_stored : (f : List ℕ) (fs : Fields) (g : Group) (b : Before) → empty_group g ≡ closed b → rows_form by b fs ≡ true → gather by [] g b fs ≡ groups_of by (f ∷ fs)
      → field_passed asks none_passed f ≡ shown asks [] g b → (0 < space w → field_stored asks none_passed f (part_table []) ≡ part_table (g ∷ []))
      → length (groups_of by (f ∷ fs)) ≤ space w → any_of above_rows (groups_of by (f ∷ fs)) ≡ false
      → stored asks none_passed (f ∷ fs) (part_table []) ≡ part_table (groups_of by (f ∷ fs))
  unfolding stored
  first_stored f fs g b k h all passes puts q s =
      let some-space : 0 < space w = omega (arith, gather-count [] g _ (gathered by [] g b fs), ap (λ (gs : List Group). length gs) all) in
      stored_as fs passes (puts some-space)
      ∙ put-groups fs [] g b k h (rw all q) (rw all s)
      ∙ ap part_table all

  pub line-stored : (fs : Fields) → rows_form by word fs ≡ true → length (groups_of by fs) ≤ space w → any_of above_rows (groups_of by fs) ≡ false
      → stored asks none_passed fs (part_table []) ≡ part_table (groups_of by fs)
  unfolding stored groups_of empty_group closed
  line-stored [] h q s = refl
  line-stored (f ∷ fs) h q s =
      let e : is_join f ≡ false = word_first by f fs h in
      by_test (is_z f)
      (λ z. first_stored f fs [] word refl (form_rowless by word f fs e z h).1 (rowless_first by f fs e z h) (none_passed_lem asks f e z) (none-put f e z) q s)
      (λ z.
      let good = form_row by word f fs e z h in
      first_stored f fs (field_row by f ∷ []) row (row_some [] (field_row by f)) good.1 (gather_first by f fs e z h) (first_passed asks f e z good.0) (first_put f e z good.0) q s)
