-- The rows of a cell of the library table that name both values of one pin.
use Rattle.common_laws.proofs.Base.{Bool, true, false, not, ◌||◌, List, [], ◌∷◌, ◌++◌, List-as-Memᴰ, List-Memᴰ-head, List-Memᴰ-tail, Memᴰ-append-left, Memᴰ-append-right, ◌≡◌, refl}
use Rattle.common_laws.proofs.Base.{sym, ap, ap₂, ◌∙◌, ℕ, zero, suc, ◌+◌, ◌*◌, ◌≤◌, ◌<◌, arith, length, get_or, not-true}
use Rattle.sizes.specs.Sizes as Size
use Rattle.sizes.specs.Places.{cell_place, group_place}
use Rattle.reading.specs.Each.{Each}
use Rattle.reading.proofs.Laws.{or_left, or_right, each_at, each_append, each_map}
use Rattle.table.specs.Blocks.{fitted}
use Rattle.library_table.proofs.Any.{any_append}
use Rattle.library_table.specs.Cells.{Row, Group, Cell, no_row}
use Rattle.library_table.specs.declared.Word.{Word}
use Rattle.library_table.specs.declared.Word.TheVariants.{CC, CO, SC, SO}
use Rattle.library_table.specs.Library.{group_count, word_groups, any_of}
use Rattle.library_table.specs.Layout.{library_words, cell_groups}
use Rattle.library_table.specs.Sound.{SoundGroup, SoundGroups, SoundCell}
use Rattle.library_table.proofs.Places.{length-cell_groups, group_count_lem, row_columns}
use Rattle.calculation.specs.Ways.{both_values, one_wire}
use Rattle.calculation.proofs.Visits.{getD_listed}
use Rattle.sweep_wires.specs.Wires.{any_below, group_both, cell_both}
use Rattle.sweep_wires.proofs.Any.{any_same, any_list, any-fitted}

-- A row of a cell of n pins names both values of one of them.
abbrev row_both : ℕ → Row → Bool
row_both n r = both_values n n r.columns

-- ---- a one-wire cell has no such row

any-member : {A : Type 0} (p : A → Bool) {x : A} {xs : List A} → List-as-Memᴰ x xs → any_of p xs ≡ false → p x ≡ false
unfolding any_of
any-member p (List-Memᴰ-head {x = y} e) h = rw e (or_left (p y) _ h)
any-member p (List-Memᴰ-tail {x = y} m) h = any-member p m (or_right (p y) _ h)

all-groups : (w : Word) (c : Cell) (g : Group) → List-as-Memᴰ g (word_groups w c) → List-as-Memᴰ g (c.cc ++ (c.sc ++ (c.co ++ c.so)))
unfolding word_groups
all-groups CC c g m = Memᴰ-append-left _ m
all-groups SC c g m = Memᴰ-append-right c.cc (Memᴰ-append-left _ m)
all-groups CO c g m = Memᴰ-append-right c.cc (Memᴰ-append-right c.sc (Memᴰ-append-left _ m))
all-groups SO c g m = Memᴰ-append-right c.cc (Memᴰ-append-right c.sc (Memᴰ-append-right c.co m))

pub one-wire_row : (c : Cell) → one_wire c ≡ true → (w : Word) (i : ℕ) → i < length (word_groups w c) → (r : Row) → List-as-Memᴰ r (get_or (word_groups w c) i [])
    → both_values c.pins c.pins r.columns ≡ false
unfolding one_wire
one-wire_row c h w i l r m =
    any-member (row_both c.pins) m
    (any-member (any_of (row_both c.pins)) (all-groups w c _ (getD_listed (word_groups w c) i [] l)) (not-true _ h))

-- ---- read out of the table

each-fitted : {A : Type 0} (P : A → Type 0) (d : A) → P d → (count : ℕ) (xs : List A) → Each P xs → Each P (fitted d count xs)
unfolding fitted Each
each-fitted P d h zero xs e = tt
each-fitted P d h (suc count) [] e = (h, each-fitted P d h count [] tt)
each-fitted P d h (suc count) (x ∷ xs) e = (e.0, each-fitted P d h count xs e.1)

abbrev pub FewRows : Group → Type 0
FewRows g = length g ≤ Size.rows

few-rows : {w : Word} {n : ℕ} {gs : List Group} → SoundGroups w n gs → (count : ℕ) → Each FewRows (fitted [] count gs)
few-rows {w} {n} {gs} s count = each-fitted FewRows [] (omega arith) count gs (each_map (SoundGroup w n gs) FewRows (λ g t. t.most-rows) gs s.groups)

module _ (d : Cell) (cells : List Cell) (behind : List ℕ) (few : length cells ≤ Size.cells) (k : ℕ) (known : k < length cells) (sound : SoundCell (get_or cells k d)) where
  abbrev cell : Cell
  cell = get_or cells k d

  abbrev library : List ℕ
  library = library_words cells ++ behind

  pub most-rows : (g : ℕ) → g < Size.groups → FewRows (get_or (cell_groups cell) g [])
  unfolding cell_groups
  most-rows g h =
      each_at FewRows (cell_groups cell) g [] (rw (length-cell_groups cell) h)
      (each_append FewRows _ _ (few-rows sound.cc 2)
      (each_append FewRows _ _ (few-rows sound.sc 2) (each_append FewRows _ _ (few-rows sound.co Size.pins) (few-rows sound.so Size.pins))))

  group_both_lem : (n g : ℕ) → g < Size.groups → group_both library n (group_place k g) ≡ any_of (row_both n) (get_or (cell_groups cell) g [])
  unfolding group_both
  group_both_lem n g h =
      let rows = get_or (cell_groups cell) g [] in
      rw (group_count_lem d cells behind few k known g h)
      (any_same (λ r. both_values n n (get_or library (group_place k g + 1 + Size.row_words * r + 1) 0)) (λ r. row_both n (get_or rows r no_row)) (length rows)
      (λ r l.
      let e : group_place k g + 1 + Size.row_words * r + 1 ≡ group_place k g + 2 + Size.row_words * r = omega arith in
      ap (both_values n n) (rw e (row_columns d cells behind few k known g h r no_row (most-rows g h) l)))
      ∙ any_list (row_both n) rows no_row)

  -- All groups of the cell, without those that fill it up.
  groups-any : (p : Group → Bool) → p [] ≡ false → any_of p (cell_groups cell) ≡ any_of p (cell.cc ++ (cell.sc ++ (cell.co ++ cell.so)))
  unfolding cell_groups group_count
  groups-any p none =
      both (fitted [] 2 cell.cc) cell.cc _ _ (any-fitted p [] none 2 cell.cc (omega (arith, sound.cc.count)))
      (both (fitted [] 2 cell.sc) cell.sc _ _ (any-fitted p [] none 2 cell.sc (omega (arith, sound.sc.count)))
      (both (fitted [] Size.pins cell.co) cell.co _ _ (any-fitted p [] none Size.pins cell.co (omega (arith, sound.co.count, sound.header.most-pins)))
      (any-fitted p [] none Size.pins cell.so (omega (arith, sound.so.count, sound.header.most-pins)))))
    where
      both : (xs ys us vs : List Group) → any_of p xs ≡ any_of p ys → any_of p us ≡ any_of p vs → any_of p (xs ++ us) ≡ any_of p (ys ++ vs)
      both xs ys us vs a b = any_append p xs us ∙ ap₂ (λ (x y : Bool). x || y) a b ∙ sym (any_append p ys vs)

  -- The cell is a one-wire cell where no row of the table names both values of one pin.
  pub cell-one-wire : not (cell_both library cell.pins (cell_place k)) ≡ one_wire cell
  unfolding cell_both one_wire
  cell-one-wire =
      let p : Group → Bool = any_of (row_both cell.pins) in
      let e : any_below (λ g. group_both library cell.pins (group_place k g)) Size.groups ≡ any_of p (cell.cc ++ (cell.sc ++ (cell.co ++ cell.so))) =
      any_same (λ g. group_both library cell.pins (group_place k g)) (λ g. p (get_or (cell_groups cell) g [])) Size.groups (group_both_lem cell.pins)
      ∙ ap (any_below (λ g. p (get_or (cell_groups cell) g []))) (sym (length-cell_groups cell))
      ∙ any_list p (cell_groups cell) []
      ∙ groups-any p (unfold any_of in refl) in
      ap not e
