-- The entry of a cell is read as the cell.
use Rattle.common_laws.proofs.Base.{true, false, ◌&&◌, List, [], ◌∷◌, ◌++◌, append_assoc, append-nil, List-as-Memᴰ, List-Memᴰ-head, List-Memᴰ-tail, List-Memᴰ-not-nil}
use Rattle.common_laws.proofs.Base.{List-Memᴰ-append-cases, ◌⊎◌, ⊎_elim, some, ◌≡◌, refl, sym, ap, ◌∙◌, ℕ, zero, suc, ◌+◌, ◌*◌, ◌/◌, ◌%◌, ◌^◌, ◌≤◌, ◌<◌, arith, leb, length, eq-eqb}
use Rattle.common_laws.proofs.Base.{le-ltb, leb-true}
use Rattle.sizes.specs.Sizes as Size
use Rattle.reading.specs.Choice.{pick}
use Rattle.reading.specs.Each.{Each}
use Rattle.reading.specs.Refusal.{read, ◌>>=◌, ◌>>◌, weigh, form}
use Rattle.reading.proofs.Laws.{by_test, and_left, and_right, or_cases}
use Rattle.text.specs.Bytes.{bytes}
use Rattle.text.specs.Class.{between}
use Rattle.text.specs.Lines.{lines, fields, same_bytes, lines_open}
use Rattle.text.specs.Numeral.{digit_below, all_digits, value, decimal, name_byte, all_name, name_form, numeral_open}
use Rattle.text.proofs.Laws.{fields_join, lines_join, split_whole, same_bytes_refl, same_bytes-true}
use Rattle.text.proofs.FieldLaws.{digit-high, digits-free}
use Rattle.writer.specs.Decimal.{decimal_bytes, decimal_open}
use Rattle.writer.specs.Octal.{octal_bytes}
use Rattle.writer.proofs.Octal.{octal_digits, octal_value, octal_read}
use Rattle.library_table.specs.Cells.{Row, row_of, depth_bits, Group, Cell}
use Rattle.library_table.specs.declared.Heading.TheVariants.{Plain as plain}
use Rattle.library_table.specs.declared.Word.{Word}
use Rattle.library_table.specs.declared.Word.TheVariants.{CC, CO, SC, SO}
use Rattle.library_table.specs.Library.{Fields, holds, row_digits, is_row, is_join, is_z, may_join, may_end, rows_form, join_first, with_row, groups_of, any_of, above_rows, above, word_bytes, group_count, column_count, row_idle, rows_after, row_line, heading_of, header_of, name_after, end_after, cell_named, name_used, pins_bad, name_line, line_after, begun, with_groups, library_line, library_end, library_from, library}
use Rattle.library_table.specs.declared.Before.{Before}
use Rattle.library_table.specs.declared.Before.TheVariants.{Word as word, Row as row, Join as join}
use Rattle.truth_tables.specs.Entries.{row_number, row_bytes, group_bytes, groups_bytes, line_bytes, name_bytes, entry_bytes}

-- ---- a row's field

-- A row that seven digits hold.
pub record Written (r : Row) : Type 0 where
  pub depth : r.depth ≤ 1
  pub few : row_number r < 8 ^ 7

-- A field of octal digits is no letter.
not_letter : (letter : ℕ) (f : List ℕ) → 56 ≤ letter → all_digits 8 f ≡ true → same_bytes f (letter ∷ []) ≡ false
unfolding all_digits
not_letter letter f h d =
    by_test (same_bytes f (letter ∷ []))
    (λ e.
    let digits : all_digits 8 (letter ∷ []) ≡ true = rw (same_bytes-true f (letter ∷ []) e) at d in
    absurd (omega (arith, digit-high 8 letter (and_left (digit_below 8 letter) true digits))))
    (λ e. e)

module _ (r : Row) (g : Written r) where
  small : row_number r < 8 ^ 22
  small = omega (arith, g.few)

  row_read : is_row plain (row_bytes r) ≡ true
  unfolding is_row holds row_bytes row_digits
  row_read = rw (octal_read 6 (row_number r) g.few small) refl

  row_same : row_of plain (value 8 0 (row_bytes r)) ≡ r
  unfolding row_of depth_bits row_bytes row_number
  row_same = rw (octal_value (row_number r) small) (parts r.depth r.columns g.depth)
    where
      parts : (d c : ℕ) → d ≤ 1 → ◌≡◌ {A = Row} (record { depth = (2 * c + d) % 2; columns = (2 * c + d) / 2 }) (record { depth = d; columns = c })
      parts d c h =
          let low : (2 * c + d) % 2 ≡ d = omega arith in
          let high : (2 * c + d) / 2 ≡ c = omega arith in
          rw (low, high) refl

  row_no_join : is_join (row_bytes r) ≡ false
  unfolding is_join bytes row_bytes
  row_no_join = not_letter 77 (octal_bytes (row_number r)) (omega arith) (octal_digits (row_number r))

  row_no_z : is_z (row_bytes r) ≡ false
  unfolding is_z bytes row_bytes
  row_no_z = not_letter 90 (octal_bytes (row_number r)) (omega arith) (octal_digits (row_number r))

-- ---- the fields of a line of rows

group_fields : Group → Fields
group_fields [] = bytes "Z" ∷ []
group_fields (r ∷ []) = row_bytes r ∷ []
group_fields (r ∷ (q ∷ g)) = row_bytes r ∷ (bytes "M" ∷ group_fields (q ∷ g))

groups_fields : List Group → Fields
groups_fields [] = []
groups_fields (g ∷ gs) = group_fields g ++ groups_fields gs

row_free : (r : Row) (mark : ℕ) → mark < 48 → List-as-Memᴰ mark (row_bytes r) → ⊥
unfolding row_bytes
row_free r mark h = digits-free 8 mark (octal_bytes (row_number r)) h (octal_digits (row_number r))

letter_free : (letter mark : ℕ) → mark < letter → List-as-Memᴰ mark (letter ∷ []) → ⊥
letter_free letter mark h (List-Memᴰ-head e) = omega (arith, e)
letter_free letter mark h (List-Memᴰ-tail m) = List-Memᴰ-not-nil m

module _ (gs : List Group) (behind : (f : List ℕ) → (List-as-Memᴰ 44 f → ⊥) → fields (f ++ groups_bytes gs) ≡ f ∷ groups_fields gs) where
  group_fields_lem : (g : Group) → fields (group_bytes g ++ groups_bytes gs) ≡ group_fields g ++ groups_fields gs
  unfolding group_bytes group_fields bytes
  group_fields_lem [] = behind (90 ∷ []) (letter_free 90 44 (omega arith))
  group_fields_lem (r ∷ []) = behind (row_bytes r) (row_free r 44 (omega arith))
  group_fields_lem (r ∷ (q ∷ g)) =
      let rest = group_bytes (q ∷ g) ++ groups_bytes gs in
      ap fields (append_assoc (row_bytes r) (44 ∷ 77 ∷ 44 ∷ group_bytes (q ∷ g)) (groups_bytes gs))
      ∙ fields_join (row_bytes r) (77 ∷ 44 ∷ rest) (row_free r 44 (omega arith))
      ∙ ap (λ (l : Fields). row_bytes r ∷ l) (fields_join (77 ∷ []) rest (letter_free 77 44 (omega arith)) ∙ ap (λ (l : Fields). (77 ∷ []) ∷ l) (group_fields_lem (q ∷ g)))

line-fields : (gs : List Group) (f : List ℕ) → (List-as-Memᴰ 44 f → ⊥) → fields (f ++ groups_bytes gs) ≡ f ∷ groups_fields gs
unfolding groups_bytes groups_fields fields
line-fields [] f free = rw (append-nil f) (split_whole 44 f free)
line-fields (g ∷ gs) f free =
    fields_join f (group_bytes g ++ groups_bytes gs) free ∙ ap (λ (l : Fields). f ∷ l) (group_fields_lem gs (line-fields gs) g)

-- ---- what they are read as

module _ (rest : Fields) (ends : (b : Before) → may_end b ≡ true → rows_form plain b rest ≡ true) where
  rows-form : (r : Row) (g : Group) → Written r → Each Written g → (b : Before) → rows_form plain b (group_fields (r ∷ g) ++ rest) ≡ true
  unfolding group_fields rows_form pick Each may_end may_join is_join is_z bytes same_bytes
  rows-form r [] w ws b = rw (row_no_join r w, row_no_z r w, row_read r w) (ends row refl)
  rows-form r (q ∷ g) w ws b = rw (row_no_join r w, row_no_z r w, row_read r w) (rows-form q g ws.0 ws.1 join)

  group_form : (g : Group) → Each Written g → (b : Before) → may_end b ≡ true → rows_form plain b (group_fields g ++ rest) ≡ true
  unfolding group_fields rows_form pick Each may_end is_join is_z bytes same_bytes
  group_form [] ws b h = rw h (ends word refl)
  group_form (r ∷ g) ws b h = rows-form r g ws.0 ws.1 b

line-form : (gs : List Group) → Each (Each Written) gs → (b : Before) → may_end b ≡ true → rows_form plain b (groups_fields gs) ≡ true
unfolding groups_fields rows_form Each
line-form [] ws b h = h
line-form (g ∷ gs) ws b h = group_form (groups_fields gs) (line-form gs ws.1) g ws.0 b h

no_join : (gs : List Group) → Each (Each Written) gs → join_first (groups_fields gs) ≡ false
unfolding groups_fields group_fields join_first Each is_join bytes same_bytes
no_join [] ws = refl
no_join ([] ∷ gs) ws = refl
no_join ((r ∷ []) ∷ gs) ws = row_no_join r ws.0.0
no_join ((r ∷ (q ∷ g)) ∷ gs) ws = row_no_join r ws.0.0

module _ (rest : Fields) (parted : join_first rest ≡ false) where
  rows_of : (r : Row) (g : Group) → Written r → Each Written g → groups_of plain (group_fields (r ∷ g) ++ rest) ≡ (r ∷ g) ∷ groups_of plain rest
  unfolding group_fields groups_of pick Each with_row join_first is_join bytes same_bytes
  rows_of r [] w ws = rw (row_no_join r w, row_no_z r w, parted, row_same r w) refl
  rows_of r (q ∷ g) w ws = rw (row_no_join r w, row_no_z r w, rows_of q g ws.0 ws.1, row_same r w) refl

  group_of : (g : Group) → Each Written g → groups_of plain (group_fields g ++ rest) ≡ g ∷ groups_of plain rest
  unfolding group_fields groups_of pick Each is_join is_z bytes same_bytes
  group_of [] ws = refl
  group_of (r ∷ g) ws = rows_of r g ws.0 ws.1

line-groups : (gs : List Group) → Each (Each Written) gs → groups_of plain (groups_fields gs) ≡ gs
unfolding groups_fields groups_of Each
line-groups [] ws = refl
line-groups (g ∷ gs) ws =
    group_of (groups_fields gs) (no_join gs ws.1) g ws.0 ∙ ap (λ (l : List Group). g ∷ l) (line-groups gs ws.1)

-- ---- a line

-- The groups of a line that no number refuses.
pub record GoodLine (w : Word) (n : ℕ) (gs : List Group) : Type 0 where
  pub rows : Each (Each Written) gs
  pub count : length gs ≡ group_count w n
  pub few : any_of above_rows gs ≡ false
  pub within : any_of (any_of (above (column_count w n))) gs ≡ false
  pub useful : row_idle w n gs ≡ false

line_read_lem : (line : ℕ) (w : Word) (n : ℕ) (gs : List Group) → GoodLine w n gs → row_line line plain w n (word_bytes w ∷ groups_fields gs) ≡ read gs
unfolding row_line rows_after form weigh pick ◌>>=◌ ◌>>◌ may_end
line_read_lem line w n gs g =
    rw (same_bytes_refl (word_bytes w), line-form gs g.rows word refl, line-groups gs g.rows, eq-eqb (length gs) (group_count w n) g.count, g.few, g.within, g.useful) refl

-- ---- bytes that do not stand in a line

free-append : (mark : ℕ) (xs ys : List ℕ) → (List-as-Memᴰ mark xs → ⊥) → (List-as-Memᴰ mark ys → ⊥) → List-as-Memᴰ mark (xs ++ ys) → ⊥
free-append mark xs ys p q m = ⊎_elim p q (List-Memᴰ-append-cases xs m)

free-cons : (mark b : ℕ) (ys : List ℕ) → (mark ≡ b → ⊥) → (List-as-Memᴰ mark ys → ⊥) → List-as-Memᴰ mark (b ∷ ys) → ⊥
free-cons mark b ys p q (List-Memᴰ-head e) = p e
free-cons mark b ys p q (List-Memᴰ-tail m) = q m

name-low : (b : ℕ) → name_byte b ≡ true → 48 ≤ b
unfolding name_byte between
name-low b h =
    ⊎_elim
    (λ e. omega (arith, leb-true 65 b (and_left (leb 65 b) (leb b 90) e)))
    (λ e. leb-true 48 b (and_left (leb 48 b) (leb b 57) e))
    (or_cases (leb 65 b && leb b 90) (leb 48 b && leb b 57) h)

name_free : (mark : ℕ) (f : List ℕ) → mark < 48 → all_name f ≡ true → List-as-Memᴰ mark f → ⊥
unfolding all_name
name_free mark [] h d m = List-Memᴰ-not-nil m
name_free mark (b ∷ f) h d (List-Memᴰ-head e) = omega (arith, e, name-low b (and_left (name_byte b) (all_name f) d))
name_free mark (b ∷ f) h d (List-Memᴰ-tail m) = name_free mark f h (and_right (name_byte b) (all_name f) d) m

group_free : (g : Group) → List-as-Memᴰ 10 (group_bytes g) → ⊥
unfolding group_bytes bytes
group_free [] = letter_free 90 10 (omega arith)
group_free (r ∷ []) = row_free r 10 (omega arith)
group_free (r ∷ (q ∷ g)) =
    free-append 10 (row_bytes r) (44 ∷ 77 ∷ 44 ∷ group_bytes (q ∷ g)) (row_free r 10 (omega arith))
    (free-cons 10 44 (77 ∷ 44 ∷ group_bytes (q ∷ g)) (λ e. omega arith)
    (free-cons 10 77 (44 ∷ group_bytes (q ∷ g)) (λ e. omega arith)
    (free-cons 10 44 (group_bytes (q ∷ g)) (λ e. omega arith) (group_free (q ∷ g)))))

groups-free : (gs : List Group) → List-as-Memᴰ 10 (groups_bytes gs) → ⊥
unfolding groups_bytes
groups-free [] = List-Memᴰ-not-nil
groups-free (g ∷ gs) =
    free-cons 10 44 (group_bytes g ++ groups_bytes gs) (λ e. omega arith)
    (free-append 10 (group_bytes g) (groups_bytes gs) (group_free g) (groups-free gs))

word-free : (w : Word) (mark : ℕ) → mark < 48 → List-as-Memᴰ mark (word_bytes w) → ⊥
unfolding word_bytes bytes
word-free CC mark h = free-cons mark 67 (67 ∷ []) (λ e. omega arith) (letter_free 67 mark (omega arith))
word-free CO mark h = free-cons mark 67 (79 ∷ []) (λ e. omega arith) (letter_free 79 mark (omega arith))
word-free SC mark h = free-cons mark 83 (67 ∷ []) (λ e. omega arith) (letter_free 67 mark (omega arith))
word-free SO mark h = free-cons mark 83 (79 ∷ []) (λ e. omega arith) (letter_free 79 mark (omega arith))

-- ---- the lines of an entry

decimal-few : (n : ℕ) → n ≤ 4 → (decimal (decimal_bytes n) ≡ some n) × (all_digits 10 (decimal_bytes n) ≡ true)
unfolding numeral_open decimal_open
decimal-few zero h = (refl, refl)
decimal-few (suc zero) h = (refl, refl)
decimal-few (suc (suc zero)) h = (refl, refl)
decimal-few (suc (suc (suc zero))) h = (refl, refl)
decimal-few (suc (suc (suc (suc zero)))) h = (refl, refl)
decimal-few (suc (suc (suc (suc (suc n))))) h = absurd (omega arith)

row-line : (w : Word) (gs : List Group) (rest : List ℕ)
    → lines (line_bytes (word_bytes w) gs ++ rest) ≡ some (word_bytes w ∷ groups_fields gs) ∷ lines rest
unfolding line_bytes
row-line w gs rest =
    ap lines
    (ap (λ (l : List ℕ). l ++ rest) (sym (append_assoc (word_bytes w) (groups_bytes gs) (10 ∷ [])))
    ∙ append_assoc (word_bytes w ++ groups_bytes gs) (10 ∷ []) rest)
    ∙ lines_join (word_bytes w ++ groups_bytes gs) rest
    (free-append 10 (word_bytes w) (groups_bytes gs) (word-free w 10 (omega arith)) (groups-free gs))
    ∙ ap (λ (l : Fields). some l ∷ lines rest) (line-fields gs (word_bytes w) (word-free w 44 (omega arith)))

module _ (name : List ℕ) (n : ℕ) (form-good : name_form name ≡ true) (h : n ≤ 4) where
  name-bytes : all_name name ≡ true
  unfolding name_form
  name-bytes =
      and_right (leb (length name) Size.name_bytes) (all_name name)
      (and_right (leb 1 (length name)) (leb (length name) Size.name_bytes && all_name name) form-good)

  digits : List ℕ
  digits = decimal_bytes n

  name-line : (rest : List ℕ) → lines (name_bytes name n ++ rest) ≡ some (bytes "Name" ∷ name ∷ decimal_bytes n ∷ []) ∷ lines rest
  unfolding name_bytes bytes fields
  name-line rest =
      let d = decimal_bytes n in
      let whole : List ℕ = 78 ∷ 97 ∷ 109 ∷ 101 ∷ 44 ∷ (name ++ (44 ∷ d)) in
      let behind : List-as-Memᴰ 10 (name ++ (44 ∷ d)) → ⊥ =
      free-append 10 name (44 ∷ d) (name_free 10 name (omega arith) name-bytes)
      (free-cons 10 44 d (λ e. omega arith) (digits-free 10 10 d (omega arith) (decimal-few n h).1)) in
      let free : List-as-Memᴰ 10 whole → ⊥ =
      free-cons 10 78 (97 ∷ 109 ∷ 101 ∷ 44 ∷ (name ++ (44 ∷ d))) (λ e. omega arith)
      (free-cons 10 97 (109 ∷ 101 ∷ 44 ∷ (name ++ (44 ∷ d))) (λ e. omega arith)
      (free-cons 10 109 (101 ∷ 44 ∷ (name ++ (44 ∷ d))) (λ e. omega arith)
      (free-cons 10 101 (44 ∷ (name ++ (44 ∷ d))) (λ e. omega arith)
      (free-cons 10 44 (name ++ (44 ∷ d)) (λ e. omega arith) behind)))) in
      let word-parted : List-as-Memᴰ {A = ℕ} 44 (78 ∷ 97 ∷ 109 ∷ 101 ∷ []) → ⊥ =
      free-cons 44 78 (97 ∷ 109 ∷ 101 ∷ []) (λ e. omega arith)
      (free-cons 44 97 (109 ∷ 101 ∷ []) (λ e. omega arith)
      (free-cons 44 109 (101 ∷ []) (λ e. omega arith) (letter_free 101 44 (omega arith)))) in
      ap (λ (l : List ℕ). lines (78 ∷ 97 ∷ 109 ∷ 101 ∷ 44 ∷ l))
      (append_assoc name (44 ∷ (d ++ (10 ∷ []))) rest
      ∙ ap (λ (l : List ℕ). name ++ (44 ∷ l)) (append_assoc d (10 ∷ []) rest)
      ∙ sym (append_assoc name (44 ∷ d) (10 ∷ rest)))
      ∙ lines_join whole rest free
      ∙ ap (λ (l : Fields). some l ∷ lines rest)
      (fields_join (78 ∷ 97 ∷ 109 ∷ 101 ∷ []) (name ++ (44 ∷ d)) word-parted
      ∙ ap (λ (l : Fields). (78 ∷ 97 ∷ 109 ∷ 101 ∷ []) ∷ l)
      (fields_join name d (name_free 44 name (omega arith) name-bytes)
      ∙ ap (λ (l : Fields). name ∷ l) (split_whole 44 d (digits-free 10 44 d (omega arith) (decimal-few n h).1))))

  name-read : name_line 1 [] (bytes "Name" ∷ name ∷ decimal_bytes n ∷ []) ≡ read (record { name = name; pins = n; heading = plain })
  unfolding name_line name_after heading_of header_of form weigh pick ◌>>=◌ ◌>>◌ name_used cell_named pins_bad
  name-read =
      rw (same_bytes_refl (bytes "Name"), (decimal-few n h).0, form-good, le-ltb 8 n (omega arith)) refl

end_line_lem : lines (bytes "End" ++ (10 ∷ [])) ≡ some (bytes "End" ∷ []) ∷ []
unfolding bytes lines_open
end_line_lem = refl

-- An entry as it is printed is accepted by the library reader, and read as the cell.
pub cell-read : (name : List ℕ) (n : ℕ) (cc co sc so : List Group) → name_form name ≡ true → n ≤ 4
    → GoodLine CC n cc → GoodLine CO n co → GoodLine SC n sc → GoodLine SO n so
    → let c : Cell = record { name = name; pins = n; heading = plain; cc = cc; co = co; sc = sc; so = so } in
    library (entry_bytes c) ≡ read (c ∷ [])
unfolding entry_bytes library library_from library_line form ◌>>=◌ ◌>>◌ begun with_groups line_after end_after library_end same_bytes pick bytes word_bytes
cell-read name n cc co sc so f h gcc gco gsc gso =
    rw (name-line name n f h _, row-line CC cc _, row-line CO co _, row-line SC sc _, row-line SO so _, end_line_lem, name-read name n f h, line_read_lem 2 CC n cc gcc, line_read_lem 3 CO n co gco, line_read_lem 4 SC n sc gsc, line_read_lem 5 SO n so gso) refl
