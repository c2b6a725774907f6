-- The facts of every library that was read. What stands at a place of its table is in `Places.antt`.
use Rattle.common_laws.proofs.Base.{Bool, true, false, not, ◌&&◌, ◌||◌, List, [], ◌∷◌, ◌++◌, Option, none, some, Option-none-ne-some, ◌≡◌, refl, sym, ap, ◌∙◌, ℕ, suc, ◌+◌, ◌*◌}
use Rattle.common_laws.proofs.Base.{◌^◌, ◌≤◌, ◌<◌, mod-lt, arith, leb, eqb, length, length-append, ltb-false, leb-false, eqb-true, not-false}
use Rattle.sizes.specs.Sizes as Size
use Rattle.reading.specs.Choice.{pick}
use Rattle.reading.specs.Each.{Each}
use Rattle.reading.specs.Numbers as No
use Rattle.reading.specs.Refusal.{read, weigh, form}
use Rattle.reading.proofs.Laws.{or_left, or_right, each_append, each_map, refused-read, bind_read, then-read, form-read, weigh-one}
use Rattle.text.specs.Lines.{same_bytes, lines}
use Rattle.text.specs.Numeral.{value, decimal, name_form}
use Rattle.text.proofs.FieldLaws.{name_form-length}
use Rattle.library_table.specs.Cells.{depth_bits, deepest, Row, row_of, Group, Cell, bit}
use Rattle.library_table.specs.declared.Heading.{Heading}
use Rattle.library_table.specs.declared.Heading.TheVariants.{Plain as plain, Deep as deep}
use Rattle.library_table.specs.declared.Word.{Word}
use Rattle.library_table.specs.declared.Word.TheVariants.{CC, CO, SC, SO}
use Rattle.library_table.specs.Library.{Fields, is_join, is_z, rows_form, join_first, with_row, groups_of, any_of, above_rows, above, observes_not, word_bytes, group_count, column_count, idle, excepted, row_idle, rows_after, row_line, Header, heading_of, header_of, name_after, end_after, name_used, pins_bad, name_line, line_after, Place, outside, inside, Reading, begun, word_groups, with_groups, library_line, library_end, library_from, library}
use Rattle.library_table.specs.declared.Before.TheVariants.{Word as word}
use Rattle.library_table.specs.declared.Wanted.TheVariants.{Rows as word_line, End as end_line}
use Rattle.library_table.specs.Layout.{ShortName, FewPins, Fits}
use Rattle.library_table.specs.Sound.{SoundRow, SoundGroup, SoundGroups, SoundHeader, SoundCell, Sound, SoundEntry, SoundPlace, SoundReading}

weigh-three : (line i j k : ℕ) (x y z : Bool) (u : Unit {0}) → weigh line ((i, x) ∷ (j, y) ∷ (k, z) ∷ []) ≡ read u → (x ≡ false) × (y ≡ false) × (z ≡ false)
weigh-three line i j k x y z u e =
    let first = weigh-one i line x _ u e in
    let second = weigh-one j line y _ u first.1 in
    (first.0, second.0, (weigh-one k line z _ u second.1).0)

-- ---- the groups of a line

-- A group as its line wrote it: no row deeper than its entry can write.
Shallow : Row → Type 0
Shallow r = r.depth ≤ deepest

abbrev Written : Group → Type 0
Written g = Each Shallow g

row_shallow : (h : Heading) (x : ℕ) → Shallow (row_of h x)
unfolding row_of depth_bits Shallow
row_shallow plain x = omega (arith, mod-lt x {m = 2} (omega arith))
row_shallow deep x = omega (arith, mod-lt x {m = 8} (omega arith))

withRow_written : (j : Bool) (r : Row) (gs : List Group) → Shallow r → Each Written gs → Each Written (with_row j r gs)
unfolding with_row Each
withRow_written false r gs s e = ((s, tt), e)
withRow_written true r [] s e = ((s, tt), tt)
withRow_written true r (g ∷ gs) s e = ((s, e.0), e.1)

groups-written : (h : Heading) (fs : Fields) → Each Written (groups_of h fs)
unfolding groups_of Each pick
groups-written h [] = tt
groups-written h (f ∷ fs) = step (groups-written h fs) (is_join f) (is_z f)
  where
    step : Each Written (groups_of h fs) → (j z : Bool)
        → Each Written (pick j (groups_of h fs) (pick z ([] ∷ groups_of h fs) (with_row (join_first fs) (row_of h (value 8 0 f)) (groups_of h fs))))
    step e true z = e
    step e false true = (tt, e)
    step e false false = withRow_written (join_first fs) (row_of h (value 8 0 f)) (groups_of h fs) (row_shallow h (value 8 0 f)) e

pick_some : {A : Type 0} (t : Bool) (a b : A) → pick t (some a) none ≡ some b → (t ≡ true) × (a ≡ b)
unfolding pick
pick_some true a b e = (refl, cc)
pick_some false a b e = absurd (Option-none-ne-some _ e)

rows_written : (h : Heading) (w : Word) (fs : Fields) (gs : List Group) → rows_after h w fs ≡ some gs → Each Written gs
unfolding rows_after
rows_written h w [] gs e = absurd (Option-none-ne-some _ e)
rows_written h w (f ∷ fs) gs e =
    let same : groups_of h fs ≡ gs = (pick_some (same_bytes f (word_bytes w) && rows_form h word fs) (groups_of h fs) gs e).1 in
    rw same at (groups-written h fs)

-- Of two facts that are not both so, the second is not so where the first is.
not-both : (x y : Bool) → (not x && y) ≡ false → x ≡ false → y ≡ false
not-both x y e f = rw f at e

module _ (w : Word) (n : ℕ) where
  abbrev high : Row → Bool
  high = above (column_count w n)

  module _ (all : List Group) where
    rows-sound : (g : Group) → Each Shallow g → any_of high g ≡ false → (excepted w all ≡ false → any_of (idle w n) g ≡ false) → Each (SoundRow w n all) g
    unfolding any_of Each above Shallow
    rows-sound [] s a i = tt
    rows-sound (r ∷ g) s a i = (
      record {
        depth = s.0;
        within = leb-false (2 ^ column_count w n) r.columns (or_left (high r) (any_of high g) a);
        useful = λ x. or_left (idle w n r) (any_of (idle w n) g) (i x);
      },
      rows-sound g s.1 (or_right (high r) (any_of high g) a) (λ x. or_right (idle w n r) (any_of (idle w n) g) (i x)),
    )

    groups-sound : (gs : List Group) → Each Written gs → any_of above_rows gs ≡ false → any_of (any_of high) gs ≡ false
        → (excepted w all ≡ false → any_of (any_of (idle w n)) gs ≡ false) → Each (SoundGroup w n all) gs
    unfolding any_of Each above_rows
    groups-sound [] s l a i = tt
    groups-sound (g ∷ gs) s l a i =
        let rows = rows-sound g s.0 (or_left (any_of high g) (any_of (any_of high) gs) a) (λ x. or_left (any_of (idle w n) g) (any_of (any_of (idle w n)) gs) (i x)) in (
          record { most-rows = ltb-false Size.rows (length g) (or_left (above_rows g) (any_of above_rows gs) l); rows = rows },
          groups-sound gs s.1 (or_right (above_rows g) (any_of above_rows gs) l) (or_right (any_of high g) (any_of (any_of high) gs) a)
              (λ x. or_right (any_of (idle w n) g) (any_of (any_of (idle w n)) gs) (i x)),
        )

  -- A row line that is read has the groups that its word and its cell ask for.
  pub rowLine_sound : (line : ℕ) (h : Heading) (fs : Fields) (gs : List Group) → row_line line h w n fs ≡ read gs → SoundGroups w n gs
  unfolding row_line row_idle
  rowLine_sound line h fs gs =
      bind_read (form No.library_form line (rows_after h w fs)) _ gs
      (λ hs formed. then-read _ (read hs) gs
      (λ u weighed last.
      let same : hs ≡ gs = cc in
      let other = not (eqb (length hs) (group_count w n)) in
      let none = weigh-three line No.groups_bad No.bit_above No.row_idle (other || any_of above_rows hs) (any_of (any_of high) hs) (row_idle w n hs) u weighed in
      let written = rows_written h w fs hs (form-read No.library_form line (rows_after h w fs) hs formed) in
      let found : SoundGroups w n hs =
      record {
        count = eqb-true (length hs) (group_count w n) (not-false (eqb (length hs) (group_count w n)) (or_left other (any_of above_rows hs) none.0));
        groups = groups-sound hs hs written (or_right other (any_of above_rows hs) none.0) none.1 (not-both (excepted w hs) (any_of (any_of (idle w n)) hs) none.2);
      } in
      rw same at found))

-- ---- the name line

-- A name line of good form has a name of good form.
header-form : (o : Option Heading) (name : List ℕ) (n : Option ℕ) (h : Header) → header_of o name n ≡ some h → name_form h.name ≡ true
unfolding header_of
header-form none name n h e = absurd (Option-none-ne-some _ e)
header-form (some k) name none h e = absurd (Option-none-ne-some _ e)
header-form (some k) name (some n) h e =
    let good = pick_some (name_form name) (record { name = name; pins = n; heading = k }) h e in
    ap (λ (x : Header). name_form x.name) (sym good.1) ∙ good.0

name-form : (fs : Fields) (h : Header) → name_after fs ≡ some h → name_form h.name ≡ true
unfolding name_after
name-form [] h e = absurd (Option-none-ne-some _ e)
name-form (f ∷ []) h e = absurd (Option-none-ne-some _ e)
name-form (f ∷ (name ∷ [])) h e = absurd (Option-none-ne-some _ e)
name-form (f ∷ (name ∷ (n ∷ []))) h e = header-form (heading_of f) name (decimal n) h e
name-form (f ∷ (name ∷ (n ∷ (x ∷ xs)))) h e = absurd (Option-none-ne-some _ e)

-- What a name line that is read shows: a good header, and space for one cell more.
name_line-sound : (line : ℕ) (cells : List Cell) (fs : Fields) (h : Header) → name_line line cells fs ≡ read h → SoundHeader h.name h.pins × (length cells < Size.cells)
unfolding name_line pins_bad
name_line-sound line cells fs h =
    bind_read (form No.library_form line (name_after fs)) _ h
    (λ g formed. then-read _ (read g) h
    (λ u weighed last.
    let same : g ≡ h = cc in
    let none = weigh-three line No.name_used No.pins_bad No.cells_many (name_used g.name cells) (pins_bad g.pins) (leb Size.cells (length cells)) u weighed in
    let header : SoundHeader g.name g.pins =
    record {
      form = name-form fs g (form-read No.library_form line (name_after fs) g formed);
      most-pins = ltb-false Size.pins g.pins none.1;
    } in
    (rw same at header, leb-false Size.cells (length cells) none.2)))

-- ---- a line, and a text

sound-reading : (cells : List Cell) (place : Place) (r : Reading) → Sound cells → SoundPlace (length cells) place → record { cells = cells; place = place } ≡ r → SoundReading r
sound-reading cells place r b p same = let s : SoundReading (record { cells = cells; place = place }) = record { cells = b; entry = p } in rw same at s

entry_kept : (n : ℕ) (w : Word) (c : Cell) (gs : List Group) → SoundEntry n (word_line w) c → SoundGroups w c.pins gs → SoundEntry n (line_after w) (with_groups w gs c)
unfolding line_after with_groups word_groups
entry_kept n CC c gs e s = record { space = e.space; header = e.header; cc = s; co = e.co; sc = e.sc; so = e.so }
entry_kept n CO c gs e s = record { space = e.space; header = e.header; cc = e.cc; co = s; sc = e.sc; so = e.so }
entry_kept n SC c gs e s = record { space = e.space; header = e.header; cc = e.cc; co = e.co; sc = s; so = e.so }
entry_kept n SO c gs e s = record { space = e.space; header = e.header; cc = e.cc; co = e.co; sc = e.sc; so = s }

-- Each line that is read keeps what is known.
pub library_line-sound : (line : ℕ) (cells : List Cell) (place : Place) (fs : Fields) (r : Reading) → Sound cells → SoundPlace (length cells) place → library_line line cells place fs ≡ read r → SoundReading r
unfolding library_line SoundPlace Each begun word_groups
library_line-sound line cells outside fs r before p =
    bind_read (name_line line cells fs) _ r
    (λ h took last.
    let known = name_line-sound line cells fs h took in
    let entry : SoundEntry (length cells) (word_line CC) (begun h) = record { space = known.1; header = known.0; cc = refl; co = refl; sc = refl; so = refl } in
    sound-reading cells (inside (word_line CC) (begun h)) r before entry (cc))
library_line-sound line cells (inside (word_line w) c) fs r before p =
    bind_read (row_line line c.heading w c.pins fs) _ r
    (λ gs took last.
    sound-reading cells (inside (line_after w) (with_groups w gs c)) r before (entry_kept (length cells) w c gs p (rowLine_sound w c.pins line c.heading fs gs took)) (cc))
library_line-sound line cells (inside end_line c) fs r before p =
    then-read (form No.library_form line (end_after fs)) _ r
    (λ u took last.
    let cell : SoundCell c = record { header = p.header; cc = p.cc; co = p.co; sc = p.sc; so = p.so } in
    let few : length (cells ++ (c ∷ [])) ≤ Size.cells = omega (arith, length-append cells (c ∷ []), p.space) in
    sound-reading (cells ++ (c ∷ [])) outside r (record { few = few; each = each_append SoundCell cells (c ∷ []) before.each (cell, tt) }) tt (cc))

end_read : (line : ℕ) (cells found : List Cell) (place : Place) → library_end line cells place ≡ read found → cells ≡ found
unfolding library_end
end_read line cells found outside e = cc
end_read line cells found (inside wanted c) e = refused-read e

library_from-sound : (line : ℕ) (r : Reading) (ls : List (Option Fields)) (cells : List Cell) → SoundReading r → library_from line r ls ≡ read cells → Sound cells
unfolding library_from
library_from-sound line r [] cells s e = rw (end_read line r.cells cells r.place e) at s.cells
library_from-sound line r (l ∷ ls) cells s e =
    bind_read (form No.library_form line l) _ cells
    (λ fs formed. bind_read (library_line line r.cells r.place fs) _ cells
    (λ next took last. library_from-sound (suc line) next ls cells (library_line-sound line r.cells r.place fs next s.cells s.entry took) last))
    e

pub start-sound : SoundReading (record { cells = []; place = outside })
unfolding SoundPlace Each
start-sound = record { cells = record { few = omega arith; each = tt }; entry = tt }

-- What holds of the cells of each library text that is accepted.
pub library-sound : (t : List ℕ) (cells : List Cell) → library t ≡ read cells → Sound cells
unfolding library
library-sound t cells e = library_from-sound 1 (record { cells = []; place = outside }) (lines t) cells start-sound e

-- ---- the table

-- The cells fit the layout.
pub sound-fits : (cells : List Cell) → Sound cells → Fits cells
unfolding ShortName FewPins
sound-fits cells s =
    record {
      few = s.few;
      short = each_map SoundCell ShortName (λ c g. (name_form-length c.name g.header.form).1) cells s.each;
      narrow = each_map SoundCell FewPins (λ c g. g.header.most-pins) cells s.each;
    }

-- ---- groups and rows by their words

pub cell-known : (w : Word) (c : Cell) → SoundCell c → SoundGroups w c.pins (word_groups w c)
unfolding word_groups
cell-known CC c s = s.cc
cell-known CO c s = s.co
cell-known SC c s = s.sc
cell-known SO c s = s.so

module _ (n : ℕ) (r : Row) where
  pub CO_observes : idle CO n r ≡ false → bit r.columns (2 * n + 2) ≡ true
  unfolding idle observes_not
  CO_observes e = not-false (bit r.columns (2 * n + 2)) e

  pub SO_observes : idle SO n r ≡ false → bit r.columns (2 * n + 2) ≡ true
  unfolding idle observes_not
  SO_observes e = not-false (bit r.columns (2 * n + 2)) e
