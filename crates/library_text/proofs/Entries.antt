-- What each line of an entry leaves: the reading behind it and the table that holds it, or its refusal number.
use Rattle.common_laws.proofs.Base.{true, false, List, [], ◌∷◌, ◌++◌, none, some, ◌≡◌, refl, sym, ap, ap₂, ◌∙◌, ℕ, ◌+◌, ◌≤◌, ◌<◌, arith, length, get_or, set, drop}
use Rattle.common_laws.proofs.Base.{length-append, eq-eqb, ne_eqb, le-ltb}
use Rattle.std.specs.Prelude.{Some, None, IfSome}
use Rattle.sizes.specs.Sizes as Size
use Rattle.reading.specs.Choice.{pick}
use Rattle.reading.specs.Each.{Each}
use Rattle.reading.specs.Numbers as No
use Rattle.reading.specs.Refusal.{refused, read, ◌>>=◌, ◌>>◌, form}
use Rattle.reading.proofs.Laws.{by_test, and_right}
use Rattle.text.specs.Lines.{same_bytes}
use Rattle.text.proofs.FieldLaws.{name_form-length}
use Rattle.library_table.specs.Cells.{Group, Cell}
use Rattle.library_table.specs.declared.Heading.{Heading}
use Rattle.library_table.specs.declared.Word.{Word}
use Rattle.library_table.specs.declared.Word.TheVariants.{CC, CO, SC, SO}
use Rattle.library_table.specs.declared.Before.TheVariants.{Word as word}
use Rattle.library_table.specs.declared.Wanted.{Wanted}
use Rattle.library_table.specs.declared.Wanted.TheVariants.{Rows as word_line, End as end_line}
use Rattle.library_table.specs.Library.{Fields, holds, rows_after, name_line, rows_form, any_of, above_rows, groups_of, word_bytes, line_after, Place, outside, inside, Reading, begun, word_groups, with_groups, row_line, library_line}
use Rattle.library_table.specs.Layout.{heading_number, library_words, LibraryHolds}
use Rattle.library_table.specs.Sound.{SoundGroup, SoundEntry, SoundPlace, SoundReading}
use Rattle.library_table.proofs.Laws.{rowLine_sound, library_line-sound, sound-fits}
use Rattle.library_table.proofs.Places.{space, within-space}
use Rattle.library_text.specs.Passes.{counted_words, asked_of, none_passed, stored, row_number, RowsRead}
use Rattle.library_text.specs.Headers.{header_put, header_number, end_formed}
use Rattle.library_text.specs.Walk.{place_cells, reading_words, place_entry, within, StateFits, Shows, Onward}
use Rattle.library_text.specs.declared.Head.{Head}
use Rattle.library_text.specs.declared.lines.Entry.{Entry}
use Rattle.library_text.specs.declared.lines.State.{State}
use Rattle.library_text.proofs.Headers.{rowLine_number, head_after, headed, name_after-none, name_line-number, end_after-formed}
use Rattle.library_text.proofs.Passes.{row_formed}
use Rattle.library_text.proofs.Stores.{part_table, line-stored}
use Rattle.library_text.proofs.LineStores.{header-stored, count-stored}

-- ---- places by the reader's state

pub outside-at : (here : Place) → place_entry here ≡ None → here ≡ outside
unfolding place_entry
outside-at outside e = refl
outside-at (inside wanted c) e = absurd (cc)

-- A place that wants this line, of a cell with this head.
pub record AtLine (here : Place) (wanted : Wanted) (head : Head) : Type 0 where
  pub cell : Cell
  pub same : here ≡ inside wanted cell
  pub pins : head.pins ≡ cell.pins
  pub heading : head.heading ≡ cell.heading

pub at-line : (here : Place) (wanted : Wanted) (head : Head) → Some (record { wanted = wanted; head = head }) ≡ place_entry here → AtLine here wanted head
unfolding place_entry
at-line outside wanted head e = absurd (cc)
at-line (inside w c) wanted head e =
    let entry : Entry = record { wanted = wanted; head = head } in
    let told : Entry = record { wanted = w; head = record { pins = c.pins; heading = c.heading } } in
    let same : entry ≡ told = cc in
    record {
      cell = c;
      same = ap (λ (x : Entry). inside x.wanted c) (sym same);
      pins = ap (λ (x : Entry). x.head.pins) same;
      heading = ap (λ (x : Entry). x.head.heading) same;
    }

-- ---- the name line

module _ (fs : Fields) (r : Reading) (past : List ℕ) (n cells : ℕ) (table : List ℕ) (shows : Shows r (record { cells = cells; entry = None }) table past) where
  is_outside : r.place ≡ outside
  is_outside = outside-at r.place (sym shows.entry)

  outside-words : table ≡ library_words r.cells ++ past
  unfolding reading_words place_cells counted_words library_words
  outside-words = shows.words ∙ rw is_outside

  pub outside-holds : LibraryHolds table r.cells
  outside-holds = record { past = past; words = outside-words; fits = sound-fits r.cells shows.sound.cells }

  pub name-bad : head_after fs ≡ none → library_line n r.cells r.place fs ≡ refused No.library_form n
  unfolding library_line name_line form ◌>>=◌
  name-bad p = rw (is_outside, name_after-none fs p)

  module _ (head : Head) (p : head_after fs ≡ some head) where
    pub name-refused : (k : ℕ) → k ≡ header_number (get_or fs 1 []) head.pins table → (k ≡ 0 → ⊥) → library_line n r.cells r.place fs ≡ refused k n
    unfolding library_line ◌>>=◌ pick
    name-refused k e h = rw (is_outside, name_line-number n r.cells table outside-holds fs head p, ← e, ne_eqb k 0 h)

    pub name-read : (after : List ℕ) → header_number (get_or fs 1 []) head.pins table ≡ 0 → after ≡ header_put cells (get_or fs 1 []) head.pins (heading_number head.heading) table
        → Onward (library_line n r.cells r.place fs) (within cells (word_line CC) head) after past
    unfolding reading_words place_cells place_entry SoundPlace begun library_line ◌>>=◌ pick
    name-read after zeroed stored_as =
        let c : Cell = begun (headed fs head) in
        let next : Reading = record { cells = r.cells; place = inside (word_line CC) c } in
        let reads : library_line n r.cells outside fs ≡ read next = rw (name_line-number n r.cells table outside-holds fs head p, eq-eqb (header_number (get_or fs 1 []) head.pins table) 0 zeroed) in
        let known : SoundReading next = library_line-sound n r.cells outside fs next shows.sound.cells tt reads in
        let short : length (get_or fs 1 []) ≤ Size.name_bytes = (name_form-length (get_or fs 1 []) known.entry.header.form).1 in
        let words : after ≡ counted_words (length r.cells) (r.cells ++ (c ∷ [])) ++ past =
        stored_as
        ∙ rw (outside-words, shows.cells) (header-stored r.cells past (get_or fs 1 []) head.pins head.heading known.entry.space short) in
        rw is_outside (record { reading = next; same = reads; shows = record { cells = shows.cells; entry = refl; words = words; sound = known } })

-- ---- the row lines

number-formed : (h : Heading) (w : Word) (n : ℕ) (fs : Fields) → 0 < length fs → row_number h w n fs ≡ 0 → rows_form h word (drop 1 fs) ≡ true
unfolding row_number pick
number-formed h w n fs k e =
    let s = same_bytes (get_or fs 0 []) (word_bytes w) in
    by_test (holds (rows_after h w fs))
    (λ t. and_right s (rows_form h word (drop 1 fs)) (sym (row_formed h w fs k) ∙ t))
    (λ t. let three : No.library_form ≡ 0 = rw t at e in absurd (omega arith))

no_long : (w : Word) (n : ℕ) (all gs : List Group) → Each (SoundGroup w n all) gs → any_of above_rows gs ≡ false
unfolding Each any_of above_rows
no_long w n all [] e = refl
no_long w n all (g ∷ gs) e = rw (le-ltb Size.rows (length g) e.0.most-rows) (no_long w n all gs e.1)

-- The groups of the word that an entry wants are still to come.
without : (n : ℕ) (w : Word) (c : Cell) → SoundEntry n (word_line w) c → with_groups w [] c ≡ c
unfolding word_groups with_groups
without n CC c e = rw (← e.cc)
without n CO c e = rw (← e.co)
without n SC c e = rw (← e.sc)
without n SO c e = rw (← e.so)

same-pins : (w : Word) (gs : List Group) (c : Cell) → (with_groups w gs c).pins ≡ c.pins
unfolding with_groups
same-pins CC gs c = refl
same-pins CO gs c = refl
same-pins SC gs c = refl
same-pins SO gs c = refl

same-heading : (w : Word) (gs : List Group) (c : Cell) → (with_groups w gs c).heading ≡ c.heading
unfolding with_groups
same-heading CC gs c = refl
same-heading CO gs c = refl
same-heading SC gs c = refl
same-heading SO gs c = refl

-- A row line of word `w` behind so many cells, of cell `c`.
module _ (n : ℕ) (cells : List Cell) (w : Word) (c : Cell) (fs : Fields) where
  abbrev heading : Heading
  heading = c.heading

  entry-line : row_number heading w c.pins fs ≡ 0 → row_line n heading w c.pins fs ≡ read (groups_of heading (drop 1 fs))
  unfolding pick
  entry-line e = rowLine_number n heading w c.pins fs ∙ rw (eq-eqb (row_number heading w c.pins fs) 0 e)

  entry-stored : (past : List ℕ) → 0 < length fs → row_number heading w c.pins fs ≡ 0 → SoundEntry (length cells) (word_line w) c
      → stored (asked_of (length cells) heading w c.pins) none_passed (drop 1 fs) (counted_words (length cells) (cells ++ (c ∷ [])) ++ past)
      ≡ counted_words (length cells) (cells ++ (with_groups w (groups_of heading (drop 1 fs)) c ∷ [])) ++ past
  unfolding part_table asked_of
  entry-stored past some-field e known =
      let rows = drop 1 fs in
      let groups = rowLine_sound w c.pins n heading fs (groups_of heading rows) (entry-line e) in
      let fits : length (groups_of heading rows) ≤ space w = omega (arith, groups.count, within-space w c.pins known.header.most-pins) in
      let stores = line-stored (length cells) cells w c past known.space rows in
      ap (λ (x : Cell). stored (asked_of (length cells) heading w c.pins) none_passed rows (counted_words (length cells) (cells ++ (x ∷ [])) ++ past)) (sym (without (length cells) w c known))
      ∙ stores (number-formed heading w c.pins fs some-field e) fits (no_long w c.pins (groups_of heading rows) (groups_of heading rows) groups.groups)

module _ (fs : Fields) (some-field : 0 < length fs) (r : Reading) (past : List ℕ) (n cells : ℕ) (w : Word) (head : Head) (table : List ℕ) (shows : Shows r (within cells (word_line w) head) table past) (at : AtLine r.place (word_line w) head) where
  abbrev c : Cell
  c = at.cell

  known : SoundEntry (length r.cells) (word_line w) c
  unfolding SoundPlace
  known = rw at.same at shows.sound.entry

  -- What the line was read by, from the reader's state and from the reading.
  number-read : (after : List ℕ) (said : ℕ) → RowsRead cells head.heading w head.pins fs table after said → said ≡ row_number c.heading w c.pins fs
  number-read after said rows = rows.number ∙ ap₂ (λ (h : Heading) (k : ℕ). row_number h w k fs) at.heading at.pins

  pub row_refused : (after : List ℕ) (said : ℕ) → RowsRead cells head.heading w head.pins fs table after said → (said ≡ 0 → ⊥)
      → library_line n r.cells r.place fs ≡ refused said n
  unfolding library_line ◌>>=◌ pick
  row_refused after said rows h = rw (at.same, rowLine_number n c.heading w c.pins fs, ← number-read after said rows, ne_eqb said 0 h)

  pub row_read : (after : List ℕ) (said : ℕ) → RowsRead cells head.heading w head.pins fs table after said → said ≡ 0
      → Onward (library_line n r.cells r.place fs) (within cells (line_after w) head) after past
  unfolding reading_words place_cells place_entry SoundPlace library_line ◌>>=◌
  row_read after said rows e =
      let number : row_number c.heading w c.pins fs ≡ 0 = sym (number-read after said rows) ∙ e in
      let groups = groups_of c.heading (drop 1 fs) in
      let grown = with_groups w groups c in
      let next : Reading = record { cells = r.cells; place = inside (line_after w) grown } in
      let reads : library_line n r.cells (inside (word_line w) c) fs ≡ read next = rw (entry-line n r.cells w c fs number) in
      let held : table ≡ counted_words (length r.cells) (r.cells ++ (c ∷ [])) ++ past = shows.words ∙ ap (λ (p : Place). counted_words (length r.cells) (place_cells r.cells p) ++ past) at.same in
      rw at.same
      (record {
        reading = next;
        same = reads;
        shows = record {
          cells = shows.cells;
          entry =
              ap₂ (λ (k : ℕ) (h : Heading). Some (record { wanted = line_after w; head = record { pins = k; heading = h } })) (at.pins ∙ sym (same-pins w groups c)) (at.heading ∙ sym (same-heading w groups c));
          words =
              rows.table e
              ∙ ap₂ (λ (h : Heading) (k : ℕ). stored (asked_of cells h w k) none_passed (drop 1 fs) table) at.heading at.pins
              ∙ rw (shows.cells, held) (entry-stored n r.cells w c fs past some-field number known);
          sound = library_line-sound n r.cells (inside (word_line w) c) fs next shows.sound.cells known reads;
        };
      })

-- ---- the end line

module _ (fs : Fields) (r : Reading) (past : List ℕ) (n cells : ℕ) (head : Head) (table : List ℕ) (shows : Shows r (within cells end_line head) table past) (ending : AtLine r.place end_line head) where
  pub end_refused : end_formed fs ≡ false → library_line n r.cells r.place fs ≡ refused No.library_form n
  unfolding library_line form ◌>>◌ pick
  end_refused h = rw (ending.same, end_after-formed fs, h)

  pub end_read : (after : List ℕ) → end_formed fs ≡ true → after ≡ set table 0 (cells + 1)
      → Onward (library_line n r.cells r.place fs) (record { cells = cells + 1; entry = None }) after past
  unfolding place_entry place_cells reading_words counted_words library_words SoundPlace library_line form ◌>>◌ pick
  end_read after h now =
      let c = ending.cell in
      let next : Reading = record { cells = r.cells ++ (c ∷ []); place = outside } in
      let reads : library_line n r.cells (inside end_line c) fs ≡ read next = rw (end_after-formed fs, h) in
      let held : table ≡ counted_words (length r.cells) (r.cells ++ (c ∷ [])) ++ past = shows.words ∙ ap (λ (p : Place). counted_words (length r.cells) (place_cells r.cells p) ++ past) ending.same in
      rw ending.same
      (record {
        reading = next;
        same = reads;
        shows = record {
          cells = rw shows.cells (sym (length-append r.cells (c ∷ [])));
          entry = refl;
          words = now ∙ rw (held, shows.cells) (count-stored r.cells c past);
          sound = library_line-sound n r.cells (inside end_line c) fs next shows.sound.cells (rw ending.same at shows.sound.entry) reads;
        };
      })

-- The numbers that the reader's state has are small.
pub state-fits : (r : Reading) (s : State) (table past : List ℕ) → Shows r s table past → StateFits s
unfolding SoundPlace place_entry
state-fits r s table past shows =
    record {
      cells = omega (arith, shows.cells, shows.sound.cells.few);
      pins = rw shows.entry (most r.place shows.sound.entry);
    }
  where
    most : (p : Place) → SoundPlace (length r.cells) p → IfSome (place_entry p) (λ e. e.head.pins ≤ Size.pins)
    most outside e = tt
    most (inside wanted c) e = e.header.most-pins
