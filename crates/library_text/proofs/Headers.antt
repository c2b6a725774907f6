-- The lines of an entry by their refusal numbers, and the Name line and the End line by their fields, tied to the definitions
-- of the library text.
use Rattle.common_laws.proofs.Base.{Bool, true, false, not, ◌&&◌, ◌||◌, List, [], ◌∷◌, Option, none, some, Option-none-ne-some, ◌≡◌, refl, ◌∙◌, ℕ, suc, ◌<◌, arith, leb, ltb}
use Rattle.common_laws.proofs.Base.{eqb, length, get_or, drop, ne_eqb}
use Rattle.sizes.specs.Sizes as Size
use Rattle.reading.specs.Numbers as No
use Rattle.text.specs.Bytes.{bytes}
use Rattle.reading.specs.Choice.{pick}
use Rattle.text.specs.Lines.{same_bytes, fields, part, next_after}
use Rattle.text.specs.Numeral.{decimal, name_form}
use Rattle.reading.specs.Refusal.{refused, read, ◌>>=◌, ◌>>◌, weigh, form}
use Rattle.reading.proofs.Laws.{by_test, and_right}
use Rattle.text.proofs.Cursors.{field_nth, field_next, field_last}
use Rattle.text.proofs.Laws.{fields_from-start}
use Rattle.library_table.specs.Cells.{Cell}
use Rattle.library_table.specs.declared.Heading.{Heading}
use Rattle.library_table.specs.declared.Word.{Word}
use Rattle.library_table.specs.declared.Before.TheVariants.{Word as word}
use Rattle.library_table.specs.Library.{Fields, holds, rows_form, groups_of, any_of, above_rows, above, word_bytes, group_count, column_count, row_idle, rows_after, row_line, Header, heading_of, header_of, name_after, end_after, cell_named, name_used, pins_bad, name_line}
use Rattle.library_table.specs.Layout.{LibraryHolds}
use Rattle.library_text.specs.Passes.{row_number}
use Rattle.library_text.specs.Headers.{head_of, head_in, header_number, end_formed}
use Rattle.library_text.specs.declared.Head.{Head}
use Rattle.library_table.proofs.Names.{holds-count, holds_find}

-- ---- the lines by their refusal numbers

-- Three conditions weighed, the first number that holds.
weighed : {A : Type 0} (line i j k : ℕ) (x y z : Bool) (a : A) → 0 < i → 0 < j → 0 < k → (weigh line ((i, x) ∷ (j, y) ∷ (k, z) ∷ []) >> read a) ≡ pick (eqb (pick x i (pick y j (pick z k 0))) 0) (read a) (refused (pick x i (pick y j (pick z k 0))) line)
unfolding weigh pick ◌>>◌
weighed line i j k true y z a p q r = rw (ne_eqb i 0 (λ e. omega arith))
weighed line i j k false true z a p q r = rw (ne_eqb j 0 (λ e. omega arith))
weighed line i j k false false true a p q r = rw (ne_eqb k 0 (λ e. omega arith))
weighed line i j k false false false a p q r = refl

pub rowLine_number : (line : ℕ) (h : Heading) (w : Word) (n : ℕ) (fs : Fields)
    → row_line line h w n fs ≡ pick (eqb (row_number h w n fs) 0) (read (groups_of h (drop 1 fs))) (refused (row_number h w n fs) line)
unfolding row_line row_number rows_after form ◌>>=◌ holds pick
rowLine_number line h w n [] = refl
rowLine_number line h w n (f ∷ fs) = by_test (same_bytes f (word_bytes w) && rows_form h word fs) good bad
  where
    good : (same_bytes f (word_bytes w) && rows_form h word fs) ≡ true
        → row_line line h w n (f ∷ fs) ≡ pick (eqb (row_number h w n (f ∷ fs)) 0) (read (groups_of h fs)) (refused (row_number h w n (f ∷ fs)) line)
    good e =
        rw e
        (weighed line No.groups_bad No.bit_above No.row_idle (not (eqb (length (groups_of h fs)) (group_count w n)) || any_of above_rows (groups_of h fs)) (any_of (any_of (above (column_count w n))) (groups_of h fs)) (row_idle w n (groups_of h fs)) (groups_of h fs) (omega arith) (omega arith) (omega arith))

    bad : (same_bytes f (word_bytes w) && rows_form h word fs) ≡ false
        → row_line line h w n (f ∷ fs) ≡ pick (eqb (row_number h w n (f ∷ fs)) 0) (read (groups_of h fs)) (refused (row_number h w n (f ∷ fs)) line)
    bad e = rw e refl

-- A name line by its three fields.
header_from : List ℕ → Option Head → Option Header
header_from name none = none
header_from name (some d) = some (record { name = name; pins = d.pins; heading = d.heading })

header-in : (h : Option Heading) (name : List ℕ) (t : Bool) (o : Option ℕ) → name_form name ≡ t → header_of h name o ≡ header_from name (pick t (head_of h o) none)
unfolding pick header_of header_from head_of
header-in none name true o e = refl
header-in none name false o e = refl
header-in (some h) name true none e = refl
header-in (some h) name true (some n) e = rw e
header-in (some h) name false none e = refl
header-in (some h) name false (some n) e = rw e

abbrev pub head_after : Fields → Option Head
head_after fs = head_in (eqb (length fs) 3) (get_or fs 0 []) (get_or fs 1 []) (get_or fs 2 [])

name_after-head : (fs : Fields) → name_after fs ≡ header_from (get_or fs 1 []) (head_after fs)
unfolding name_after head_in header_from pick
name_after-head [] = refl
name_after-head (f ∷ []) = refl
name_after-head (f ∷ (name ∷ [])) = refl
name_after-head (f ∷ (name ∷ (n ∷ []))) = header-in (heading_of f) name (name_form name) (decimal n) refl
name_after-head (f ∷ (name ∷ (n ∷ (x ∷ xs)))) = rw (ne_eqb (suc (suc (suc (suc (length xs))))) 3 (λ e. omega arith))

heads-same : {b d : Bool} {x u y v z w : List ℕ} → b ≡ d → x ≡ u → y ≡ v → z ≡ w → head_in b x y z ≡ head_in d u v w
heads-same e f g h = cc

-- Three fields of a line, each cut once.
pub record Cut (line second : List ℕ) (o : Option Head) : Type 0 where
  pub head : o ≡ head_after (fields line)
  pub name : second ≡ get_or (fields line) 1 []

pub cut-name : (line f name digits : List ℕ) (second third next : ℕ) (three : Bool) (o : Option Head)
    → f ≡ part 44 line 0 → second ≡ next_after line 0 f → name ≡ part 44 line second → third ≡ next_after line second name → digits ≡ part 44 line third
    → next ≡ next_after line third digits → three ≡ (leb third (length line) && ltb (length line) next) → o ≡ head_in three f name digits → Cut line name o
cut-name line f name digits second third next three o cut on cut2 on2 cut3 on3 last e =
    let behind = field_next line f 0 second 0 (fields_from-start line) cut on in
    let behind2 = field_next line name second third 1 behind cut2 on2 in
    let named = field_nth line name second 0 1 behind cut2 in
    record {
      head =
          e
          ∙ heads-same
          (last ∙ field_last line digits third next 2 behind2 cut3 on3)
          (field_nth line f 0 0 0 (fields_from-start line) cut)
          named
          (field_nth line digits third 0 2 behind2 cut3);
      name = named;
    }

-- What a name line of good form says.
abbrev pub headed : Fields → Head → Header
headed fs d = record { name = get_or fs 1 []; pins = d.pins; heading = d.heading }

name_after-some : (fs : Fields) (d : Head) → head_after fs ≡ some d → name_after fs ≡ some (headed fs d)
unfolding header_from
name_after-some fs d e = name_after-head fs ∙ rw e

pub name_after-none : (fs : Fields) → head_after fs ≡ none → name_after fs ≡ none
unfolding header_from
name_after-none fs e = name_after-head fs ∙ rw e

-- A name line of good form has a name of good form.
pub head-form : (three : Bool) (f name digits : List ℕ) (d : Head) → head_in three f name digits ≡ some d → name_form name ≡ true
unfolding head_in pick
head-form three f name digits d e =
    by_test (three && name_form name)
    (and_right three (name_form name))
    (λ t. let z : none ≡ some d = rw t at e in absurd (Option-none-ne-some _ z))

pub name_line-number : (line : ℕ) (cells : List Cell) (table : List ℕ) → LibraryHolds table cells → (fs : Fields) (d : Head) → head_after fs ≡ some d
    → name_line line cells fs ≡ pick (eqb (header_number (get_or fs 1 []) d.pins table) 0) (read (headed fs d)) (refused (header_number (get_or fs 1 []) d.pins table) line)
unfolding name_line header_number name_used form ◌>>=◌
name_line-number line cells table held fs d e =
    let name = get_or fs 1 [] in
    rw (name_after-some fs d e, holds_find name table cells held, holds-count table cells held)
    (weighed line No.name_used No.pins_bad No.cells_many (ltb (cell_named name cells) (length cells)) (pins_bad d.pins) (leb Size.cells (length cells)) (headed fs d) (omega arith) (omega arith) (omega arith))

pub end_after-formed : (fs : Fields) → end_after fs ≡ pick (end_formed fs) (some tt) none
unfolding end_after end_formed pick
end_after-formed [] = refl
end_after-formed (f ∷ []) = refl
end_after-formed (f ∷ (x ∷ xs)) = rw (ne_eqb (suc (suc (length xs))) 1 (λ e. omega arith))

-- What two tests tell of the End line: that its first field is its last, and that it is the word End.
pub end-told : (line f : List ℕ) (next : ℕ) (last same : Bool) → f ≡ part 44 line 0 → next ≡ next_after line 0 f
    → last ≡ (leb 0 (length line) && ltb (length line) next) → same ≡ same_bytes f (bytes "End") → (last && same) ≡ end_formed (fields line)
unfolding end_formed
end-told line f next last same cut on told end =
    rw (told, end, field_last line f 0 next 0 (fields_from-start line) cut on, field_nth line f 0 0 0 (fields_from-start line) cut)
