-- What a text comes to is bounded: its entry fits the program's buffer, its refusal has a small number and line.
use Rattle.common_laws.proofs.Base.{true, ◌&&◌, List, [], ◌∷◌, map, Option, none, some, ◌≡◌, refl, sym, ℕ, ◌≤◌, ◌<◌, arith, ltb, length, le-ltb, ltb-true, ltb-false}
use Rattle.sizes.specs.Sizes as Size
use Rattle.reading.specs.Choice.{pick}
use Rattle.reading.specs.Numbers as No
use Rattle.reading.specs.Refusal.{Read, refused, read, ◌>>=◌, ◌>>◌, weigh, form}
use Rattle.reading.proofs.Laws.{by_test, and_left, refused-read}
use Rattle.reading.specs.Answer.{answer_read}
use Rattle.text.specs.Lines.{lines}
use Rattle.text.specs.Numeral.{decimal, name_form}
use Rattle.library_table.specs.Library.{Fields}
use Rattle.std.specs.Prelude.{Result}
use Rattle.reading.specs.declared.Refusal.{Refusal}
use Rattle.writer.specs.Buffer.{text_within, length_read, Writes}
use Rattle.truth_tables.specs.Entries.{cell_of, entry_bytes}
use Rattle.truth_tables.specs.Tables.{all_of}
use Rattle.truth_tables.proofs.Lengths.{longest_entry, entry-short}
use Rattle.truth_rows.specs.Masks.{is_bit, is_one}
use Rattle.truth_entry.specs.Generated.{TableLine, with_pins, table_line, table_after, ended, one_line, wrong_count, entry_of, judged, generated, generated_into}
use Rattle.truth_entry.specs.Bounded.{Bounded, LongBelow}

-- ---- a line that is read has a name

pins-name : (name bits : List ℕ) (o : Option ℕ) (t : TableLine) → with_pins name bits o ≡ some t → t.name ≡ name
unfolding with_pins
pins-name name bits none t e = let z : ◌≡◌ {A = ℕ} 0 1 = cc in absurd (omega arith)
pins-name name bits (some n) t e = cc

no_line : {D : Type 0} (t : TableLine) → ◌≡◌ {A = Option TableLine} none (some t) → D
no_line t e = let z : ◌≡◌ {A = ℕ} 0 1 = cc in absurd (omega arith)

line-name : (name n bits : List ℕ) (t : TableLine) → table_line true name n bits ≡ some t → name_form t.name ≡ true
unfolding table_line pick
line-name name n bits t e =
    by_test (name_form name && all_of is_bit bits)
    (λ g. rw (pins-name name bits (decimal n) t (rw g at e)) (and_left (name_form name) (all_of is_bit bits) g))
    (λ g. no_line t (rw g at e))

fields-name : (fs : Fields) (t : TableLine) → table_after fs ≡ some t → name_form t.name ≡ true
unfolding table_after
fields-name [] t e = no_line t e
fields-name (name ∷ []) t e = no_line t e
fields-name (name ∷ (n ∷ [])) t e = no_line t e
fields-name (name ∷ (n ∷ (bits ∷ []))) t e = line-name name n bits t e
fields-name (name ∷ (n ∷ (bits ∷ (f ∷ fs)))) t e = no_line t e

text-name : (ls : List (Option Fields)) (t : TableLine) → one_line ls ≡ some t → name_form t.name ≡ true
unfolding one_line ended
text-name [] t e = no_line t e
text-name (none ∷ []) t e = no_line t e
text-name (some fs ∷ []) t e = fields-name fs t e
text-name (l ∷ (k ∷ ls)) t e = no_line t e

-- ---- a buffer with room for every entry

entry-fits : (room : ℕ) → longest_entry ≤ room → (t : TableLine) → name_form t.name ≡ true → (entry_of t >>= text_within No.report_long room) ≡ entry_of t
unfolding entry_of weigh pick ◌>>◌ ◌>>=◌ text_within
entry-fits room h t f =
    by_test (wrong_count t)
    (λ e. rw e refl)
    (λ e. by_test (ltb 4 t.pins)
    (λ q. rw (e, q) refl)
    (λ q.
    let few : t.pins ≤ 4 = ltb-false 4 t.pins q in
    rw (e, q, le-ltb room (length (entry_bytes (cell_of t.name t.pins (map is_one t.bits)))) (omega (arith, entry-short t.name t.pins (map is_one t.bits) f few))) refl))

judged-fits : (room : ℕ) → longest_entry ≤ room → (o : Option TableLine) → ((t : TableLine) → o ≡ some t → name_form t.name ≡ true) → (judged o >>= text_within No.report_long room) ≡ judged o
unfolding judged form ◌>>=◌
judged-fits room h none f = refl
judged-fits room h (some t) f = entry-fits room h t (f t refl)

pub room_enough : (text : List ℕ) (room : ℕ) → longest_entry ≤ room → generated_into text room ≡ generated text
unfolding generated_into generated weigh pick ◌>>◌ ◌>>=◌
room_enough text room h =
    by_test (ltb Size.text_bytes (length text))
    (λ e. rw e refl)
    (λ e. rw e (judged-fits room h (one_line (lines text)) (text-name (lines text))))

-- ---- the bounds of what a text comes to

-- A refusal that is not 17.
other : (room number line : ℕ) → 1 ≤ number → number < No.report_long → line ≤ 1 → Bounded room (refused number line)
unfolding Bounded
other room number line h k l = (h, omega arith, l, λ e. absurd (omega arith))

entry-bounded : (room : ℕ) (t : TableLine) → name_form t.name ≡ true → Bounded room (entry_of t >>= text_within No.report_long room)
unfolding entry_of weigh pick ◌>>◌ ◌>>=◌ text_within Bounded
entry-bounded room t f =
    by_test (wrong_count t)
    (λ e. rw e (other room _ _ (omega arith) (omega arith) (omega arith)))
    (λ e. by_test (ltb 4 t.pins)
    (λ q. rw (e, q) (other room _ _ (omega arith) (omega arith) (omega arith)))
    (λ q.
    let few : t.pins ≤ 4 = ltb-false 4 t.pins q in
    let made = entry_bytes (cell_of t.name t.pins (map is_one t.bits)) in
    let short : length made ≤ longest_entry = entry-short t.name t.pins (map is_one t.bits) f few in
    by_test (ltb room (length made))
    (λ z. let less : room < length made = ltb-true room (length made) z in rw (e, q, z) (omega arith, omega arith, omega arith, λ x. omega arith))
    (λ z. rw (e, q, z) (omega arith))))

judged-bounded : (room : ℕ) (o : Option TableLine) → ((t : TableLine) → o ≡ some t → name_form t.name ≡ true) → Bounded room (judged o >>= text_within No.report_long room)
unfolding judged form ◌>>=◌
judged-bounded room none f = other room _ _ (omega arith) (omega arith) (omega arith)
judged-bounded room (some t) f = entry-bounded room t (f t refl)

pub bounded : (text : List ℕ) (room : ℕ) → Bounded room (generated_into text room)
unfolding generated_into generated weigh pick ◌>>◌ ◌>>=◌
bounded text room =
    by_test (ltb Size.text_bytes (length text))
    (λ e. rw e (other room _ _ (omega arith) (omega arith) (omega arith)))
    (λ e. rw e (judged-bounded room (one_line (lines text)) (text-name (lines text))))

bounded-long : (room : ℕ) (o : Read (List ℕ)) → Bounded room o → LongBelow room (length_read o)
unfolding Bounded length_read
bounded-long room (refused number line) b at e = let same : number ≡ No.report_long = cc in b.3 same
bounded-long room (read entry) b at e = refused-read (sym e)

-- A call that writes what a text comes to.
module _ (text before after : List ℕ) (said : Result ℕ Refusal) where
  pub writes-long : Writes (generated_into text (length before)) before after said → LongBelow (length before) (answer_read said)
  writes-long w =
      rw w.answers (bounded-long (length before) (generated_into text (length before)) (bounded text (length before)))
