-- The laws of texts, fields and classes that other crates cite, and what this crate's own proofs share.
use Rattle.common_laws.proofs.Base.{Bool, true, false, List, [], ◌∷◌, ◌++◌, List-as-Memᴰ, List-Memᴰ-head, List-Memᴰ-tail, none, some, ◌≡◌, refl, sym, ap, ◌∙◌, ℕ, suc, ◌+◌}
use Rattle.common_laws.proofs.Base.{◌-◌, ◌≤◌, ◌<◌, arith, leb, eqb, length, take, drop, length-take, length-drop, drop_of_length-le, drop-drop, le-leb, lt-leb, eq-eqb, ne_eqb}
use Rattle.common_laws.proofs.Base.{leb-true, leb-false, eqb-true}
use lib.Dec.{leb-suc-suc}
use Rattle.reading.proofs.Laws.{by_test, and_left, and_right}
use Rattle.reading.specs.Choice.{pick}
use Rattle.text.specs.declared.Piece.{Piece}
use Rattle.text.specs.declared.Piece.TheVariants.{Line, Field}
use Rattle.text.specs.Class.{between, class_of, end_of, ends}
use Rattle.text.specs.Lines.{cut, split, fields, unended, ended, lines, stop, span, part, parts_from, next_after, fields_from, lines_from, same_bytes}

-- ---- classes

between-other : (low high b m : ℕ) → between low high b ≡ true → m < low → eqb b m ≡ false
unfolding between
between-other low high b m h below =
    let least : low ≤ b = leb-true low b (and_left (leb low b) (leb b high) h) in ne_eqb b m (λ e. omega arith)

-- A line ends with byte 10, a field with a comma, byte 44.
pub class_ends : (piece : Piece) (b : ℕ) → ends piece (class_of b) ≡ eqb b (end_of piece)
unfolding class_of pick ends end_of
class_ends Line b =
    by_test (between 48 57 b) (λ d. rw d (sym (between-other 48 57 b 10 d (omega arith))))
    (λ d. by_test (between 65 90 b) (λ u. rw (d, u) (sym (between-other 65 90 b 10 u (omega arith))))
    (λ u. rw (d, u) (by_test (eqb b 44) (λ c. rw c (sym (ne_eqb b 10 (λ e. omega (arith, eqb-true b 44 c))))) (λ c. rw c (by_test (eqb b 10) (λ e. rw e refl) (λ e. rw e refl))))))
class_ends Field b =
    by_test (between 48 57 b) (λ d. rw d (sym (between-other 48 57 b 44 d (omega arith))))
    (λ d. by_test (between 65 90 b) (λ u. rw (d, u) (sym (between-other 65 90 b 44 u (omega arith))))
    (λ u. rw (d, u) (by_test (eqb b 44) (λ c. rw c refl) (λ c. rw c (by_test (eqb b 10) (λ e. rw e refl) (λ e. rw e refl))))))

-- ---- spans and parts

pub span-length : (mark : ℕ) (s : List ℕ) → span mark s ≤ length s
unfolding span stop
span-length mark [] = omega arith
span-length mark (b ∷ s) = go (eqb b mark) (span-length mark s)
  where
    go : (t : Bool) → span mark s ≤ length s → stop t (span mark s) ≤ suc (length s)
    go true h = omega arith
    go false h = omega arith

pub length_part : (mark : ℕ) (s : List ℕ) (at : ℕ) → length (part mark s at) ≡ span mark (drop at s)
unfolding part
length_part mark s at = rw length-take (omega (arith, span-length mark (drop at s)))

split_one : (mark b : ℕ) (s : List ℕ) (t : Bool) → split mark s ≡ take (span mark s) s ∷ parts_from mark s (suc (span mark s)) → cut t b (split mark s) ≡ take (stop t (span mark s)) (b ∷ s) ∷ parts_from mark (b ∷ s) (suc (stop t (span mark s)))
unfolding cut stop parts_from pick
split_one mark b s true e = rw (le-leb 1 (suc (length s)) (omega arith))
split_one mark b s false e = rw (e, leb-suc-suc (suc (span mark s)) (length s))

split_step : (mark : ℕ) (s : List ℕ) → split mark s ≡ take (span mark s) s ∷ parts_from mark s (suc (span mark s))
unfolding split span parts_from pick
split_step mark [] = refl
split_step mark (b ∷ s) = split_one mark b s (eqb b mark) (split_step mark s)

parts_from-drop : (mark : ℕ) (s : List ℕ) (at k : ℕ) → at ≤ length s → parts_from mark (drop at s) k ≡ parts_from mark s (at + k)
unfolding parts_from
parts_from-drop mark s at k h = rw (drop-drop k at s, length-drop at s, same_test)
  where
    same_test : leb k (length s - at) ≡ leb (at + k) (length s)
    same_test =
        by_test (leb k (length s - at))
        (λ e. e ∙ sym (le-leb (at + k) (length s) (omega (arith, leb-true k (length s - at) e))))
        (λ e. e ∙ sym (lt-leb (at + k) (length s) (omega (arith, leb-false k (length s - at) e))))

-- ---- walking the parts from a cursor

-- From the start on are all the parts.
pub parts_from-start : (mark : ℕ) (s : List ℕ) → parts_from mark s 0 ≡ split mark s
unfolding parts_from pick
parts_from-start mark s = rw (le-leb 0 (length s) (omega arith))

-- Past the end there is none.
pub parts_from-end : (mark : ℕ) (s : List ℕ) (at : ℕ) → length s < at → parts_from mark s at ≡ []
unfolding parts_from pick
parts_from-end mark s at h = rw (lt-leb at (length s) h)

parts_from_split : (mark : ℕ) (s : List ℕ) (at : ℕ) → at ≤ length s → parts_from mark s at ≡ split mark (drop at s)
unfolding parts_from pick
parts_from_split mark s at h = rw (le-leb at (length s) h)

-- Up to the end there is one, and then those from behind its mark.
pub parts_from-step : (mark : ℕ) (s : List ℕ) (at : ℕ) → at ≤ length s → parts_from mark s at ≡ part mark s at ∷ parts_from mark s (at + length (part mark s at) + 1)
unfolding part
parts_from-step mark s at h =
    parts_from_split mark s at h
    ∙ split_step mark (drop at s)
    ∙ ap (λ (ps : List (List ℕ)). part mark s at ∷ ps) (parts_from-drop mark s at (suc (span mark (drop at s))) h ∙ ap (parts_from mark s) further)
  where
    further : at + suc (span mark (drop at s)) ≡ at + length (part mark s at) + 1
    further = omega (arith, length_part mark s at)

-- A part ends within the text, and where it ends below the text's end, the mark stands there.
pub part-within : (mark : ℕ) (s : List ℕ) (at : ℕ) → at ≤ length s → at + length (part mark s at) ≤ length s
part-within mark s at h = omega (arith, length_part mark s at, span-length mark (drop at s), length-drop at s)

-- The cursor that `after` answers, and that it moves on.
pub next_after-within : (s : List ℕ) (at : ℕ) (p : List ℕ) → at ≤ length s → next_after s at p ≡ at + length p + 1
unfolding next_after pick
next_after-within s at p h = rw (le-leb at (length s) h)

pub next_after-past : (s : List ℕ) (at : ℕ) (p : List ℕ) → length s < at → next_after s at p ≡ at
unfolding next_after pick
next_after-past s at p h = rw (lt-leb at (length s) h)

-- ---- fields of a line, from a cursor

pub fields_from-start : (line : List ℕ) → fields_from line 0 ≡ fields line
unfolding fields_from fields
fields_from-start line = parts_from-start 44 line

pub fields_from-step : (line : List ℕ) (at : ℕ) → at ≤ length line → fields_from line at ≡ part 44 line at ∷ fields_from line (next_after line at (part 44 line at))
unfolding fields_from
fields_from-step line at h = rw (next_after-within line at (part 44 line at) h) (parts_from-step 44 line at h)

pub fields_from-end : (line : List ℕ) (at : ℕ) → length line < at → fields_from line at ≡ []
unfolding fields_from
fields_from-end line at h = parts_from-end 44 line at h

-- ---- lines of a text, from a cursor

pub linesFrom_start : (text : List ℕ) → lines_from text 0 ≡ lines text
unfolding lines_from lines
linesFrom_start text = rw (parts_from-start 10 text)

-- At the end, or past it, there is no line.
pub linesFrom_end : (text : List ℕ) (at : ℕ) → length text ≤ at → lines_from text at ≡ []
unfolding lines_from ended unended split
linesFrom_end text at h =
    by_test (leb at (length text))
    (λ e. rw (parts_from_split 10 text at (leb-true at (length text) e), drop_of_length-le text h))
    (λ e. rw (parts_from-end 10 text at (leb-false at (length text) e)))

ended-line : (p : List ℕ) (ps : List (List ℕ)) (q : List ℕ) (qs : List (List ℕ)) → ps ≡ q ∷ qs → ended (p ∷ ps) ≡ some (fields p) ∷ ended ps
unfolding ended
ended-line p ps q qs e = rw e

-- A part that is ended by byte 10 is a line, by its fields, and the lines from behind it follow.
pub linesFrom_line : (text : List ℕ) (at : ℕ) → at + length (part 10 text at) < length text → lines_from text at ≡ some (fields (part 10 text at)) ∷ lines_from text (next_after text at (part 10 text at))
unfolding lines_from
linesFrom_line text at h =
    let within : at ≤ length text = omega arith in
    let next = at + length (part 10 text at) + 1 in
    let reach : at + length (part 10 text at) + 1 ≤ length text = omega arith in
    rw (next_after-within text at (part 10 text at) within, parts_from-step 10 text at within)
    (ended-line (part 10 text at) (parts_from 10 text next) (part 10 text next) (parts_from 10 text (next + length (part 10 text next) + 1)) (parts_from-step 10 text next reach))

unended-none : (p : List ℕ) → 0 < length p → unended p ≡ none ∷ []
unfolding unended
unended-none [] h = absurd (omega arith)
unended-none (b ∷ p) h = refl

-- A part that reaches the end of the text is a last line without byte 10.
pub linesFrom_unended : (text : List ℕ) (at : ℕ) → at < length text → at + length (part 10 text at) ≡ length text → lines_from text at ≡ none ∷ []
unfolding lines_from ended
linesFrom_unended text at h e =
    let within : at ≤ length text = omega arith in
    rw (parts_from-step 10 text at within, parts_from-end 10 text (at + length (part 10 text at) + 1) (omega arith))
    (unended-none (part 10 text at) (omega arith))

-- ---- lengths

length-ended : (t : Bool) (b : ℕ) (ps : List (List ℕ)) → length (ended (cut t b ps)) ≤ suc (length (ended ps))
unfolding cut ended unended
length-ended true b [] = omega arith
length-ended true b (p ∷ ps) = omega arith
length-ended false b [] = omega arith
length-ended false b (p ∷ []) = omega arith
length-ended false b (p ∷ (q ∷ ps)) = omega arith

-- A text has at most as many lines as bytes.
pub length-lines : (text : List ℕ) → length (lines text) ≤ length text
unfolding lines split ended unended
length-lines [] = omega arith
length-lines (b ∷ s) = omega (arith, length-ended (eqb b 10) b (split 10 s), length-lines s)

-- ---- for a reader: texts put together from their parts

pub split_join : (mark : ℕ) (p s : List ℕ) → (List-as-Memᴰ mark p → ⊥) → split mark (p ++ mark ∷ s) ≡ p ∷ split mark s
unfolding split cut
split_join mark [] s free = rw (eq-eqb mark mark refl)
split_join mark (b ∷ p) s free =
    rw (ne_eqb b mark (λ e. free (List-Memᴰ-head (sym e))), split_join mark p s (λ m. free (List-Memᴰ-tail m)))

-- A text with no mark is one part.
pub split_whole : (mark : ℕ) (p : List ℕ) → (List-as-Memᴰ mark p → ⊥) → split mark p ≡ p ∷ []
unfolding split cut
split_whole mark [] free = refl
split_whole mark (b ∷ p) free =
    rw (ne_eqb b mark (λ e. free (List-Memᴰ-head (sym e))), split_whole mark p (λ m. free (List-Memᴰ-tail m)))

pub fields_join : (f rest : List ℕ) → (List-as-Memᴰ 44 f → ⊥) → fields (f ++ 44 ∷ rest) ≡ f ∷ fields rest
unfolding fields
fields_join f rest free = split_join 44 f rest free

pub lines_join : (line rest : List ℕ) → (List-as-Memᴰ 10 line → ⊥) → lines (line ++ 10 ∷ rest) ≡ some (fields line) ∷ lines rest
unfolding lines
lines_join line rest free =
    rw (split_join 10 line rest free)
    (ended-line line (split 10 rest) (take (span 10 rest) rest) (parts_from 10 rest (suc (span 10 rest))) (split_step 10 rest))

-- ---- words

pub same_bytes_refl : (a : List ℕ) → same_bytes a a ≡ true
unfolding same_bytes
same_bytes_refl [] = refl
same_bytes_refl (b ∷ s) = rw (eq-eqb b b refl) (same_bytes_refl s)

pub same_bytes-true : (a b : List ℕ) → same_bytes a b ≡ true → a ≡ b
unfolding same_bytes
same_bytes-true [] [] h = refl
same_bytes-true [] (b ∷ t) h = cc
same_bytes-true (a ∷ s) [] h = cc
same_bytes-true (a ∷ s) (b ∷ t) h =
    let heads : a ≡ b = eqb-true a b (and_left (eqb a b) (same_bytes s t) h) in
    let tails : s ≡ t = same_bytes-true s t (and_right (eqb a b) (same_bytes s t) h) in
    cc

pub same_bytes-other : (a b : List ℕ) → (length a ≡ length b → ⊥) → same_bytes a b ≡ false
same_bytes-other a b other = by_test (same_bytes a b) (λ e. absurd (other (ap length (same_bytes-true a b e)))) (λ e. e)
