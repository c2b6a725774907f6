-- The walk over the lines of a library text: what each line and the text's end make of the reading so far.
use Rattle.common_laws.proofs.Base.{List, [], ◌∷◌, ◌++◌, ◌≡◌, refl, sym, ap, subst, ◌∙◌, ℕ, zero, suc, ◌+◌, ◌*◌, ◌≤◌, ◌<◌, min, le_of_eq, add-one, arith, length, drop, replicate}
use Rattle.common_laws.proofs.Base.{length-replicate, drop_at}
use Rattle.std.specs.Prelude.{Some, None, Result, Ok, Err}
use Rattle.sizes.specs.Sizes as Size
use Rattle.reading.specs.Cause.{refusal_at}
use Rattle.reading.proofs.Causes.{at_line}
use Rattle.reading.specs.declared.Refusal.{Refusal}
use Rattle.reading.specs.declared.Cause.{Cause}
use Rattle.table.specs.Blocks.{fitted, blocks, cleared}
use Rattle.table.proofs.Places.{cleared-all}
use Rattle.reading.specs.Numbers as No
use Rattle.reading.specs.Refusal.{Read, refused, read, ◌>>=◌, form}
use Rattle.text.specs.Lines.{fields, part, next_after, lines_from}
use Rattle.text.proofs.Laws.{linesFrom_start, linesFrom_end, linesFrom_line, linesFrom_unended}
use Rattle.library_table.specs.Cells.{Cell}
use Rattle.library_table.specs.Library.{Place, outside, inside, Reading, library_line, library_end, library_from, library}
use Rattle.library_table.specs.Layout.{library_words}
use Rattle.library_text.specs.Passes.{counted_words}
use Rattle.library_text.specs.Walk.{NoCells, place_cells, reading_words, place_entry, Shows, Onward, Leaves}
use Rattle.library_text.specs.declared.lines.Entry.{Entry}
use Rattle.library_text.specs.declared.lines.State.{State}
use Rattle.library_text.proofs.Entries.{outside-at}
use Rattle.library_table.proofs.Laws.{start-sound}
use Rattle.library_table.proofs.Places.{length-library_words}

-- There is a reading that the reader's numbers and the table show, and from which the rest of the text decides.
pub record Walked (text past : List ℕ) (at line : ℕ) (s : State) (table : List ℕ) : Type 0 where
  pub reading : Reading
  pub shows : Shows reading s table past
  pub same : library text ≡ library_from line reading (lines_from text at)

pub walk_start : (text past table : List ℕ) → table ≡ library_words [] ++ past → Walked text past 0 1 (record { cells = 0; entry = None }) table
unfolding library reading_words place_cells counted_words library_words place_entry
walk_start text past table held =
    record {
      reading = record { cells = []; place = outside };
      shows = record { cells = refl; entry = refl; words = held; sound = start-sound };
      same = ap (library_from 1 (record { cells = []; place = outside })) (sym (linesFrom_start text));
    }

inside-end : (line : ℕ) (cells : List Cell) (place : Place) (e : Entry) → place_entry place ≡ Some e → library_end line cells place ≡ refused No.library_form line
unfolding library_end place_entry
inside-end line cells outside e h = absurd (cc)
inside-end line cells (inside wanted c) e h = refl

module _ (text past : List ℕ) (at line : ℕ) (s : State) (table : List ℕ) (walked : Walked text past at line s table) where
  -- A last line without byte 10.
  pub walk-unended : at < length text → at + length (part 10 text at) ≡ length text → library text ≡ refused No.library_form line
  unfolding library_from form ◌>>=◌
  walk-unended h e = walked.same ∙ rw (linesFrom_unended text at h e)

  abbrev this : Read Reading
  this = library_line line walked.reading.cells walked.reading.place (fields (part 10 text at))

  line_step : at + length (part 10 text at) < length text → library text ≡ (this >>= (λ (next : Reading). library_from (suc line) next (lines_from text (next_after text at (part 10 text at)))))
  unfolding library_from form ◌>>=◌
  line_step h = walked.same ∙ rw (linesFrom_line text at h)

  module _ (h : at + length (part 10 text at) < length text) (after : List ℕ) where
    pub walk_refused : (r : Result State Cause) (x : Refusal) → Leaves line this r after past → Err x ≡ at_line r line → library text ≡ refused x.number x.line
    unfolding Leaves at_line ◌>>=◌
    walk_refused (Ok t) x left e = absurd (cc)
    walk_refused (Err cause) x left e = let same : x ≡ refusal_at cause line = cc in line_step h ∙ rw (left, same)

    on-left : (r : Result State Cause) (t : State) → Leaves line this r after past → Ok t ≡ at_line r line → Onward this t after past
    unfolding Leaves at_line
    on-left (Ok u) t left e = let same : t ≡ u = cc in rw same left
    on-left (Err cause) t left e = absurd (cc)

    pub walk-on : (r : Result State Cause) (t : State) → Leaves line this r after past → Ok t ≡ at_line r line → Walked text past (next_after text at (part 10 text at)) (line + 1) t after
    unfolding ◌>>=◌
    walk-on r t left e =
        let on = on-left r t left e in
        let rest = lines_from text (next_after text at (part 10 text at)) in
        record {
          reading = on.reading;
          shows = on.shows;
          same = line_step h ∙ ap (λ (m : Read Reading). m >>= (λ (next : Reading). library_from (suc line) next rest)) on.same ∙ ap (λ (n : ℕ). library_from n on.reading rest) (sym (add-one line));
        }

  at-end : length text ≤ at → library text ≡ library_end line walked.reading.cells walked.reading.place
  unfolding library_from
  at-end h = walked.same ∙ rw (linesFrom_end text at h)

  pub walk_broken : length text ≤ at → (e : Entry) → s.entry ≡ Some e → library text ≡ refused No.library_form line
  walk_broken h e i = at-end h ∙ inside-end line walked.reading.cells walked.reading.place e (sym walked.shows.entry ∙ i)

  pub walk_done : length text ≤ at → s.entry ≡ None → (library text ≡ read walked.reading.cells) × (table ≡ library_words walked.reading.cells ++ past)
  unfolding library_end reading_words place_cells counted_words library_words
  walk_done h e =
      let out : walked.reading.place ≡ outside = outside-at walked.reading.place (sym walked.shows.entry ∙ e) in
      (at-end h ∙ rw out, walked.shows.words ∙ rw out)

-- ---- the table before the first line, and behind the last

filled : (m : ℕ) → replicate {A = ℕ} m 0 ≡ fitted 0 m []
unfolding fitted
filled zero = refl
filled (suc m) = ap (λ (l : List ℕ). 0 ∷ l) (filled m)

cleared-empty : (xs : List ℕ) → Size.library ≤ length xs → cleared Size.library xs ≡ library_words [] ++ drop Size.library xs
unfolding library_words blocks cleared
cleared-empty xs h = let all : min Size.library (length xs) ≡ Size.library = omega arith in rw (all, ← filled (Size.cells * Size.cell_words)) refl

module _ (xs : List ℕ) (long : Size.library ≤ length xs) where
  pub cleared-past : drop Size.library (cleared Size.library xs) ≡ drop Size.library xs
  cleared-past =
      ap (drop Size.library) (cleared-empty xs long) ∙ drop_at (library_words []) (drop Size.library xs) Size.library (length-library_words [])

  pub cleared-none : NoCells (cleared Size.library xs)
  cleared-none = cleared-empty xs long ∙ ap (λ (past : List ℕ). library_words [] ++ past) (sym cleared-past)

pub zeros-none : (xs : List ℕ) → xs ≡ replicate Size.library 0 → NoCells xs
zeros-none xs zeros =
    let size : length xs ≡ Size.library = ap length zeros ∙ length-replicate {A = ℕ} Size.library 0 in
    let same : cleared Size.library xs ≡ xs = subst (λ (n : ℕ). cleared n xs ≡ replicate n 0) size (cleared-all xs) ∙ sym zeros in
    subst NoCells same (cleared-none xs (le_of_eq (sym size)))
