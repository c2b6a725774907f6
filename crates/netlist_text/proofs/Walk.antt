-- The walk over the lines of a text, from a cursor on.
use Rattle.common_laws.proofs.Base.{List, [], ◌∷◌, ◌++◌, Option, ◌≡◌, sym, ap, ◌∙◌, ℕ, ◌+◌, ◌-◌, ◌≤◌, ◌<◌, add-one, arith, length, drop, drop_at}
use Rattle.sizes.specs.Sizes as Size
use Rattle.table.specs.Blocks.{cleared}
use Rattle.text.specs.Lines.{part, fields, lines_from, next_after}
use Rattle.text.proofs.Laws.{linesFrom_start, linesFrom_line, linesFrom_end, linesFrom_unended, next_after-within, part-within}
use Rattle.reading.specs.Choice.{pick}
use Rattle.reading.specs.Numbers as No
use Rattle.reading.specs.Refusal.{Read, refused, read, ◌>>=◌, form}
use Rattle.reading.specs.Answer.{answer_read, done_read}
use Rattle.std.specs.Prelude.{Result}
use Rattle.reading.specs.declared.Refusal.{Refusal}
use Rattle.reading.proofs.Laws.{refused-read}
use Rattle.library_table.specs.Cells.{Cell}
use Rattle.netlist_table.specs.declared.Rules.{Rules}
use Rattle.netlist_table.specs.Netlist.{Statement, admitted, statement_of, line_form, line_forms, text_statements}
use Rattle.netlist_table.specs.Layout.{netlist_words, NetlistHolds}
use Rattle.netlist_table.specs.Admission.{extended, Decided, words_after}
use Rattle.netlist_table.specs.Sound.{Sound}
use Rattle.netlist_table.proofs.Admission.{admitted-more, admitted-refused, cleared-empty}
use Rattle.netlist_table.proofs.Places.{length-netlist_words}
use Rattle.netlist_table.proofs.Soundness.{sound_none, sound-next}
use Rattle.netlist_text.specs.Reader.{NoStatements, Fills}

-- ---- the table before the first line

module _ (before : List ℕ) (long : Size.netlist ≤ length before) where
  pub cleared-past : drop Size.netlist (cleared Size.netlist before) ≡ drop Size.netlist before
  cleared-past =
      rw (cleared-empty before long)
      (drop_at (netlist_words []) (drop Size.netlist before) Size.netlist (length-netlist_words []))

  pub cleared-none : NoStatements (cleared Size.netlist before)
  cleared-none = record { words = cleared-empty before long ∙ ap (λ (past : List ℕ). netlist_words [] ++ past) (sym cleared-past) }

-- ---- the walk

-- The cursor behind a line.
module _ (text : List ℕ) (at next : ℕ) (within : at ≤ length text) (is : next ≡ next_after text at (part 10 text at)) where
  -- A line behind which the text goes on, or ends, is ended by byte 10; else the text ends with it.
  pub line-ended : next ≤ length text → at + length (part 10 text at) < length text
  line-ended q = omega (arith, next_after-within text at (part 10 text at) within)

  pub line-unended : length text < next → at + length (part 10 text at) ≡ length text
  line-unended q = omega (arith, part-within 10 text at within, next_after-within text at (part 10 text at) within)

  pub line-less : at < length text → length text - next < length text - at
  line-less q = omega (arith, next_after-within text at (part 10 text at) within)

  pub line-number : (number : ℕ) → number ≤ at + 1 → number + 1 ≤ next + 1
  line-number number q = omega (arith, next_after-within text at (part 10 text at) within)

-- What is decided of a line is decided of that part of the text.
pub part-decided : (rules : Rules) {cells : List Cell} {ss : List Statement} {past after l m : List ℕ} {r : ℕ} → l ≡ m
    → Decided cells ss (statement_of rules cells (fields l)) past r after
    → Decided cells ss (statement_of rules cells (fields m)) past r after
part-decided rules e d = rw (← e) d

-- What is read so far: the statements, which were admitted and which the table holds, and the lines from the cursor on still
-- to be read.
pub record Reading (rules : Rules) (cells : List Cell) (text : List ℕ) (at number : ℕ) (table past : List ℕ) : Type 0 where
  pub statements : List Statement
  pub rest : text_statements rules cells text ≡ admitted number cells statements (line_forms rules cells (lines_from text at))
  pub sound : Sound cells statements
  pub held : table ≡ netlist_words statements ++ past

pub reading-start : (rules : Rules) (cells : List Cell) (text table : List ℕ) → NoStatements table
    → Reading rules cells text 0 1 table (drop Size.netlist table)
unfolding text_statements
reading-start rules cells text table none =
    record { statements = []; rest = rw (linesFrom_start text); sound = sound_none cells; held = none.words }

module _ {rules : Rules} {cells : List Cell} {text : List ℕ} {at number : ℕ} {table past : List ℕ}
    (so_far : Reading rules cells text at number table past) where
  -- The table holds the statements read so far.
  abbrev pub holding : NetlistHolds table so_far.statements
  holding = record { past = past; words = so_far.held }

  -- The line at the cursor, which byte 10 ends.
  module _ (ended : at + length (part 10 text at) < length text) where
    abbrev here : Option Statement
    here = statement_of rules cells (fields (part 10 text at))

    abbrev behind : List (Option Statement)
    behind = line_forms rules cells (lines_from text (next_after text at (part 10 text at)))

    line-here : line_forms rules cells (lines_from text at) ≡ here ∷ behind
    unfolding line_forms line_form
    line-here = rw (linesFrom_line text at ended)

    module _ {r : ℕ} {after : List ℕ} (decided : Decided cells so_far.statements here past r after) where
      pub reading-more : {next : ℕ} → next ≡ next_after text at (part 10 text at) → r ≡ 0
          → Reading rules cells text next (number + 1) after past
      unfolding words_after pick
      reading-more moved z =
          record {
            statements = extended so_far.statements here;
            rest =
                so_far.rest
                ∙ rw (moved, line-here, add-one number)
                (admitted-more number cells so_far.statements here behind (sym decided.answers ∙ z));
            sound = sound-next cells so_far.statements here so_far.sound (sym decided.answers ∙ z);
            held = decided.leaves ∙ rw z;
          }

      pub reading-refused : (r ≡ 0 → ⊥) → text_statements rules cells text ≡ refused r number
      reading-refused bad =
          so_far.rest
          ∙ ap (admitted number cells so_far.statements) line-here
          ∙ admitted-refused number cells so_far.statements here behind (λ z. bad (decided.answers ∙ z))
          ∙ rw (← decided.answers)

  pub reading-unended : at < length text → at + length (part 10 text at) ≡ length text
      → text_statements rules cells text ≡ refused No.netlist_form number
  unfolding line_forms line_form admitted form ◌>>=◌
  reading-unended h e = so_far.rest ∙ rw (linesFrom_unended text at h e)

  pub reading-end : length text ≤ at → text_statements rules cells text ≡ read so_far.statements
  unfolding line_forms admitted
  reading-end h = so_far.rest ∙ rw (linesFrom_end text at h)

-- ---- what the reader answers and leaves

read_same : {A : Type 0} {x y : A} → read x ≡ read y → x ≡ y
read_same e = cc

module _ (o : Read (List Statement)) (before : List ℕ) (answer : Result (Unit {0}) Refusal) (after : List ℕ) where
  pub fills-refused : {number line : ℕ} → o ≡ refused number line → answer_read answer ≡ refused number line → Fills o before answer after
  unfolding done_read
  fills-refused e said = record { answers = rw e said; filled = λ ss q. refused-read (sym e ∙ q) }

  pub fills-read : {ss : List Statement} → o ≡ read ss → answer_read answer ≡ read tt → after ≡ netlist_words ss ++ drop Size.netlist before
      → Fills o before answer after
  unfolding done_read
  fills-read e said words =
      record {
        answers = rw e said;
        filled = λ ss q. words ∙ ap (λ (l : List Statement). netlist_words l ++ drop Size.netlist before) (read_same (sym e ∙ q));
      }
