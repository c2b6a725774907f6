-- The entry of the reader, by the lengths of the text and the table; and what is left of the table by what is answered.
use Rattle.common_laws.proofs.Base.{List, ◌++◌, ◌≡◌, refl, sym, ◌∙◌, ℕ, ◌≤◌, ◌<◌, lt-ltb, le-ltb, length, replicate, drop}
use Rattle.std.specs.Prelude.{Result, Ok, Err, MatchResult}
use Rattle.sizes.specs.Sizes as Size
use Rattle.reading.specs.Answer.{answer_read, done_read}
use Rattle.reading.specs.Choice.{pick}
use Rattle.reading.specs.Numbers as No
use Rattle.reading.specs.Refusal.{Read, refused, read, weigh}
use Rattle.reading.specs.declared.Refusal.{Refusal}
use Rattle.reading.proofs.Laws.{refused-read}
use Rattle.library_table.specs.Cells.{Cell}
use Rattle.library_table.specs.Layout.{library_words, library_after}
use Rattle.library_text.specs.Entry.{library_entry}

module _ (text table : ℕ) where
  pub entry-short : table < Size.library → library_entry text table ≡ refused No.table_short 0
  unfolding library_entry weigh pick
  entry-short h = rw (lt-ltb table Size.library h)

  pub entry-long : Size.library ≤ table → Size.text_bytes < text → library_entry text table ≡ refused No.text_long 0
  unfolding library_entry weigh pick
  entry-long h q = rw (le-ltb table Size.library h, lt-ltb Size.text_bytes text q)

  -- A table of the published size and a text that is not too long pass the entry.
  pub entry-passed : Size.library ≤ table → text ≤ Size.text_bytes → library_entry text table ≡ read tt
  unfolding library_entry weigh pick
  entry-passed h q = rw (le-ltb table Size.library h, le-ltb Size.text_bytes text q)

module _ (before table : List ℕ) where
  pub left_matched : (r : Result (Unit {0}) Refusal) (o : Read (List Cell)) (filled : List ℕ) → answer_read r ≡ done_read o
      → MatchResult r (λ _. table ≡ filled) (λ _. table ≡ replicate (length before) 0)
      → ((cells : List Cell) → o ≡ read cells → filled ≡ library_words cells ++ drop Size.library before) → table ≡ library_after o before
  unfolding answer_read done_read library_after
  left_matched (Ok a) (refused number line) filled e m held = refused-read (sym e)
  left_matched (Ok a) (read cells) filled e m held = m ∙ held cells refl
  left_matched (Err x) (refused number line) filled e m held = m
  left_matched (Err x) (read cells) filled e m held = refused-read e
