-- The entry by its two tests, then `fill`.
use Rattle.common_laws.proofs.Base.{refl}
use Rattle.reading.specs.Answer.{answer_read, done_read}
use Rattle.reading.specs.Refusal.{◌>>◌}
use Rattle.library_text.specs.Entry.{read_library, left_behind, library_left}
use Rattle.library_text.proofs.Laws.{entry-short, entry-long, entry-passed}
use Rattle.library_text.proofs.read_library.Goals as goal

pub returns-then-table-lt-LIBRARY : goal.returns-then-table-lt-LIBRARY
unfolding answer_read done_read read_library library_left left_behind ◌>>◌
returns-then-table-lt-LIBRARY c = rw (entry-short _ _ c.if-table-lt-LIBRARY.true, c.at.ensures) (record { answered = refl; leaves = refl })

pub returns-then-text-gt-TEXT_BYTES : goal.returns-then-text-gt-TEXT_BYTES
unfolding answer_read done_read read_library library_left left_behind ◌>>◌
returns-then-text-gt-TEXT_BYTES c =
    rw (entry-long _ _ c.if-table-lt-LIBRARY.false c.if-text-gt-TEXT_BYTES.true, c.at-then-text-gt-TEXT_BYTES.ensures) (record { answered = refl; leaves = refl })

pub returns : goal.returns
unfolding read_library library_left left_behind ◌>>◌
returns c = rw (entry-passed _ _ c.if-table-lt-LIBRARY.false c.if-text-gt-TEXT_BYTES.false) c.fill.ensures
