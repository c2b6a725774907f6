-- What the generator prints of the built-in library's truth tables is its text.
use Rattle.common_laws.proofs.Base.{List, ◌↔◌, ◌≡◌, refl, sym, ap, ◌∙◌, ℕ, ◌<◌, arith, ltb, length, ltb-true, ltb-false}
use Rattle.reading.specs.Numbers as No
use Rattle.reading.specs.Refusal.{refused, read, ◌>>=◌}
use Rattle.reading.proofs.Laws.{by_test, refused-read}
use Rattle.reading.specs.Answer.{answer_read}
use Rattle.text.specs.Bytes.{text, bytes_open}
use Rattle.writer.specs.Put.{Put}
use Rattle.writer.specs.Buffer.{text_within, length_read, Writes, Closes, LineBelow}
use Rattle.std.specs.Prelude.{Result}
use Rattle.reading.specs.declared.Refusal.{Refusal}
use Rattle.writer.proofs.Buffer.{text-fits, text-long, text-line, put-closed}
use Rattle.truth_figures.specs.BuiltIn.{entries, tables, built_in}
use Rattle.truth_figures.specs.Figures.{cell-figures_hold}
use Rattle.truth_library.specs.Written.{built_in_within}

printed : entries tables ≡ read (text built_in)
printed = cell-figures_hold.1

pub within_text : (space : ℕ) → built_in_within space ≡ text_within No.report_long space (text built_in)
unfolding built_in_within ◌>>=◌
within_text space = rw printed refl

-- A refusal is at line 0.
pub within-line : (space : ℕ) → LineBelow (length_read (built_in_within space))
within-line space = rw (within_text space) (text-line No.report_long space (text built_in))

pub text-bytes : length_read (entries tables) ≡ read 2044
unfolding length_read bytes_open
text-bytes = rw printed refl

pub size : length (text built_in) ≡ 2044
unfolding bytes_open
size = refl

-- 17 stands exactly where the buffer is shorter.
pub long-exactly : (space : ℕ) → (length_read (built_in_within space) ≡ refused No.report_long 0) ↔ (space < 2044)
unfolding length_read
long-exactly space =
    rw (within_text space) (
      λ e. by_test (ltb space (length (text built_in)))
          (λ t. omega (arith, size, ltb-true space (length (text built_in)) t))
          (λ t.
          let fits = text-fits No.report_long space (text built_in) (ltb-false space (length (text built_in)) t) in
          refused-read (sym e ∙ ap length_read fits)),
      λ h. rw (text-long No.report_long space (text built_in) (omega (arith, size))) refl,
    )

-- The text put into the front, and the buffer closed.
pub promised : {end : ℕ} {before mid after : List ℕ} {said : Result ℕ Refusal} → Put 0 (text built_in) before mid end → Closes No.report_long end mid after said
    → Writes (built_in_within (length before)) before after said
    × ((length_read (entries tables) ≡ read 2044)
    × ((answer_read said ≡ refused No.report_long 0) ↔ (length before < 2044)))
promised {end} {before} {mid} {after} {said} p c =
    let w : Writes (built_in_within (length before)) before after said = rw (within_text (length before)) (put-closed No.report_long refl p c) in
    (w, (text-bytes, rw w.answers (long-exactly (length before))))
