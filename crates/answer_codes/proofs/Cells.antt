-- The numbers that the generator's and the built-in library's calls for C answer.
use Rattle.common_laws.proofs.Base.{List, ◌≡◌, sym, ap, ◌∙◌, ℕ, ◌≤◌, ◌<◌, arith, le-leb, ltb-true, ltb-false, ltb, length}
use Rattle.reading.specs.Numbers as No
use Rattle.reading.specs.Refusal.{Read, refused, read}
use Rattle.reading.proofs.Bounds.{Within, any_number}
use Rattle.reading.proofs.Laws.{by_test, refused-read}
use Rattle.reading.specs.Answer.{answer_read}
use Rattle.text.specs.Bytes.{text}
use Rattle.std.specs.Prelude.{Result, Ok, Err}
use Rattle.reading.specs.declared.Refusal.{Refusal}
use Rattle.writer.specs.Buffer.{text_within, code_lines, code_of, length_read, LineBelow, Writes}
use Rattle.writer.proofs.Buffer.{text-fits, text-long}
use Rattle.truth_entry.specs.Generated.{generated_into}
use Rattle.truth_entry.specs.Bounded.{Bounded, LongBelow}
use Rattle.truth_entry.proofs.Bounded.{bounded}
use Rattle.truth_figures.specs.BuiltIn.{built_in}
use Rattle.truth_library.specs.Written.{built_in_within}
use Rattle.truth_library.proofs.BuiltIn.{within_text, within-line, size}
use Rattle.answer_codes.specs.Number.{last_line, Tells}
use Rattle.answer_codes.specs.BuiltIn.{BuiltInCoded}
use Rattle.answer_codes.specs.Cell.{CellCoded}
use Rattle.answer_codes.proofs.Number.{tells, line-below, told-number}

-- ---- the generator

bounded-within : (room : ℕ) (o : Read (List ℕ)) → Bounded room o → Within any_number last_line (length_read o)
unfolding Bounded length_read
bounded-within room (refused number line) b = (le-leb 1 number b.0, omega (arith, b.2))
bounded-within room (read entry) b = tt

bounded-small : (room : ℕ) (o : Read (List ℕ)) → Bounded room o → (n : ℕ) → length_read o ≡ read n → n < code_lines
unfolding Bounded length_read
bounded-small room (refused k l) b n e = refused-read e
bounded-small room (read text) b n e = let same : length text ≡ n = cc in omega (arith, b)

module _ (line before after : List ℕ) (w : Result ℕ Refusal) (c : Writes (generated_into line (length before)) before after w) where
  abbrev came : Read (List ℕ)
  came = generated_into line (length before)

  within : Within any_number last_line (answer_read w)
  within = rw c.answers (bounded-within (length before) came (bounded line (length before)))

  pub cell-line : LineBelow (answer_read w)
  cell-line = line-below (answer_read w) within

  pub cell-coded : LongBelow (length before) (answer_read w) → (said : ℕ) → said ≡ code_of (answer_read w) → CellCoded line before after said
  cell-coded long said is =
      let small = bounded-small (length before) came (bounded line (length before)) in
      let t = tells (answer_read w) within (λ n e. small n (sym c.answers ∙ e)) said is in
      record {
        answers = rw (← c.answers) t;
        leaves = c.leaves;
        report_long = λ h. long _ (told-number t No.report_long (omega arith) h);
      }

-- ---- the built-in library

-- The number of a text that is written or too long.
module _ (number space : ℕ) (text : List ℕ) (some : 1 ≤ number) (short : length text < code_lines) where
  text-within : Within any_number last_line (length_read (text_within number space text))
  unfolding length_read
  text-within =
      by_test (ltb space (length text))
      (λ t. rw (text-long number space text (ltb-true space (length text) t)) (le-leb 1 number some, omega arith))
      (λ t. rw (text-fits number space text (ltb-false space (length text) t)) tt)

  text-small : (n : ℕ) → length_read (text_within number space text) ≡ read n → n < code_lines
  unfolding length_read
  text-small n e =
      by_test (ltb space (length text))
      (λ t. refused-read (rw (text-long number space text (ltb-true space (length text) t)) at e))
      (λ t.
      let q = rw (text-fits number space text (ltb-false space (length text) t)) at e in
      let same : length text ≡ n = cc in
      omega arith)

  text-tells : (said : ℕ) → said ≡ code_of (length_read (text_within number space text)) → Tells (length_read (text_within number space text)) said
  text-tells = tells _ text-within text-small

module _ (before after : List ℕ) (w : Result ℕ Refusal) (c : Writes (built_in_within (length before)) before after w) where
  pub built-in-line : LineBelow (answer_read w)
  built-in-line = rw c.answers (within-line _)

  pub built-in-coded : (said : ℕ) → said ≡ code_of (answer_read w) → BuiltInCoded before after said
  built-in-coded said is =
      let told = text-tells No.report_long (length before) (text built_in) (omega arith) (omega (arith, size)) said in
      record {
        answers = rw (within_text (length before)) (told (is ∙ ap code_of c.answers ∙ ap (λ o. code_of (length_read o)) (within_text (length before))));
        leaves = c.leaves;
      }
