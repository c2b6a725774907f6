-- The laws of the one number, for every call alike: from what a call comes to and what its code answered to what the number
-- tells, and back from the number to the refusal.
use Rattle.common_laws.proofs.Base.{true, true≢false, ◌≡◌, refl, sym, ap, ◌∙◌, ℕ, zero, suc, ◌/◌, ◌%◌, ◌≤◌, ◌<◌, arith, leb-true, le-leb}
use Rattle.std.specs.Prelude.{Result, Ok, Err, MatchResult, IsOkAnd}
use Rattle.reading.specs.Answer.{answer_read}
use Rattle.reading.specs.Numbers as No
use Rattle.reading.specs.Refusal.{Read, refused, read, ◌>>=◌}
use Rattle.reading.specs.declared.Refusal.{Refusal}
use Rattle.reading.proofs.Bounds.{Within, any_number}
use Rattle.reading.proofs.Laws.{refused-read, same-refusal}
use Rattle.writer.specs.Buffer.{code_lines, refusal_code, code_of, LineBelow}
use Rattle.writer.proofs.Buffer.{decoded, told_line}
use Rattle.answer_codes.specs.Number.{last_line, told_by, Tells}

-- ---- what the code answers: a number or a refusal, by its cases

-- An answer whose value is mapped to a number.
pub mapped : {A : Type 0} (f : A → ℕ) (r : Result A Refusal) (m : Result ℕ Refusal)
    → MatchResult r (λ x. IsOkAnd m (λ y. y ≡ f x)) (λ e. m ≡ Err e) → answer_read m ≡ told_by f (answer_read r)
unfolding answer_read told_by ◌>>=◌
mapped f (Ok a) (Ok n) h = ap read h
mapped f (Ok a) (Err e) h = absurd h
mapped f (Err e) m h = rw h refl

module _ {A : Type 0} (f : A → ℕ) (o : Read A) where
  pub code_accepted : (a : A) → o ≡ read a → f a ≡ code_of (told_by f o)
  unfolding code_of told_by ◌>>=◌
  code_accepted a e = rw e refl

  module _ (r : Refusal) (e : o ≡ refused r.number r.line) where
    pub code_refused : (said : ℕ) → said ≡ refusal_code r.number r.line → said ≡ code_of (told_by f o)
    unfolding code_of told_by ◌>>=◌
    code_refused said is = rw e is

    pub code_line : LineBelow (told_by f o) → r.line < code_lines
    unfolding told_by ◌>>=◌
    code_line below = below r.number r.line (rw e refl)

-- ---- what the number tells

-- Every refusal has a number and a line that the one number tells.
pub within-told : {A : Type 0} (o : Read A) → ((number line : ℕ) → o ≡ refused number line → (1 ≤ number) × (line ≤ last_line)) → Within any_number last_line o
within-told (refused k l) h = let t = h k l refl in (le-leb 1 k t.0, t.1)
within-told (read a) h = tt

same_read : {A : Type 0} (a b : A) → read a ≡ read b → a ≡ b
same_read a b e = cc

pub tells : (o : Read ℕ) → Within any_number last_line o → ((n : ℕ) → o ≡ read n → n < code_lines) → (said : ℕ) → said ≡ code_of o → Tells o said
unfolding code_of
tells (refused k l) within small said is =
    let d = decoded k l (leb-true 1 k within.0) (omega (arith, within.1)) in
    rw is
    (record {
      is = refl;
      accepted = λ n. (λ e. refused-read e, λ h. absurd (omega (arith, h.0, d.above)));
      refusal = λ number line. (
        λ e. let s = same-refusal k l number line e in rw (← s.0, ← s.1) d,
        λ x. rw (sym d.number_is ∙ x.number_is, sym d.line_is ∙ x.line_is) refl,
      );
      lines = λ h. rw d.line_is within.1;
    })
tells (read m) within small said is =
    let b : m < code_lines = small m refl in
    rw is
    (record {
      is = refl;
      accepted = λ n. (λ e. (b, same_read m n e), λ h. ap read h.1);
      refusal = λ number line. (λ e. refused-read (sym e), λ x. absurd (omega (arith, x.above)));
      lines = λ h. absurd (omega arith);
    })

module _ {A : Type 0} (f : A → ℕ) where
  pub told-within : (o : Read A) → Within any_number last_line o → Within any_number last_line (told_by f o)
  unfolding told_by ◌>>=◌
  told-within (refused number line) h = h
  told-within (read a) h = tt

  told-small : (o : Read A) → ((a : A) → o ≡ read a → f a < code_lines) → (n : ℕ) → told_by f o ≡ read n → n < code_lines
  unfolding told_by ◌>>=◌
  told-small (refused number line) h n e = refused-read e
  told-small (read a) h n e = rw (← same_read (f a) n e) (h a refl)

  pub tells_by : (o : Read A) → Within any_number last_line o → ((a : A) → o ≡ read a → f a < code_lines) → (said : ℕ) → said ≡ code_of (told_by f o)
      → Tells (told_by f o) said
  tells_by o within small = tells (told_by f o) (told-within o within) (told-small o small)

  -- What was accepted, by its number; and a refusal.
  pub by_accepted : (o : Read A) (n : ℕ) → told_by f o ≡ read n → (a : A) × (o ≡ read a) × (n ≡ f a)
  unfolding told_by ◌>>=◌
  by_accepted (refused number line) n e = refused-read e
  by_accepted (read a) n e = (a, refl, same_read n (f a) (sym e))

  pub by_refused : (o : Read A) (number line : ℕ) → told_by f o ≡ refused number line → o ≡ refused number line
  unfolding told_by ◌>>=◌
  by_refused (refused k l) number line e = cc
  by_refused (read a) number line e = refused-read (sym e)

pub line-below : (o : Read ℕ) → Within any_number last_line o → LineBelow o
line-below = told_line last_line (omega arith)

-- ---- by the number alone

-- 0 is no number of the entry.
entry-some : (number : ℕ) → No.of_entry number ≡ true → 1 ≤ number
entry-some zero h = absurd (true≢false (sym h))
entry-some (suc number) h = omega arith

module _ {o : Read ℕ} {said : ℕ} (t : Tells o said) where
  pub told-read : said < code_lines → o ≡ read said
  told-read h = (t.accepted said).1 (h, refl)

  pub told-refused : code_lines ≤ said → o ≡ refused (said / code_lines) (said % code_lines)
  told-refused h = (t.refusal _ _).1 (record { above = h; number_is = refl; line_is = refl })

  pub told-entry : No.of_entry (said / code_lines) ≡ true → o ≡ refused (said / code_lines) (said % code_lines)
  told-entry h = told-refused (omega (arith, entry-some (said / code_lines) h))

  -- A refusal by a certain number.
  pub told-number : (number : ℕ) → 1 ≤ number → said / code_lines ≡ number → o ≡ refused number (said % code_lines)
  told-number number h e = rw (← e) (told-refused (omega arith))
