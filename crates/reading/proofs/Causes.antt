-- Each cause has a number: none is 0, which tells that nothing is refused.
use Rattle.std.specs.Prelude.{Result, Ok, Err, is_ok, MatchResult, IsErrAnd}
use Rattle.std.proofs.lemmas.Result.{err_from_is_err_and}
use Rattle.common_laws.proofs.Base.{false, ◌≡◌, refl, ap, ◌∙◌, ℕ, arith, eqb, ne_eqb}
use Rattle.reading.specs.declared.Cause.{Cause}
use Rattle.reading.specs.declared.Cause.TheVariants.{TableShort, TextLong, LibraryForm, NameUsed, PinsBad, GroupsBad, BitAbove, RowIdle, CellsMany, NetlistForm, LineBad, CellUnknown, PinsDiffer, DrivenBefore, MarkedBefore, ReportLong, NoFigure, PlanLong, Undeclared, NotInput, RangeBad, Unpaddable, TicketStale}
use Rattle.reading.specs.Cause.{cause_number, refusal_at, refusal_number}
use Rattle.reading.specs.declared.Refusal.{Refusal}

pub number-some : (cause : Cause) → cause_number cause ≡ 0 → ⊥
number-some TableShort e = omega arith
number-some TextLong e = omega arith
number-some LibraryForm e = omega arith
number-some NameUsed e = omega arith
number-some PinsBad e = omega arith
number-some GroupsBad e = omega arith
number-some BitAbove e = omega arith
number-some RowIdle e = omega arith
number-some CellsMany e = omega arith
number-some NetlistForm e = omega arith
number-some LineBad e = omega arith
number-some CellUnknown e = omega arith
number-some PinsDiffer e = omega arith
number-some DrivenBefore e = omega arith
number-some MarkedBefore e = omega arith
number-some ReportLong e = omega arith
number-some NoFigure e = omega arith
number-some PlanLong e = omega arith
number-some Undeclared e = omega arith
number-some NotInput e = omega arith
number-some RangeBad e = omega arith
number-some Unpaddable e = omega arith
number-some TicketStale e = omega arith

-- So a cause refuses, as a test of its number.
pub number-test : (cause : Cause) → eqb (cause_number cause) 0 ≡ false
number-test cause = ne_eqb (cause_number cause) 0 (number-some cause)

-- What is accepted has the number 0.
pub ok-number : {A : Type 0} (r : Result A Cause) → eqb (refusal_number r) 0 ≡ is_ok r
unfolding refusal_number
ok-number (Ok a) = refl
ok-number (Err cause) = number-test cause

-- A check's answer as the answer of a line.
unfoldable pub at_line : {A : Type 0} → Result A Cause → ℕ → Result A Refusal
at_line (Ok a) line = Ok a
at_line (Err cause) line = Err (refusal_at cause line)

-- So `map_err` makes it, with a closure that answers `cause.at(line)`.
pub mapped : {A : Type 0} (r : Result A Cause) (m : Result A Refusal) (line : ℕ) {P : Cause → Refusal → Type 0}
    → MatchResult r (λ a. m ≡ Ok a) (λ cause. IsErrAnd m (P cause))
    → ((cause : Cause) (refusal : Refusal) → P cause refusal → refusal ≡ refusal_at cause line) → m ≡ at_line r line
unfolding at_line
mapped (Ok a) m line e says = e
mapped (Err cause) m line e says = let p = err_from_is_err_and m e in p.1 ∙ ap Err (says cause p.0 p.2)

-- It tells the number of the check, at the line.
pub line_answers : {A : Type 0} (r : Result A Cause) (line : ℕ) {refusal : Refusal} → Err refusal ≡ at_line r line
    → (refusal_number r ≡ 0 → ⊥) × (refusal.number ≡ refusal_number r) × (refusal.line ≡ line)
unfolding at_line refusal_number
line_answers (Ok a) line e = absurd cc
line_answers (Err cause) line e = (number-some cause, ap refused_number e, ap refused_line e)
  where
    refused_number : {A : Type 0} → Result A Refusal → ℕ
    refused_number (Ok a) = 0
    refused_number (Err r) = r.number

    refused_line : {A : Type 0} → Result A Refusal → ℕ
    refused_line (Ok a) = 0
    refused_line (Err r) = r.line

pub line_accepts : {A : Type 0} (r : Result A Cause) (line : ℕ) {a : A} → Ok a ≡ at_line r line → refusal_number r ≡ 0
unfolding at_line refusal_number
line_accepts (Ok a) line e = refl
line_accepts (Err cause) line e = absurd cc
