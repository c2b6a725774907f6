-- How far a number's digits stand in a buffer that is filled from the last digit to the first.
use Rattle.common_laws.proofs.Base.{List, ◌++◌, append_assoc, ◌≡◌, refl, sym, ap, ◌∙◌, ℕ, ◌+◌, ◌-◌, ◌/◌, ◌%◌, ◌^◌, ◌≤◌, ◌<◌, arith, length, length-append}
use Rattle.common_laws.proofs.Base.{sets}
use Rattle.writer.specs.Decimal.{decimal_bytes, two_digits}
use Rattle.writer.proofs.Decimal.{decimal_hundreds}
use Rattle.writer.proofs.Steps.{sets-before}

-- What is not stored yet are the digits of `rest`, which end at `behind`; from there on the others stand.
pub record Passed (n at : ℕ) (before : List ℕ) (rest behind : ℕ) (after : List ℕ) : Type 0 where
  pub tail : List ℕ
  pub digits : decimal_bytes n ≡ decimal_bytes rest ++ tail
  pub ends : behind ≡ at + length (decimal_bytes rest)
  pub stored : after ≡ sets before behind tail

pub two-more : (rest : ℕ) → 100 ≤ rest → rest < 10 ^ 20 → length (decimal_bytes rest) ≡ length (decimal_bytes (rest / 100)) + 2
two-more rest h q = rw (decimal_hundreds rest h q, length-append (decimal_bytes (rest / 100)) (two_digits (rest % 100))) refl

module _ (n at : ℕ) (before : List ℕ) where
  module _ (rest behind : ℕ) (after last : List ℕ) (p : Passed n at before rest behind after) where
    pub passed-more : 100 ≤ rest → rest < 10 ^ 20 → last ≡ sets after (behind - 2) (two_digits (rest % 100))
        → Passed n at before (rest / 100) (behind - 2) last
    passed-more h q e =
        let two = two_digits (rest % 100) in
        let tail = p.tail in
        record {
          tail = two ++ tail;
          digits = p.digits ∙ rw (decimal_hundreds rest h q) (append_assoc (decimal_bytes (rest / 100)) two tail);
          ends = omega (arith, two-more rest h q, p.ends);
          stored =
              e ∙ rw p.stored (sets-before two tail before (behind - 2) behind (omega (arith, two-more rest h q, p.ends)));
        }

    pub passed-all : last ≡ sets after at (decimal_bytes rest) → last ≡ sets before at (decimal_bytes n)
    passed-all e =
        e ∙ rw p.stored (sets-before (decimal_bytes rest) p.tail before at behind p.ends)
        ∙ ap (λ (f : List ℕ). sets before at f) (sym p.digits)
