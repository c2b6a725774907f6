-- What a refusal is told by: its number is one of those that may be, and its line is at most n. Readers show it of what they
-- read.
use Rattle.common_laws.proofs.Base.{Bool, true, false, not, ◌&&◌, List, [], ◌∷◌, Option, none, some, ◌≡◌, ℕ, ◌≤◌, leb, eqb, not-true}
use Rattle.reading.specs.Choice.{pick}
use Rattle.reading.specs.Numbers as No
use Rattle.reading.specs.Refusal.{Read, refused, read, ◌>>=◌, ◌>>◌, weigh, form}
use Rattle.reading.proofs.Laws.{and_left, and_right}

abbrev pub Within : {A : Type 0} → (ℕ → Bool) → ℕ → Read A → Type 0
Within may n (refused number line) = (may number ≡ true) × (line ≤ n)
Within may n (read a) = Unit {0}

-- No refusal has the number 0.
abbrev pub any_number : ℕ → Bool
any_number number = leb 1 number

-- A library and a netlist have neither a number of the entry nor the report's.
abbrev pub text_number : ℕ → Bool
text_number number = any_number number && (not (No.of_entry number) && not (eqb number No.report_long))

-- Whether the conditions of a line have such numbers. It computes, whatever the tests are.
abbrev pub numbered : (ℕ → Bool) → List (ℕ × Bool) → Bool
numbered may [] = true
numbered may (x ∷ xs) = may x.0 && numbered may xs

module _ (may : ℕ → Bool) (n : ℕ) where
  pub within_bind : {A B : Type 0} (r : Read A) (f : A → Read B) → Within may n r → ((a : A) → Within may n (f a)) → Within may n (r >>= f)
  unfolding ◌>>=◌
  within_bind (refused number line) f h k = h
  within_bind (read a) f h k = k a

  pub within-then : {A B : Type 0} (r : Read A) (s : Read B) → Within may n r → Within may n s → Within may n (r >> s)
  unfolding ◌>>◌
  within-then (refused number line) s h k = h
  within-then (read a) s h k = k

  pub within-form : {A : Type 0} (number line : ℕ) (o : Option A) → may number ≡ true → line ≤ n → Within may n (form number line o)
  unfolding form
  within-form number line none h k = (h, k)
  within-form number line (some a) h k = tt

  within_pick : (t : Bool) (a b : Read (Unit {0})) → Within may n a → Within may n b → Within may n (pick t a b)
  unfolding pick
  within_pick true a b h k = h
  within_pick false a b h k = k

  pub within-weigh : (line : ℕ) (xs : List (ℕ × Bool)) → line ≤ n → numbered may xs ≡ true → Within may n (weigh line xs)
  unfolding weigh
  within-weigh line [] k h = tt
  within-weigh line (x ∷ xs) k h =
      within_pick x.1 (refused x.0 line) (weigh line xs) (and_left (may x.0) (numbered may xs) h, k)
      (within-weigh line xs k (and_right (may x.0) (numbered may xs) h))

pub text-not-entry : (number : ℕ) → text_number number ≡ true → No.of_entry number ≡ false
text-not-entry number h =
    not-true (No.of_entry number)
    (and_left (not (No.of_entry number)) (not (eqb number No.report_long)) (and_right (any_number number) _ h))

pub within-any : {A : Type 0} (n : ℕ) (r : Read A) → Within text_number n r → Within any_number n r
within-any n (refused number line) h = (and_left (any_number number) _ h.0, h.1)
within-any n (read a) h = tt
