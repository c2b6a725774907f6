-- The laws that readers share: of choices, of what holds of each element of a list, and of what reading comes to; with those
-- of tests, which are at home in crate `common_laws`.
use Rattle.common_laws.proofs.Base.{Bool, true, false, List, [], ◌∷◌, ◌++◌, List-as-Memᴰ, List-Memᴰ-head, List-Memᴰ-tail, Option, none, some, ◌≡◌, refl, sym, subst, ℕ, zero, suc, ◌≤◌}
use Rattle.common_laws.proofs.Base.{◌<◌, not-suc-le-zero, le_of_suc-le-suc, arith, length, get_or}
pub use Rattle.common_laws.proofs.Tests.{by_test, clash, and_left, and_right, or_left, or_right, or_cases}
use Rattle.reading.specs.Choice.{pick}
use Rattle.reading.specs.Each.{Each}
use Rattle.reading.specs.Refusal.{Read, refused, read, ◌>>=◌, ◌>>◌, weigh, form}
use Rattle.reading.specs.Answer.{done_read}

-- ---- choices

-- A test as a number.
pub one-most : (t : Bool) → pick t 1 0 ≤ 1
unfolding pick
one-most true = omega arith
one-most false = omega arith

-- ---- what holds of each

pub each_at : {A : Type 0} (P : A → Type 0) (xs : List A) (k : ℕ) (d : A) → k < length xs → Each P xs → P (get_or xs k d)
unfolding Each
each_at P [] k d h e = absurd (not-suc-le-zero h)
each_at P (x ∷ xs) zero d h e = e.0
each_at P (x ∷ xs) (suc k) d h e = each_at P xs k d (le_of_suc-le-suc h) e.1

pub each_member : {A : Type 0} (P : A → Type 0) {x : A} {xs : List A} → List-as-Memᴰ x xs → Each P xs → P x
unfolding Each
each_member P (List-Memᴰ-head e) h = subst P (sym e) h.0
each_member P (List-Memᴰ-tail m) h = each_member P m h.1

pub each_append : {A : Type 0} (P : A → Type 0) (xs ys : List A) → Each P xs → Each P ys → Each P (xs ++ ys)
unfolding Each
each_append P [] ys e f = f
each_append P (x ∷ xs) ys e f = (e.0, each_append P xs ys e.1 f)

pub each_right : {A : Type 0} (P : A → Type 0) (xs ys : List A) → Each P (xs ++ ys) → Each P ys
unfolding Each
each_right P [] ys e = e
each_right P (x ∷ xs) ys e = each_right P xs ys e.1

pub each_map : {A : Type 0} (P Q : A → Type 0) → ((x : A) → P x → Q x) → (xs : List A) → Each P xs → Each Q xs
unfolding Each
each_map P Q f [] e = tt
each_map P Q f (x ∷ xs) e = (f x e.0, each_map P Q f xs e.1)

-- ---- what reading comes to

pub refused-read : {A B : Type 0} {number line : ℕ} {a : A} → ◌≡◌ {A = Read A} (refused number line) (read a) → B
refused-read e = let z : ◌≡◌ {A = ℕ} 0 1 = cc in absurd (omega arith)

-- Where a step after another is read, so is the one before it.
pub bind_read : {A B C : Type 0} (m : Read A) (f : A → Read B) (b : B) → ((a : A) → m ≡ read a → f a ≡ read b → C) → (m >>= f) ≡ read b → C
unfolding ◌>>=◌
bind_read (refused number line) f b on e = refused-read e
bind_read (read a) f b on e = on a refl e

pub then-read : {A B C : Type 0} (m : Read A) (r : Read B) (b : B) → ((a : A) → m ≡ read a → r ≡ read b → C) → (m >> r) ≡ read b → C
unfolding ◌>>◌
then-read (refused number line) r b on e = refused-read e
then-read (read a) r b on e = on a refl e

-- Where two steps are refused, one of them is.
pub bind_refused : {A B C : Type 0} (m : Read A) (f : A → Read B) (number line : ℕ) → (m ≡ refused number line → C)
    → ((a : A) → m ≡ read a → f a ≡ refused number line → C) → (m >>= f) ≡ refused number line → C
unfolding ◌>>=◌
bind_refused (refused n l) f number line stops goes e = stops cc
bind_refused (read a) f number line stops goes e = goes a refl e

pub then-refused : {A B C : Type 0} (m : Read A) (r : Read B) (number line : ℕ) → (m ≡ refused number line → C)
    → ((a : A) → m ≡ read a → r ≡ refused number line → C) → (m >> r) ≡ refused number line → C
unfolding ◌>>◌
then-refused (refused n l) r number line stops goes e = stops cc
then-refused (read a) r number line stops goes e = goes a refl e

-- Two refusals that are the same.
pub same-refusal : {A : Type 0} (n k m l : ℕ) → ◌≡◌ {A = Read A} (refused n k) (refused m l) → (n ≡ m) × (k ≡ l)
same-refusal n k m l e = (cc, cc)

pub form-read : {A : Type 0} (number line : ℕ) (o : Option A) (a : A) → form number line o ≡ read a → o ≡ some a
unfolding form
form-read number line none a e = refused-read e
form-read number line (some b) a e = cc

pub weigh-one : (number line : ℕ) (x : Bool) (xs : List (ℕ × Bool)) (u : Unit {0}) → weigh line ((number, x) ∷ xs) ≡ read u → (x ≡ false) × (weigh line xs ≡ read u)
unfolding weigh pick
weigh-one number line true xs u e = refused-read e
weigh-one number line false xs u e = (refl, e)

-- What a reader's verdict says of the reading.
pub done_read_lem : {A C : Type 0} (m : Read A) → read tt ≡ done_read m → ((a : A) → m ≡ read a → C) → C
unfolding done_read
done_read_lem (refused number line) e on = refused-read (sym e)
done_read_lem (read a) e on = on a refl

pub done_refused : {A : Type 0} (m : Read A) (number line : ℕ) → refused number line ≡ done_read m → m ≡ refused number line
unfolding done_read
done_refused (refused i j) number line e = cc
done_refused (read a) number line e = refused-read e
