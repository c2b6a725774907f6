-- What reading a text comes to: the thing read, or a refusal by its number and line. Document 01, "Where a text stops".
use Rattle.std.specs.Prelude.{Bool, List, [], ◌∷◌, ℕ}
use Rattle.std.proofs.Math.Option.{Option, none, some}
use Rattle.reading.specs.Choice.{pick, choice_open}

pub data Read (A : Type 0) : Type 0 where
  refused : (number line : ℕ) → Read A
  read : A → Read A

infixl 10 ◌>>=◌
infixl 10 ◌>>◌
-- One step of reading after another: the first refusal stands.
unfoldable pub ◌>>=◌ : {A B : Type 0} → Read A → (A → Read B) → Read B
refused number line >>= f = refused number line
read a >>= f = f a

unfoldable pub ◌>>◌ : {A B : Type 0} → Read A → Read B → Read B
refused number line >> r = refused number line
read a >> r = r

-- The conditions of one line, each a number with whether it holds, listed in the numbers' order: "the topmost bad line
-- counts, and within it the lowest number".
unfoldable pub weigh : ℕ → List (ℕ × Bool) → Read (Unit {0})
weigh line [] = read tt
weigh line (x ∷ xs) = pick x.1 (refused x.0 line) (weigh line xs)

-- What has no good form is refused by the number of bad form.
unfoldable pub form : {A : Type 0} → ℕ → ℕ → Option A → Read A
form number line none = refused number line
form number line (some a) = read a

-- Opens the page's definitions, where a figure computes with them.
unfoldable pub refusal_open : ℕ
unfolding choice_open ◌>>=◌ ◌>>◌ weigh form
refusal_open = 0
