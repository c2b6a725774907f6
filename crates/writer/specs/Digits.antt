-- Numbers as they are written, in a base up to ten.
use Rattle.std.specs.Prelude.{List, [], ◌∷◌, ◌++◌, ℕ, zero, suc, ◌+◌, ◌/◌, ◌%◌, ltb}
use Rattle.reading.specs.Choice.{pick, choice_open}

-- A number in a base, of at most so many digits more. (`digits-read` of proofs/Digits.antt: read back it is the number.)
unfoldable pub digits : (base more n : ℕ) → List ℕ
digits base zero n = (48 + n % base) ∷ []
digits base (suc more) n = pick (ltb n base) ((48 + n % base) ∷ []) (digits base more (n / base) ++ ((48 + n % base) ∷ []))

-- Opens the page's definitions, where a figure computes with them.
unfoldable pub digits_open : ℕ
unfolding choice_open digits
digits_open = 0
