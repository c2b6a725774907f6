-- Numbers and names as they are written in fields. Document 01, "Cells" and "Netlist".
use Rattle.std.specs.Prelude.{Bool, true, not, ◌&&◌, ◌||◌, List, [], ◌∷◌, ℕ, ◌+◌, ◌*◌, ◌-◌, leb, ltb, eqb, length}
use Rattle.std.specs.Prelude as Code
use Rattle.std.proofs.Math.Option.{Option, none, some}
use Rattle.sizes.specs.Sizes as Size
use Rattle.reading.specs.Choice.{pick}
use Rattle.text.specs.Class.{between, class_open}

-- The digits of a base up to ten, from byte 48 on.
unfoldable pub digit_below : ℕ → ℕ → Bool
digit_below base b = leb 48 b && ltb b (48 + base)

unfoldable pub all_digits : ℕ → List ℕ → Bool
all_digits base [] = true
all_digits base (b ∷ f) = digit_below base b && all_digits base f

-- The value of digits, the first the highest, after the value of those before them.
unfoldable pub value : ℕ → ℕ → List ℕ → ℕ
value base acc [] = acc
value base acc (b ∷ f) = value base (acc * base + (b - 48)) f

-- "no leading zero (0 itself is well formed)". A zero is byte 48.
unfoldable pub no_leading_zero : List ℕ → Bool
no_leading_zero [] = true
no_leading_zero (b ∷ []) = true
no_leading_zero (b ∷ (c ∷ f)) = not (eqb b 48)

unfoldable pub well_formed : ℕ → ℕ → List ℕ → Bool
well_formed base most f = leb 1 (length f) && (leb (length f) most && (no_leading_zero f && all_digits base f))

-- A field read as a number of at most so many digits; none is bad form.
unfoldable pub numeral : ℕ → ℕ → List ℕ → Option ℕ
numeral base most f = pick (well_formed base most f) (some (value base 0 f)) none

-- "Decimal fields have 1 to 5 digits, no leading zero (0 itself is well formed)."
unfoldable pub decimal : List ℕ → Option ℕ
decimal f = numeral 10 Size.decimal_digits f

-- "1 to 8 bytes of A–Z, 0–9"
unfoldable pub name_byte : ℕ → Bool
name_byte b = between 65 90 b || between 48 57 b

unfoldable pub all_name : List ℕ → Bool
all_name [] = true
all_name (b ∷ f) = name_byte b && all_name f

-- "A cell has a name (1 to 8 bytes of A–Z, 0–9)"
unfoldable pub name_form : List ℕ → Bool
name_form f = leb 1 (length f) && (leb (length f) Size.name_bytes && all_name f)

-- What the answer of the two readers of numbers says: the value, or bad form.
unfoldable pub numeral_read : Code.Option ℕ → Option ℕ
numeral_read (Code.Some n) = some n
numeral_read Code.None = none

-- Opens the page's definitions, where a figure computes with them.
unfoldable pub numeral_open : ℕ
unfolding class_open digit_below all_digits value no_leading_zero well_formed numeral decimal name_byte all_name name_form numeral_read
numeral_open = 0
