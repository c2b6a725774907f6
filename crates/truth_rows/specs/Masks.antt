-- How the code holds conditions and terms: a condition as the bits of a number, a term as a number in base 3, its digits the
-- pins' columns. `proofs/Primes.antt` ties them to the definitions of crate `truth_tables`, which are the ones to read.
use Rattle.std.specs.Prelude.{Bool, true, false, not, ◌&&◌, ◌||◌, List, [], ◌∷◌, map, ◌≡◌, ℕ, zero, suc, ◌+◌, ◌*◌, ◌/◌, ◌%◌, ◌^◌, ◌≤◌, eqb, length, get_or}
use Rattle.std.proofs.Math.Option.{Option, none, some}
use Rattle.std.specs.Int.Bits.{bit_and}
use Rattle.reading.specs.Choice.{pick}
use Rattle.truth_tables.specs.Entries.{term_columns}
use Rattle.truth_tables.specs.Tables.{Term, Condition, digit, settings, meets, all_of, keep}

-- ---- conditions

-- The value of the first setting is the lowest bit.
unfoldable pub mask_of : List Bool → ℕ
mask_of [] = 0
mask_of (b ∷ bs) = digit b + 2 * mask_of bs

-- The settings of n pins that are a condition's, and those that meet a term.
unfoldable pub wanted_mask : ℕ → Condition → ℕ
wanted_mask n C = mask_of (map C (settings n))

unfoldable pub cover_mask : ℕ → Term → ℕ
cover_mask n t = mask_of (map (meets t) (settings n))

-- BITS: as many as there are settings of at most four pins, each "0" or "1".
unfoldable pub is_bit : ℕ → Bool
is_bit b = eqb b 48 || eqb b 49

unfoldable pub is_one : ℕ → Bool
is_one b = eqb b 49

pub record Bits (n : ℕ) (bits : List ℕ) : Type 0 where
  pub few : n ≤ 4
  pub long : length bits ≡ 2 ^ n
  pub digits : all_of is_bit bits ≡ true

-- By the bytes of BITS: whether the output of the setting at a place is a value, "0" or "1"; and whether it changes when the pin
-- of a weight does, the place being that of the other pins.
unfoldable pub gives_at : List ℕ → (value j : ℕ) → Bool
gives_at bits value j = eqb (get_or bits j 0) value

unfoldable pub changes_at : List ℕ → (weight j : ℕ) → Bool
changes_at bits weight j =
    not (eqb (get_or bits (j / weight * (2 * weight) + j % weight) 0) (get_or bits (j / weight * (2 * weight) + j % weight + weight) 0))

-- What is asked of the setting at a place: with no weight the first of these, else the second.
unfoldable pub ask_at : List ℕ → (weight value j : ℕ) → Bool
ask_at bits weight value j = pick (eqb weight 0) (gives_at bits value j) (changes_at bits weight j)

unfoldable pub up_from : (j left : ℕ) → List ℕ
up_from j zero = []
up_from j (suc left) = j ∷ up_from (suc j) left

-- ---- terms

-- A digit: the columns of its pin.
unfoldable pub literal : ℕ → Option Bool
literal zero = none
literal (suc zero) = some true
literal (suc (suc d)) = some false

unfoldable pub term_of : (i row : ℕ) → Term
term_of zero row = []
term_of (suc i) row = literal (row / 3 ^ i % 3) ∷ term_of i row

-- The same with one pin dropped, the one that has so many behind it.
unfoldable pub term_but : (free i row : ℕ) → Term
term_but free zero row = []
term_but free (suc i) row = pick (eqb i free) none (literal (row / 3 ^ i % 3)) ∷ term_but free i row

-- The mask of a term of one pin more, by that of the others and the pin's digit; `wide` is above every mask of the others.
unfoldable pub widened : (mask wide d : ℕ) → ℕ
widened mask wide zero = mask + mask * wide
widened mask wide (suc zero) = mask * wide
widened mask wide (suc (suc d)) = mask

-- ---- prime implicants

unfoldable pub implied : (wanted cover : ℕ) → Bool
implied wanted cover = eqb (bit_and cover wanted) cover

-- A pin that is named, with this digit, and that can be dropped: it has i pins behind it.
unfoldable pub loose : (wanted n row d i : ℕ) → Bool
loose wanted n row d i = not (eqb d 0) && implied wanted (cover_mask n (term_but i n row))

-- None of the last i pins can be dropped.
unfoldable pub fixed : (wanted n row i : ℕ) → Bool
fixed wanted n row zero = true
fixed wanted n row (suc i) = not (loose wanted n row (row / 3 ^ i % 3) i) && fixed wanted n row i

unfoldable pub prime_row : (wanted n row : ℕ) → Bool
prime_row wanted n row = implied wanted (cover_mask n (term_but n n row)) && fixed wanted n row n

-- Descending.
unfoldable pub down_from : ℕ → List ℕ
down_from zero = []
down_from (suc m) = m ∷ down_from m

unfoldable pub prime_rows : (wanted n : ℕ) → List ℕ
prime_rows wanted n = keep (prime_row wanted n) (down_from (3 ^ n))

-- The columns of a term with two columns more, that are not named, above so many: `weight` is theirs.
unfoldable pub spread : (weight columns : ℕ) → ℕ
spread weight columns = columns / weight * (4 * weight) + columns % weight

-- The number that a term's row is written as: its columns, above and beside them what `base` has.
unfoldable pub number_of : (base weight n row : ℕ) → ℕ
number_of base weight n row = base + 2 * spread weight (term_columns (term_of n row))
