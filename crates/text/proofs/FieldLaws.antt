-- The laws of names and numbers that other crates cite, and what this crate's own proofs share.
use Rattle.common_laws.proofs.Base.{Bool, true, false, ◌&&◌, ◌||◌, List, [], ◌∷◌, List-as-Memᴰ, List-Memᴰ-head, List-Memᴰ-tail, List-Memᴰ-not-nil, none, some, ◌≡◌, refl, ℕ, suc, ◌+◌}
use Rattle.common_laws.proofs.Base.{◌*◌, ◌-◌, ◌^◌, ◌≤◌, ◌<◌, pow-suc, mul-le-mul_right, arith, leb, ltb, eqb, length, le-leb, leb-true, ltb-true}
use Rattle.sizes.specs.Sizes as Size
use Rattle.reading.specs.Choice.{pick}
use Rattle.reading.proofs.Laws.{by_test, and_left, and_right}
use Rattle.text.specs.declared.Class.TheVariants.{Digit, Letter, Comma, LineEnd, Other}
use Rattle.text.specs.Class.{between, class_of, is_digit, is_letter_or_digit}
use Rattle.text.specs.Numeral.{digit_below, all_digits, value, no_leading_zero, well_formed, numeral, name_byte, all_name, name_form}

-- ---- classes

pub class_digit : (b : ℕ) → is_digit (class_of b) ≡ between 48 57 b
unfolding class_of pick is_digit
class_digit b = go (between 48 57 b) (between 65 90 b) (eqb b 44) (eqb b 10)
  where
    go : (d u c e : Bool) → is_digit (pick d Digit (pick u Letter (pick c Comma (pick e LineEnd Other)))) ≡ d
    go true u c e = refl
    go false true c e = refl
    go false false true e = refl
    go false false false true = refl
    go false false false false = refl

pub class_name : (b : ℕ) → name_byte b ≡ is_letter_or_digit (class_of b)
unfolding class_of pick is_letter_or_digit name_byte
class_name b = go (between 48 57 b) (between 65 90 b) (eqb b 44) (eqb b 10)
  where
    go : (d u c e : Bool) → (u || d) ≡ is_letter_or_digit (pick d Digit (pick u Letter (pick c Comma (pick e LineEnd Other))))
    go true true c e = refl
    go true false c e = refl
    go false true c e = refl
    go false false true e = refl
    go false false false true = refl
    go false false false false = refl

-- A digit of a base up to ten is a byte of class `Digit` below the base's end.
pub class_digit_below : (base b : ℕ) → base ≤ 10 → digit_below base b ≡ (is_digit (class_of b) && ltb b (48 + base))
unfolding digit_below between
class_digit_below base b h = rw (class_digit b) (by_test (ltb b (48 + base)) small large)
  where
    small : ltb b (48 + base) ≡ true → (leb 48 b && ltb b (48 + base)) ≡ ((leb 48 b && leb b 57) && ltb b (48 + base))
    small e = let p : b ≤ 57 = omega (arith, ltb-true b (48 + base) e) in rw (e, le-leb b 57 p) (go (leb 48 b))
      where
        go : (t : Bool) → (t && true) ≡ ((t && true) && true)
        go true = refl
        go false = refl

    large : ltb b (48 + base) ≡ false → (leb 48 b && ltb b (48 + base)) ≡ ((leb 48 b && leb b 57) && ltb b (48 + base))
    large e = rw e (go (leb 48 b) (leb b 57))
      where
        go : (s t : Bool) → (s && false) ≡ ((s && t) && false)
        go true true = refl
        go true false = refl
        go false t = refl

-- ---- numbers

pub digit_low : (base b : ℕ) → digit_below base b ≡ true → 48 ≤ b
unfolding digit_below
digit_low base b h = leb-true 48 b (and_left (leb 48 b) (ltb b (48 + base)) h)

pub digit-high : (base b : ℕ) → digit_below base b ≡ true → b < 48 + base
unfolding digit_below
digit-high base b h = ltb-true b (48 + base) (and_right (leb 48 b) (ltb b (48 + base)) h)

-- One digit more keeps a value below the base's next power.
pub digit-step : (base acc k b : ℕ) → acc < base ^ k → digit_below base b ≡ true → acc * base + (b - 48) < base ^ suc k
digit-step base acc k b h d =
    omega (arith, pow-suc base k, mul-le-mul_right base h, digit_low base b d, digit-high base b d)

module _ (base most : ℕ) (f : List ℕ) where
  pub well_formed-digits : well_formed base most f ≡ true → all_digits base f ≡ true
  unfolding well_formed
  well_formed-digits h =
      and_right (no_leading_zero f) (all_digits base f)
      (and_right (leb (length f) most) (no_leading_zero f && all_digits base f)
      (and_right (leb 1 (length f)) (leb (length f) most && (no_leading_zero f && all_digits base f)) h))

  pub numeral-good : well_formed base most f ≡ true → numeral base most f ≡ some (value base 0 f)
  unfolding numeral pick
  numeral-good h = rw h

  pub numeral-bad : well_formed base most f ≡ false → numeral base most f ≡ none
  unfolding numeral pick
  numeral-bad h = rw h

-- No byte of digits is below "0".
pub digits-free : (base mark : ℕ) (f : List ℕ) → mark < 48 → all_digits base f ≡ true → List-as-Memᴰ mark f → ⊥
unfolding all_digits
digits-free base mark [] h d m = List-Memᴰ-not-nil m
digits-free base mark (b ∷ f) h d (List-Memᴰ-head e) = omega (arith, e, digit_low base b (and_left (digit_below base b) (all_digits base f) d))
digits-free base mark (b ∷ f) h d (List-Memᴰ-tail m) = digits-free base mark f h (and_right (digit_below base b) (all_digits base f) d) m

-- ---- names

-- A cell name has 1 to 8 bytes.
pub name_form-length : (f : List ℕ) → name_form f ≡ true → (1 ≤ length f) × (length f ≤ Size.name_bytes)
unfolding name_form
name_form-length f h = (
  leb-true 1 (length f) (and_left (leb 1 (length f)) (leb (length f) Size.name_bytes && all_name f) h),
  leb-true (length f) Size.name_bytes (and_left (leb (length f) Size.name_bytes) (all_name f) (and_right (leb 1 (length f)) (leb (length f) Size.name_bytes && all_name f) h)),
)
