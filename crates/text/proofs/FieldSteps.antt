-- One turn of each of this crate's loops, as an equation over what remains of the list.
use Rattle.common_laws.proofs.Base.{Bool, true, false, not, ◌&&◌, ap, List, [], ◌∷◌, ◌≡◌, refl, ℕ, ◌+◌, ◌*◌, ◌-◌, ◌^◌, ◌≤◌, ◌<◌, pow-le-pow_right, add-one, arith, eqb, length, get_or, drop}
use Rattle.common_laws.proofs.Base.{drop_of_length-le, drop-cons, le-leb, lt-leb, eq-eqb}
use Rattle.std.specs.List.{list_all}
use Rattle.sizes.specs.Sizes as Size
use Rattle.text.specs.Numeral.{digit_below, all_digits, value, no_leading_zero, well_formed, name_byte, all_name, name_form}
use Rattle.text.proofs.FieldLaws.{digit-step}

module _ (base : ℕ) (f : List ℕ) (i : ℕ) where
  pub all_digits-good : i < length f → digit_below base (get_or f i 0) ≡ true → all_digits base (drop i f) ≡ all_digits base (drop (i + 1) f)
  unfolding all_digits
  all_digits-good h e = rw (add-one, drop-cons f i 0 h, e)

  pub all_digits-bad : i < length f → digit_below base (get_or f i 0) ≡ false → all_digits base (drop i f) ≡ false
  unfolding all_digits
  all_digits-bad h e = rw (drop-cons f i 0 h, e)

  pub all_digits-end : length f ≤ i → all_digits base (drop i f) ≡ true
  unfolding all_digits
  all_digits-end h = rw (drop_of_length-le f h)

  pub value-step : (acc : ℕ) → i < length f → value base acc (drop i f) ≡ value base (acc * base + (get_or f i 0 - 48)) (drop (i + 1) f)
  unfolding value
  value-step acc h = rw (add-one, drop-cons f i 0 h)

  pub value-end : (acc : ℕ) → length f ≤ i → value base acc (drop i f) ≡ acc
  unfolding value
  value-end acc h = rw (drop_of_length-le f h)

-- What `all` over the bytes of a name says.
pub all_name-list : (f : List ℕ) → list_all name_byte f ≡ all_name f
unfolding all_name
all_name-list [] = refl
all_name-list (b ∷ f) = ap (λ (t : Bool). name_byte b && t) (all_name-list f)

-- Below the last digit the sum of one digit more still fits, where the whole value does.
pub sum_fits_lem : (base sum i n b : ℕ) → 0 < base → sum < base ^ i → digit_below base b ≡ true → i < n → base ^ n ≤ 2 ^ 32 → sum * base + (b - 48) < 2 ^ 32
sum_fits_lem base sum i n b positive h d below whole = omega (arith, digit-step base sum i b h d, pow-le-pow_right positive below)

pub name_form-empty : (f : List ℕ) → length f < 1 → name_form f ≡ false
unfolding name_form
name_form-empty f h = rw (lt-leb 1 (length f) h)

pub name_form-long : (f : List ℕ) → Size.name_bytes < length f → name_form f ≡ false
unfolding name_form
name_form-long f h = let some_byte : 1 ≤ length f = omega arith in rw (le-leb 1 (length f) some_byte, lt-leb (length f) Size.name_bytes h)

pub name_form-bytes : (f : List ℕ) → 1 ≤ length f → length f ≤ Size.name_bytes → name_form f ≡ all_name f
unfolding name_form
name_form-bytes f p q = rw (le-leb 1 (length f) p, le-leb (length f) Size.name_bytes q)

pub no_leading_zero-short : (f : List ℕ) → length f ≤ 1 → no_leading_zero f ≡ true
unfolding no_leading_zero
no_leading_zero-short [] h = refl
no_leading_zero-short (b ∷ []) h = refl
no_leading_zero-short (b ∷ (c ∷ f)) h = absurd (omega arith)

pub no_leading_zero-long : (f : List ℕ) → 1 < length f → no_leading_zero f ≡ not (eqb (get_or f 0 0) 48)
unfolding no_leading_zero
no_leading_zero-long [] h = absurd (omega arith)
no_leading_zero-long (b ∷ []) h = absurd (omega arith)
no_leading_zero-long (b ∷ (c ∷ f)) h = refl

module _ (base most : ℕ) (f : List ℕ) where
  pub well_formed-empty : length f < 1 → well_formed base most f ≡ false
  unfolding well_formed
  well_formed-empty h = rw (lt-leb 1 (length f) h)

  pub well_formed-long : most < length f → well_formed base most f ≡ false
  unfolding well_formed
  well_formed-long h =
      let some_byte : 1 ≤ length f = omega arith in
      rw (le-leb 1 (length f) some_byte, lt-leb (length f) most h)

  pub well_formed-zero : 1 < length f → length f ≤ most → get_or f 0 0 ≡ 48 → well_formed base most f ≡ false
  unfolding well_formed
  well_formed-zero long short e =
      let some_byte : 1 ≤ length f = omega arith in
      rw
      (le-leb 1 (length f) some_byte, le-leb (length f) most short, no_leading_zero-long f long, eq-eqb (get_or f 0 0) 48 e)

  pub well_formed-bytes : 1 ≤ length f → length f ≤ most → no_leading_zero f ≡ true → well_formed base most f ≡ all_digits base f
  unfolding well_formed
  well_formed-bytes p q z = rw (le-leb 1 (length f) p, le-leb (length f) most q, z)
