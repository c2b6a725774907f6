-- Over the columns that a row is gone through: one after the other, and the same by the bits below a count.
use Rattle.common_laws.proofs.Base.{Bool, true, false, ◌&&◌, ◌||◌, or-false, List, ◌∷◌, ◌≡◌, refl, sym, ap, ◌∙◌, ℕ, zero, suc, ◌+◌, ◌*◌, ◌-◌, ◌/◌, ◌%◌, ◌^◌, ◌≤◌, ◌<◌}
use Rattle.common_laws.proofs.Base.{pow-suc, mod-lt, zero-add, mul_assoc, div-one, add-one, arith, bit_and, and_le_l, count_trailing_zeros, pow_mono, shr-shr}
use native.Mathlib.Nat.{mul-add}
use Rattle.reading.specs.Choice.{pick}
use Rattle.sweep_sums.specs.Columns.{with_named, column_places}
use Rattle.sweep_sums.specs.Gone.{columns_gone}
use Rattle.sweep_sums.proofs.Columns.{fewer-places, lowest-below}
use Rattle.sweep_sums.proofs.Gone.{gone-places, gone-none, gone-next}
use Rattle.library_table.specs.Cells.{bit}
use Rattle.library_table.specs.Library.{any_of}
use Rattle.sweep_wires.specs.Wires.{SettingRow, any_below, bits_of}
use Rattle.sweep_wires.proofs.Masks.{masked, masked-few}

-- ---- one after the other

-- What is left of a row.
pub rest_row : {pins rest : ℕ} → SettingRow pins rest → SettingRow pins (bit_and rest (rest - 1))
rest_row {rest = rest} f = record { few = f.few; within = omega (arith, f.within, and_le_l rest (rest - 1)) }

pub row_word : {pins rest : ℕ} → SettingRow pins rest → rest < 2 ^ 32
row_word {pins} f = omega (arith, f.within, pow_mono {i = 2 * pins} {j = 32} (omega (arith, f.few)))

module _ {pins rest column : ℕ} (f : SettingRow pins rest) (some : (rest ≡ 0 → ⊥)) (low : column ≡ count_trailing_zeros 32 rest) where
  pub column-inside : column < 2 * pins
  column-inside = rw low (lowest-below 32 (2 * pins) rest (omega (arith, some)) f.within)

  gone : columns_gone rest ≡ column ∷ columns_gone (bit_and rest (rest - 1))
  gone = rw low (gone-next rest (omega (arith, some)) (row_word f))

  module _ (p : ℕ → Bool) {all : Bool} (so : any_of p (columns_gone rest) ≡ all) where
    pub gone-found : p column ≡ true → true ≡ all
    unfolding any_of
    gone-found h = sym (ap (λ (b : Bool). b || any_of p (columns_gone (bit_and rest (rest - 1)))) h) ∙ sym (ap (any_of p) gone) ∙ so

    pub gone-on : p column ≡ false → any_of p (columns_gone (bit_and rest (rest - 1))) ≡ all
    unfolding any_of
    gone-on h = sym (ap (λ (b : Bool). b || any_of p (columns_gone (bit_and rest (rest - 1)))) h) ∙ sym (ap (any_of p) gone) ∙ so

  -- One bit more of those that are left.
  pub bits-on : (p : ℕ → Bool) (left : ℕ) {kept all : ℕ} → left + bits_of p (columns_gone rest) ≡ all → kept ≡ pick (p column) (2 ^ column) 0
      → left + kept + bits_of p (columns_gone (bit_and rest (rest - 1))) ≡ all
  unfolding bits_of
  bits-on p left so k = let e = ap (bits_of p) gone in omega arith

pub gone-end : (p : ℕ → Bool) {rest : ℕ} {all : Bool} → rest ≡ 0 → any_of p (columns_gone rest) ≡ all → false ≡ all
unfolding any_of
gone-end p e so = rw (e, gone-none) at so

pub bits-end : (p : ℕ → Bool) (left : ℕ) {rest all : ℕ} → rest ≡ 0 → left + bits_of p (columns_gone rest) ≡ all → left ≡ all
unfolding bits_of
bits-end p left e so = let h = rw (e, gone-none) at so in omega arith

-- ---- by bits

module _ (p : ℕ → Bool) (x : ℕ) where
  abbrev passes : ℕ → Bool
  passes j = bit x j && p j

  abbrev places_from : ℕ → ℕ → List ℕ
  places_from k first = column_places (λ j. j) k first (x / 2 ^ first)

  half : (first : ℕ) → x / 2 ^ first / 2 ≡ x / 2 ^ suc first
  half first = shr-shr x first 1 ∙ ap (λ (k : ℕ). x / 2 ^ k) (add-one first)

  places-any : (k first : ℕ) → any_below passes (first + k) ≡ (any_of p (places_from k first) || any_below passes first)
  unfolding any_below any_of column_places
  places-any zero first = let e : first + 0 ≡ first = omega arith in rw e
  places-any (suc k) first =
      let e : first + suc k ≡ suc first + k = omega arith in
      rw (e, half first) (places-any k (suc first) ∙ side (x / 2 ^ first % 2) refl (mod-lt (x / 2 ^ first) (omega arith)))
    where
      swap : (a b c : Bool) → (a || (b || c)) ≡ ((b || a) || c)
      swap true true c = refl
      swap true false c = refl
      swap false true c = refl
      swap false false c = refl

      side : (r : ℕ) → x / 2 ^ first % 2 ≡ r → r < 2
          → (any_of p (places_from k (suc first)) || (passes first || any_below passes first))
          ≡ (any_of p (with_named r first (places_from k (suc first))) || any_below passes first)
      side zero e h = unfold bit with_named in rw e
      side (suc zero) e h = unfold bit with_named in rw e (swap (any_of p (places_from k (suc first))) (p first) (any_below passes first))
      side (suc (suc r)) e h = absurd (omega arith)

  places-masked : (k first : ℕ) → bits_of p (places_from k first) ≡ 2 ^ first * masked passes k first
  unfolding bits_of masked column_places
  places-masked zero first = omega arith
  places-masked (suc k) first =
      rw (half first) (side (places-masked k (suc first)) (x / 2 ^ first % 2) refl (mod-lt (x / 2 ^ first) (omega arith)))
    where
      more : bits_of p (places_from k (suc first)) ≡ 2 ^ suc first * masked passes k (suc first) → (b : ℕ) → 2 ^ first * b + bits_of p (places_from k (suc first)) ≡ 2 ^ first * (b + 2 * masked passes k (suc first))
      more others b =
          ap (λ (y : ℕ). 2 ^ first * b + y)
          (others ∙ ap (λ (y : ℕ). y * masked passes k (suc first)) (pow-suc 2 first) ∙ mul_assoc (2 ^ first) 2 (masked passes k (suc first)))
          ∙ sym (mul-add (2 ^ first) b (2 * masked passes k (suc first)))

      named : bits_of p (places_from k (suc first)) ≡ 2 ^ suc first * masked passes k (suc first) → (b : Bool) → pick b (2 ^ first) 0 + bits_of p (places_from k (suc first)) ≡ 2 ^ first * (pick b 1 0 + 2 * masked passes k (suc first))
      named others true = unfold pick in omega (arith, more others 1)
      named others false = unfold pick in omega (arith, more others 0)

      side : bits_of p (places_from k (suc first)) ≡ 2 ^ suc first * masked passes k (suc first) → (r : ℕ) → x / 2 ^ first % 2 ≡ r → r < 2
          → bits_of p (with_named r first (places_from k (suc first))) ≡ 2 ^ first * (pick (passes first) 1 0 + 2 * masked passes k (suc first))
      side others zero e h = unfold bit with_named pick in rw e (omega (arith, more others 0))
      side others (suc zero) e h = unfold bit with_named in rw e (named others (p first))
      side others (suc (suc r)) e h = absurd (omega arith)

  -- A row that has so few columns.
  module _ (k : ℕ) (few : k ≤ 32) (within : x < 2 ^ k) where
    gone-few : columns_gone x ≡ places_from k 0
    gone-few =
        let s : 32 ≡ k + (32 - k) = omega arith in
        gone-places x (omega (arith, within, pow_mono few))
        ∙ ap (λ (n : ℕ). column_places (λ j. j) n 0 x) s
        ∙ fewer-places (λ j. j) k (32 - k) 0 x within
        ∙ ap (column_places (λ j. j) k 0) (sym (div-one x))

    pub gone-any : any_of p (columns_gone x) ≡ any_below passes k
    unfolding any_below
    gone-any = ap (any_of p) gone-few ∙ sym (or-false _) ∙ sym (places-any k 0) ∙ ap (any_below passes) (zero-add k)

    pub gone-masked : bits_of p (columns_gone x) ≡ masked passes k 0
    gone-masked = ap (bits_of p) gone-few ∙ places-masked k 0 ∙ omega arith

    pub bits_most : bits_of p (columns_gone x) < 2 ^ k
    bits_most = rw gone-masked (masked-few passes k 0)
