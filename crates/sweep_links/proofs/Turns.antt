-- The set after a word is stored, and the next turn that is awake.
use Rattle.common_laws.proofs.Base.{List, ◌≡◌, sym, ap, ap₂, ◌∙◌, ℕ, ◌+◌, ◌*◌, ◌-◌, ◌/◌, ◌%◌, ◌^◌, ◌≤◌, ◌<◌, ℕ_discrete, lt_of_not-le, arith, ltb-true, ltb-false, bit_or, bit_xor}
use Rattle.common_laws.proofs.Base.{differ, count_trailing_zeros, ltb, length, get_or, set, length-set, get_or-set_same, get_or-set_other}
use lib.Pow.{shr_le}
use Rattle.sizes.specs.Sizes as Size
use Rattle.reading.proofs.Laws.{by_test}
use Rattle.sweep_links.specs.Turns.{binary_digit, bit_at, Woken, Rested}
use Rattle.sweep_links.proofs.Bits.{bit_shr, zero_bit, power_same, power_other, or-bit, xor_bit, differ_zero, high_bit, lowest_set, lowest-below}

-- ---- a word stored

module _ (words : List ℕ) (turn w : ℕ) (inside : turn / Size.word_bits < length words) where
  pub set-bit : bit_at (set words (turn / Size.word_bits) w) turn ≡ binary_digit w (turn % Size.word_bits)
  unfolding bit_at
  set-bit = rw (get_or-set_same words (turn / Size.word_bits) w 0 inside)

  pub set-others : ((j : ℕ) → (j ≡ turn % Size.word_bits → ⊥) → binary_digit w j ≡ binary_digit (get_or words (turn / Size.word_bits) 0) j)
      → (t : ℕ) → (t ≡ turn → ⊥) → bit_at (set words (turn / Size.word_bits) w) t ≡ bit_at words t
  unfolding bit_at
  set-others same t other = go (ℕ_discrete (t / Size.word_bits) (turn / Size.word_bits))
    where
      go : Dec (t / Size.word_bits ≡ turn / Size.word_bits) → bit_at (set words (turn / Size.word_bits) w) t ≡ bit_at words t
      go (yes e) =
          rw (e, get_or-set_same words (turn / Size.word_bits) w 0 inside)
          (same (t % Size.word_bits) (λ f. other (omega arith)))
      go (no e) = rw (get_or-set_other words (turn / Size.word_bits) (t / Size.word_bits) w 0 e)

-- the turn's bit set, and then flipped
module _ (words : List ℕ) (turn w b : ℕ) (stands : w ≡ get_or words (turn / Size.word_bits) 0) (is : b ≡ 2 ^ (turn % Size.word_bits)) (inside : turn / Size.word_bits < length words) where
  same : binary_digit b (turn % Size.word_bits) ≡ 1
  same = ap (λ (n : ℕ). binary_digit n (turn % Size.word_bits)) is ∙ power_same (turn % Size.word_bits)

  other : (j : ℕ) → (j ≡ turn % Size.word_bits → ⊥) → binary_digit b j ≡ 0
  other j h = ap (λ (n : ℕ). binary_digit n j) is ∙ power_other (turn % Size.word_bits) j h

  both : binary_digit (bit_or w b) (turn % Size.word_bits) ≡ 1
  both = omega (arith, or-bit w b (turn % Size.word_bits), same)

  kept : (j : ℕ) → (j ≡ turn % Size.word_bits → ⊥) → binary_digit (bit_or w b) j ≡ binary_digit (get_or words (turn / Size.word_bits) 0) j
  kept j h = omega (arith, or-bit w b j, other j h, ap (λ (n : ℕ). binary_digit n j) stands)

  pub or-wakes : Woken turn words (set words (turn / Size.word_bits) (bit_or w b))
  or-wakes = record {
    becomes = set-bit words turn (bit_or w b) inside ∙ both;
    others = set-others words turn (bit_or w b) inside kept;
    size = length-set words (turn / Size.word_bits) (bit_or w b);
  }

  pub xor_rests : Rested turn words (set words (turn / Size.word_bits) (bit_xor (bit_or w b) b))
  xor_rests = record {
    becomes = set-bit words turn (bit_xor (bit_or w b) b) inside ∙ xor_bit (bit_or w b) b (turn % Size.word_bits)
        ∙ ap₂ differ both same;
    others = set-others words turn (bit_xor (bit_or w b) b) inside λ j h.
        xor_bit (bit_or w b) b j ∙ ap (differ (binary_digit (bit_or w b) j)) (other j h) ∙ differ_zero (binary_digit (bit_or w b) j) ∙ kept j h;
    size = length-set words (turn / Size.word_bits) (bit_xor (bit_or w b) b);
  }

-- ---- waking only wakes

module _ {turn : ℕ} {before after : List ℕ} (woken : Woken turn before after) where
  pub wakes_only : (t : ℕ) → bit_at after t ≡ 0 → bit_at before t ≡ 0
  wakes_only t h = go (ℕ_discrete t turn)
    where
      go : Dec (t ≡ turn) → bit_at before t ≡ 0
      go (yes e) = absurd (omega (arith, woken.becomes, ap (bit_at after) e))
      go (no e) = sym (woken.others t e) ∙ h

  pub stays_awake : (t : ℕ) → bit_at before t ≡ 1 → bit_at after t ≡ 1
  stays_awake t h = go (ℕ_discrete t turn)
    where
      go : Dec (t ≡ turn) → bit_at after t ≡ 1
      go (yes e) = ap (bit_at after) e ∙ woken.becomes
      go (no e) = woken.others t e ∙ h

-- ---- the rest of a word, from turn `at` on

module _ (words : List ℕ) (at w : ℕ) (stands : w ≡ get_or words (at / Size.word_bits) 0) where
  rest-bit : (d : ℕ) → at % Size.word_bits + d < Size.word_bits → bit_at words (at + d) ≡ binary_digit (w / 2 ^ (at % Size.word_bits)) d
  unfolding bit_at
  rest-bit d h =
      let high : (at + d) / Size.word_bits ≡ at / Size.word_bits = omega arith in
      let low : (at + d) % Size.word_bits ≡ at % Size.word_bits + d = omega arith in
      rw (high, low, ← stands) (sym (bit_shr w (at % Size.word_bits) d))

  pub rest-asleep : w / 2 ^ (at % Size.word_bits) ≡ 0 → (t : ℕ) → at ≤ t → t < (at / Size.word_bits + 1) * Size.word_bits → bit_at words t ≡ 0
  rest-asleep none t h k =
      ap (bit_at words) (omega arith) ∙ rest-bit (t - at) (omega arith) ∙ ap (λ (n : ℕ). binary_digit n (t - at)) none ∙ zero_bit (t - at)

  module _ (rest : ℕ) (is : rest ≡ w / 2 ^ (at % Size.word_bits)) (fits : w < 2 ^ Size.word_bits) (some : 0 < rest) where
    zeros-set : binary_digit rest (count_trailing_zeros Size.word_bits rest) ≡ 1
    zeros-set = lowest_set Size.word_bits rest some (omega (arith, shr_le w (at % Size.word_bits)))

    -- the lowest bit of the rest is one of the word
    zeros-inside : at % Size.word_bits + count_trailing_zeros Size.word_bits rest < Size.word_bits
    zeros-inside =
        lt_of_not-le λ h.
        let z : binary_digit rest (count_trailing_zeros Size.word_bits rest) ≡ 0 =
        ap (λ (n : ℕ). binary_digit n (count_trailing_zeros Size.word_bits rest)) is
        ∙ bit_shr w (at % Size.word_bits) (count_trailing_zeros Size.word_bits rest)
        ∙ high_bit w Size.word_bits (at % Size.word_bits + count_trailing_zeros Size.word_bits rest) fits h in
        omega (arith, zeros-set)

    pub lowest-awake : bit_at words (at + count_trailing_zeros Size.word_bits rest) ≡ 1
    lowest-awake = rest-bit (count_trailing_zeros Size.word_bits rest) zeros-inside ∙ rw (← is) zeros-set

    pub below-asleep : (t : ℕ) → at ≤ t → t < at + count_trailing_zeros Size.word_bits rest → bit_at words t ≡ 0
    below-asleep t h k =
        ap (bit_at words) (omega arith) ∙ rest-bit (t - at) (omega (arith, zeros-inside))
        ∙ rw (← is) (lowest-below Size.word_bits rest (t - at) (omega arith))

-- none awake before `at`, and none from there on
pub joined-asleep : {from end : ℕ} (words : List ℕ) (at : ℕ) → ((t : ℕ) → from ≤ t → t < at → bit_at words t ≡ 0)
    → ((t : ℕ) → at ≤ t → t < end → bit_at words t ≡ 0) → (t : ℕ) → from ≤ t → t < end → bit_at words t ≡ 0
joined-asleep words at before after t h k =
    by_test (ltb t at) (λ e. before t h (ltb-true t at e)) (λ e. after t (ltb-false t at e) k)
