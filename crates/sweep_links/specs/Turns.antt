-- The set of the turns of a sweep that are awake: a bit for each, in words.
use Rattle.std.specs.Prelude.{List, ◌≡◌, ℕ, ◌/◌, ◌%◌, ◌^◌, ◌≤◌, ◌<◌, length, get_or}
use Rattle.sizes.specs.Sizes as Size

-- Bit j of a number, 0 or 1.
abbrev pub binary_digit : ℕ → ℕ → ℕ
binary_digit n j = n / 2 ^ j % 2

-- 1 where a turn is awake, 0 where it is not.
unfoldable pub bit_at : List ℕ → ℕ → ℕ
bit_at words t = binary_digit (get_or words (t / Size.word_bits) 0) (t % Size.word_bits)

-- Every turn of a sweep is awake.
pub record AllAwake (words : List ℕ) : Type 0 where
  pub awake : (t : ℕ) → t < Size.gates → bit_at words t ≡ 1
  pub size : length words ≡ Size.awake_words

-- The bit of one turn becomes a value, and no other changes.
pub record OneTurn (value turn : ℕ) (before after : List ℕ) : Type 0 where
  pub becomes : bit_at after turn ≡ value
  pub others : (t : ℕ) → (t ≡ turn → ⊥) → bit_at after t ≡ bit_at before t
  pub size : length after ≡ length before

abbrev pub Woken : ℕ → List ℕ → List ℕ → Type 0
Woken = OneTurn 1

abbrev pub Rested : ℕ → List ℕ → List ℕ → Type 0
Rested = OneTurn 0

-- The lowest awake turn not below `from`; where none is below `end`, one that is not.
pub record NextAwake (words : List ℕ) (from end r : ℕ) : Type 0 where
  pub least : from ≤ r
  pub asleep : (t : ℕ) → from ≤ t → t < r → bit_at words t ≡ 0
  pub found : r < end → bit_at words r ≡ 1
