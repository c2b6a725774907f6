-- What the code asks of BITS is what the definitions ask of settings, and what it makes of terms is their rows' numbers.
use Rattle.common_laws.proofs.Base.{Bool, true, false, not, ◌||◌, List, [], ◌∷◌, ◌++◌, map, none, ◌≡◌, refl, sym, ap, subst, ◌∙◌, ℕ, zero, suc, ◌+◌, ◌*◌, ◌-◌, ◌/◌, ◌%◌, ◌^◌}
use Rattle.common_laws.proofs.Base.{◌≤◌, ◌<◌, pow-suc, one-le-pow, add-zero, add-suc, suc-add, zero-add, mul_assoc, mul_comm, div-eq_of_lt, mod-eq_of_lt, add-mul-div_right}
use Rattle.common_laws.proofs.Base.{add-mul-mod_self_right, arith, eqb, length, get_or, pow-add, ne_eqb, eqb-true}
use native.Mathlib.Nat.{add-mul}
use lib.ListN.{get_or-map}
use Rattle.common_laws.proofs.Numbers.{two-four}
use Rattle.reading.specs.Each.{Each}
use Rattle.reading.proofs.Laws.{by_test, clash, and_left, and_right, each_append, each_map}
use Rattle.library_table.specs.Cells.{Group}
use Rattle.truth_tables.specs.Entries.{literal_columns, term_columns, observe_column, setting_row, observing_row, setting_group, observing_group, groups_from, row_number}
use Rattle.truth_tables.specs.Tables.{Setting, Term, Condition, digit, settings, place, output, same, all_of, primes, gives, put_in, changes, observing}
use Rattle.truth_tables.proofs.Lists.{map-append, map-map, map_each}
use Rattle.truth_tables.proofs.Order.{place-below, term_below, length_putIn}
use Rattle.truth_tables.proofs.Rows.{primes-length}
use Rattle.truth_rows.specs.Masks.{mask_of, wanted_mask, is_bit, is_one, Bits, gives_at, changes_at, up_from, prime_rows, spread, number_of}
use Rattle.truth_rows.proofs.Primes.{prime-rows}

-- ---- the places of the settings

up_shift : (c j left : ℕ) → up_from (c + j) left ≡ map (λ i. c + i) (up_from j left)
unfolding up_from
up_shift c j zero = refl
up_shift c j (suc left) = ap (λ (l : List ℕ). (c + j) ∷ l) (ap (λ (k : ℕ). up_from k left) (sym (add-suc c j)) ∙ up_shift c (suc j) left)

-- The groups of the pins, by their places.
pub pins-groups : (d n : ℕ) (bits : List Bool) (k left : ℕ) → map (observing_group d n bits) (up_from k left) ≡ groups_from d n bits k left
unfolding groups_from up_from
pins-groups d n bits k zero = refl
pins-groups d n bits k (suc left) = ap (λ (gs : List Group). observing_group d n bits k ∷ gs) (pins-groups d n bits (suc k) left)

pub up-append : (j a b : ℕ) → up_from j (a + b) ≡ up_from j a ++ up_from (j + a) b
unfolding up_from
up-append j zero b = rw (zero-add b, add-zero j) refl
up-append j (suc a) b = rw (suc-add a b, up-append (suc j) a b, suc-add j a, ← add-suc j a) refl

each-cons : (n : ℕ) (v : Bool) (ss : List Setting) → Each (λ s. length s ≡ n) ss → Each (λ s. length s ≡ suc n) (map (λ s. v ∷ s) ss)
unfolding Each
each-cons n v [] e = tt
each-cons n v (s ∷ ss) e = (ap suc e.0, each-cons n v ss e.1)

pub settings-length : (n : ℕ) → Each (λ s. length s ≡ n) (settings n)
unfolding settings Each
settings-length zero = (refl, tt)
settings-length (suc n) =
    each_append (λ s. length s ≡ suc n) (map (λ s. false ∷ s) (settings n)) (map (λ s. true ∷ s) (settings n))
    (each-cons n false (settings n) (settings-length n))
    (each-cons n true (settings n) (settings-length n))

-- "from all pins 0 upwards, pin 1 heaviest"
pub places : (n : ℕ) → map place (settings n) ≡ up_from 0 (2 ^ n)
unfolding settings place digit up_from
places zero = refl
places (suc n) =
    let S = settings n in
    let m = 2 ^ n in
    let whole : m + m ≡ 2 ^ suc n = omega (arith, pow-suc 2 n) in
    let low : map place (map (λ s. false ∷ s) S) ≡ up_from 0 m =
    map-map place (λ s. false ∷ s) S
    ∙ map_each (λ s. length s ≡ n) (λ s. place (false ∷ s)) place (λ s e. omega arith) S (settings-length n)
    ∙ places n in
    let high : map place (map (λ s. true ∷ s) S) ≡ up_from m m =
    map-map place (λ s. true ∷ s) S
    ∙ map_each (λ s. length s ≡ n) (λ s. place (true ∷ s)) (λ s. m + place s) (λ s e. rw e (omega arith)) S (settings-length n)
    ∙ sym (map-map (λ i. m + i) place S)
    ∙ ap (map (λ i. m + i)) (places n)
    ∙ sym (up_shift m 0 m)
    ∙ ap (λ (k : ℕ). up_from k m) (add-zero m) in
    map-append place (map (λ s. false ∷ s) S) (map (λ s. true ∷ s) S)
    ∙ rw (low, high) (sym (up-append 0 m m ∙ ap (λ (k : ℕ). up_from 0 m ++ up_from k m) (zero-add m)) ∙ ap (up_from 0) whole)

-- ---- bits

up-each : (j left : ℕ) → Each (λ i. i < j + left) (up_from j left)
unfolding up_from Each
up-each j zero = tt
up-each j (suc left) = (
  omega arith,
  each_map (λ i. i < suc j + left) (λ i. i < j + suc left) (λ i h. omega (arith, suc-add j left, add-suc j left)) (up_from (suc j) left) (up-each (suc j) left),
)

bit_at : (bits : List ℕ) (j : ℕ) → all_of is_bit bits ≡ true → j < length bits → is_bit (get_or bits j 0) ≡ true
unfolding all_of
bit_at [] j h k = absurd (omega arith)
bit_at (b ∷ bits) zero h k = and_left (is_bit b) (all_of is_bit bits) h
bit_at (b ∷ bits) (suc j) h k = bit_at bits j (and_right (is_bit b) (all_of is_bit bits) h) (omega arith)

one_at : (bits : List ℕ) (j : ℕ) → get_or (map is_one bits) j false ≡ is_one (get_or bits j 0)
unfolding is_one
one_at bits j = get_or-map is_one bits j 0

zero_bit : (b : ℕ) → (eqb b 48 || eqb b 49) ≡ true → eqb b 49 ≡ false → eqb b 48 ≡ true
zero_bit b h q = by_test (eqb b 48) (λ z. z) (λ z. clash (eqb b 48 || eqb b 49) h (rw (z, q) refl))

-- A bit is the byte of a value exactly when it has that value.
same-value : (b : ℕ) (e : Bool) → is_bit b ≡ true → same (is_one b) e ≡ eqb b (48 + digit e)
unfolding is_bit is_one same digit
same-value b true h = by_test (eqb b 49) (λ q. rw q refl) (λ q. rw q refl)
same-value b false h =
    by_test (eqb b 49)
    (λ q. rw (q, ne_eqb b 48 (λ z. omega (arith, eqb-true b 49 q))) refl)
    (λ q. rw q (sym (zero_bit b h q)))

is_byte : (b : ℕ) → is_bit b ≡ true → 48 + digit (is_one b) ≡ b
unfolding is_bit is_one digit
is_byte b k =
    by_test (eqb b 49) (λ q. rw q (sym (eqb-true b 49 q))) (λ q. rw q (sym (eqb-true b 48 (zero_bit b k q))))

same_bits : (a b : ℕ) → is_bit a ≡ true → is_bit b ≡ true → same (is_one a) (is_one b) ≡ eqb a b
unfolding is_bit is_one digit
same_bits a b h k = same-value a (is_one b) h ∙ ap (eqb a) (is_byte b k)

module _ (n : ℕ) (bits : List ℕ) (B : Bits n bits) where
  pub gives_mask : (e : Bool) → mask_of (map (gives_at bits (48 + digit e)) (up_from 0 (length bits))) ≡ wanted_mask n (gives (map is_one bits) e)
  unfolding wanted_mask gives output gives_at
  gives_mask e =
      let f : ℕ → Bool = λ j. same (get_or (map is_one bits) j false) e in
      ap mask_of
      (map_each (λ j. j < 0 + length bits) (gives_at bits (48 + digit e)) f
      (λ j h. sym (ap (λ (b : Bool). same b e) (one_at bits j) ∙ same-value (get_or bits j 0) e (bit_at bits j B.digits (omega arith)))) (up_from 0 (length bits)) (up-each 0 (length bits))
      ∙ ap (λ (l : List ℕ). map f l) (ap (up_from 0) B.long ∙ sym (places n))
      ∙ map-map f place (settings n))

-- ---- a pin put in

-- A number in a base with a digit before it, and a digit put in behind k digits.
module _ (b m k D x y : ℕ) (positive : 0 < b) (h : k ≤ m) where
  weights : b ^ m ≡ b ^ k * b ^ (m - k)
  weights = let e : k + (m - k) ≡ m = omega arith in ap (λ (i : ℕ). b ^ i) (sym e) ∙ pow-add b k (m - k)

  parts : D * b ^ m + x ≡ x + D * b ^ k * b ^ (m - k)
  parts = let e : D * b ^ m ≡ D * b ^ k * b ^ (m - k) = ap (λ (i : ℕ). D * i) weights ∙ sym (mul_assoc D (b ^ k) (b ^ (m - k))) in omega arith

  put-digit : (D * b ^ m + x) / b ^ (m - k) * (b * b ^ (m - k)) + y + (D * b ^ m + x) % b ^ (m - k)
      ≡ D * b ^ suc m + (x / b ^ (m - k) * (b * b ^ (m - k)) + y + x % b ^ (m - k))
  put-digit =
      let w = b ^ (m - k) in
      let some : 0 < w = one-le-pow (m - k) b positive in
      let heavy : D * b ^ k * (b * w) ≡ D * b ^ suc m =
      mul_assoc D (b ^ k) (b * w)
      ∙ ap (λ (i : ℕ). D * i) (sym (mul_assoc (b ^ k) b w) ∙ ap (λ (i : ℕ). i * w) (mul_comm (b ^ k) b) ∙ mul_assoc b (b ^ k) w ∙ ap (λ (i : ℕ). b * i) (sym weights) ∙ mul_comm b (b ^ m) ∙ sym (pow-suc b m)) in
      rw (parts, add-mul-div_right x (D * b ^ k) some, add-mul-mod_self_right x (D * b ^ k) w)
      (let e : (x / w + D * b ^ k) * (b * w) ≡ x / w * (b * w) + D * b ^ suc m = add-mul (x / w) (D * b ^ k) (b * w) ∙ ap (λ (i : ℕ). x / w * (b * w) + i) heavy in
      omega arith)

-- The place of a setting with one pin more, which stands behind k pins.
pub place_putIn : (k : ℕ) (s : Setting) (v : Bool) → k ≤ length s
    → place (put_in k v s) ≡ place s / 2 ^ (length s - k) * (2 * 2 ^ (length s - k)) + digit v * 2 ^ (length s - k) + place s % 2 ^ (length s - k)
unfolding place put_in
place_putIn zero s v h =
    let all : length s - 0 ≡ length s = omega arith in
    rw (all, div-eq_of_lt (place-below s), mod-eq_of_lt (place-below s)) (omega arith)
place_putIn (suc k) [] v h = absurd (omega arith)
place_putIn (suc k) (x ∷ s) v h =
    let less : suc (length s) - suc k ≡ length s - k = omega arith in
    rw (less, length_putIn k v s, place_putIn k s v (omega arith))
    (sym (put-digit 2 (length s) k (digit x) (place s) (digit v * 2 ^ (length s - k)) (omega arith) (omega arith)))

-- The same of a term that does not name the pin.
pub columns_putIn : (k : ℕ) (t : Term) → k ≤ length t → term_columns (put_in k none t) ≡ spread (4 ^ (length t - k)) (term_columns t)
unfolding term_columns literal_columns put_in spread
columns_putIn zero t h =
    let all : length t - 0 ≡ length t = omega arith in
    rw (all, div-eq_of_lt (term_below t), mod-eq_of_lt (term_below t)) (omega arith)
columns_putIn (suc k) [] h = absurd (omega arith)
columns_putIn (suc k) (l ∷ t) h =
    let less : suc (length t) - suc k ≡ length t - k = omega arith in
    rw (less, length_putIn k none t, columns_putIn k t (omega arith))
    (omega (arith, put-digit 4 (length t) k (literal_columns l) (term_columns t) 0 (omega arith) (omega arith)))

module _ (n : ℕ) (bits : List ℕ) (B : Bits n bits) (k : ℕ) (h : k < n) where
  differs : (s : Setting) → length s ≡ n - 1 → changes (map is_one bits) k s ≡ changes_at bits (2 ^ (n - 1 - k)) (place s)
  unfolding changes output changes_at digit
  differs s l =
      let w = 2 ^ (n - 1 - k) in
      let some : 0 < w = one-le-pow (n - 1 - k) 2 (omega arith) in
      let at : (v : Bool) → place (put_in k v s) ≡ place s / w * (2 * w) + digit v * w + place s % w =
      λ v. subst (λ (m : ℕ). place (put_in k v s) ≡ place s / 2 ^ (m - k) * (2 * 2 ^ (m - k)) + digit v * 2 ^ (m - k) + place s % 2 ^ (m - k)) l
      (place_putIn k s v (omega arith)) in
      let low : place (put_in k false s) ≡ place s / w * (2 * w) + place s % w = omega (arith, at false) in
      let high : place (put_in k true s) ≡ place s / w * (2 * w) + place s % w + w = omega (arith, at true) in
      let inside : (v : Bool) → is_bit (get_or bits (place (put_in k v s)) 0) ≡ true =
      λ v. bit_at bits (place (put_in k v s)) B.digits (reach v) in
      rw (← high, ← low, one_at bits (place (put_in k false s)), one_at bits (place (put_in k true s)))
      (ap not (same_bits (get_or bits (place (put_in k false s)) 0) (get_or bits (place (put_in k true s)) 0) (inside false) (inside true)))
    where
      reach : (v : Bool) → place (put_in k v s) < length bits
      reach v =
          let whole : suc (n - 1) ≡ n = omega arith in
          rw B.long (subst (λ (m : ℕ). place (put_in k v s) < 2 ^ m) (length_putIn k v s ∙ ap suc l ∙ whole) (place-below (put_in k v s)))

  pub changes_mask : mask_of (map (changes_at bits (2 ^ (n - 1 - k))) (up_from 0 (length bits / 2))) ≡ wanted_mask (n - 1) (changes (map is_one bits) k)
  unfolding wanted_mask
  changes_mask =
      let f : ℕ → Bool = changes_at bits (2 ^ (n - 1 - k)) in
      let whole : suc (n - 1) ≡ n = omega arith in
      let half : length bits / 2 ≡ 2 ^ (n - 1) = omega (arith, B.long, ap (λ (m : ℕ). 2 ^ m) (sym whole), pow-suc 2 (n - 1)) in
      ap mask_of
      (ap (λ (l : List ℕ). map f l) (ap (up_from 0) half ∙ sym (places (n - 1)))
      ∙ map-map f place (settings (n - 1))
      ∙ sym (map_each (λ s. length s ≡ n - 1) (changes (map is_one bits) k) (λ s. f (place s)) (λ s l. differs s l) (settings (n - 1)) (settings-length (n - 1))))

-- ---- rows

module _ (d n : ℕ) (C : Condition) (wanted : ℕ) (e : wanted ≡ wanted_mask n C) where
  setting-numbers : map (number_of d (4 ^ n) n) (prime_rows wanted n) ≡ map row_number (map (setting_row d) (primes n C))
  unfolding number_of spread row_number setting_row
  setting-numbers =
      rw e (prime-rows (λ t. d + 2 * spread (4 ^ n) (term_columns t)) n C)
      ∙ map_each (λ t. length t ≡ n) (λ t. d + 2 * spread (4 ^ n) (term_columns t)) (λ t. row_number (setting_row d t)) (λ t l. number t l) (primes n C) (primes-length n C)
      ∙ sym (map-map row_number (setting_row d) (primes n C))
    where
      number : (t : Term) → length t ≡ n → d + 2 * spread (4 ^ n) (term_columns t) ≡ row_number (setting_row d t)
      number t l =
          let below : term_columns t < 4 ^ n = subst (λ (m : ℕ). term_columns t < 4 ^ m) l (term_below t) in
          rw (div-eq_of_lt below, mod-eq_of_lt below) (omega arith)

  -- The rows of a pin that stands behind k others, of a cell of one pin more.
  observing-numbers : (base k : ℕ) → k ≤ n → base ≡ d + 2 * observe_column (suc n)
      → map (number_of base (4 ^ (n - k)) n) (prime_rows wanted n) ≡ map row_number (map (observing_row d (suc n)) (map (λ t. put_in k none t) (primes n C)))
  unfolding number_of row_number observing_row
  observing-numbers base k h b =
      let f : Term → ℕ = λ t. base + 2 * spread (4 ^ (n - k)) (term_columns t) in
      let ts = primes n C in
      rw e (prime-rows f n C)
      ∙ map_each (λ t. length t ≡ n) f (λ t. row_number (observing_row d (suc n) (put_in k none t))) (λ t l. number t l) ts (primes-length n C)
      ∙ sym (map-map (λ t. row_number (observing_row d (suc n) t)) (λ t. put_in k none t) ts)
      ∙ sym (map-map row_number (observing_row d (suc n)) (map (λ t. put_in k none t) ts))
    where
      number : (t : Term) → length t ≡ n → base + 2 * spread (4 ^ (n - k)) (term_columns t) ≡ 2 * (observe_column (suc n) + term_columns (put_in k none t)) + d
      number t l =
          let columns : term_columns (put_in k none t) ≡ spread (4 ^ (n - k)) (term_columns t) =
          subst (λ (m : ℕ). term_columns (put_in k none t) ≡ spread (4 ^ (m - k)) (term_columns t)) l (columns_putIn k t (omega arith)) in
          rw (b, columns) (omega arith)

pub observe-four : (n : ℕ) → 2 ^ (2 * n + 2) ≡ 4 * 4 ^ n
observe-four n = pow-add 2 (2 * n) 2 ∙ rw (two-four n) (omega arith)

-- ---- groups, as the code asks for them

module _ (d n mask weight : ℕ) (bits : List ℕ) (B : Bits n bits) where
  pub setting_group_lem : (value : ℕ) → is_bit value ≡ true → mask ≡ mask_of (map (gives_at bits value) (up_from 0 (length bits))) → weight ≡ 4 ^ n
      → map (number_of d weight n) (prime_rows mask n) ≡ map row_number (setting_group d n (map is_one bits) (is_one value))
  unfolding setting_group
  setting_group_lem value v m w =
      let e = is_one value in
      let is_wanted : mask ≡ wanted_mask n (gives (map is_one bits) e) =
      m ∙ ap (λ (b : ℕ). mask_of (map (gives_at bits b) (up_from 0 (length bits)))) (sym (is_byte value v)) ∙ gives_mask n bits B e in
      rw w (setting-numbers d n (gives (map is_one bits) e) mask is_wanted)

  pub observing_group_lem : (k base light : ℕ) → k < n → light ≡ 2 ^ (n - 1 - k)
      → mask ≡ mask_of (map (changes_at bits light) (up_from 0 (length bits / 2))) → base ≡ d + 8 * 4 ^ n → weight ≡ 4 ^ (n - 1 - k)
      → map (number_of base weight (n - 1)) (prime_rows mask (n - 1)) ≡ map row_number (observing_group d n (map is_one bits) k)
  unfolding observing_group observing observe_column
  observing_group_lem k base light h l m b w =
      let C = changes (map is_one bits) k in
      let whole : suc (n - 1) ≡ n = omega arith in
      let is_wanted : mask ≡ wanted_mask (n - 1) C = m ∙ rw l (changes_mask n bits B k h) in
      let column : base ≡ d + 2 * observe_column (suc (n - 1)) = b ∙ rw whole (eight n) in
      rw w (observing-numbers d (n - 1) C mask is_wanted base k (omega arith) column
      ∙ ap (λ (m : ℕ). map row_number (map (observing_row d m) (map (λ t. put_in k none t) (primes (n - 1) C)))) whole)
    where
      eight : (n : ℕ) → d + 8 * 4 ^ n ≡ d + 2 * 2 ^ (2 * n + 2)
      eight n = omega (arith, observe-four n)
