-- One step of each walk of the code.
use Rattle.common_laws.proofs.Base.{Bool, true, false, ◌&&◌, ◌||◌, and-true, List, [], ◌∷◌, ◌++◌, map, ◌≡◌, refl, sym, ap, ◌∙◌, ℕ, zero, suc, ◌+◌, ◌*◌, ◌-◌, ◌/◌, ◌%◌, ◌^◌, ◌≤◌}
use Rattle.common_laws.proofs.Base.{◌<◌, zero-add, add-one, add-suc, arith, length, get_or, take, set, length-map, take-suc-set}
use Rattle.std.specs.List.{list_all, list_any, range_with_len}
use Rattle.sizes.specs.Places.{group_place}
use Rattle.reading.specs.Choice.{pick}
use Rattle.library_table.specs.Cells.{Group}
use Rattle.truth_tables.specs.Entries.{row_number}
use Rattle.truth_tables.specs.Tables.{keep, all_of, digit}
use Rattle.truth_tables.proofs.Lists.{map-append, map-map}
use Rattle.truth_rows.specs.Masks.{down_from, up_from, is_bit, is_one, Bits}
use Rattle.truth_rows.proofs.Conditions.{up-append}
use Rattle.truth_rows.proofs.Pins.{length_up}
use Rattle.truth_cells.specs.Words.{admits, met_by, met_from, met_at, truth_bits, bit_byte, truth_bytes, row_is, rows_are, groups_are}

-- ---- a setting and a row

pub met-more : (i columns place : ℕ) → 0 < i
    → met_by i columns place
    ≡ (admits (columns / 4 ^ (i - 1)) (place / 2 ^ (i - 1)) && met_by (i - 1) (columns % 4 ^ (i - 1)) (place % 2 ^ (i - 1)))
unfolding met_by
met-more zero columns place h = absurd (omega arith)
met-more (suc i) columns place h = let e : suc i - 1 ≡ i = omega arith in rw e refl

-- ---- the rows of a group

module _ (table : List ℕ) (at n place : ℕ) where
  pub met-any : (r left : ℕ) → list_any (λ (i : ℕ). met_by n (get_or table (at + 2 + 2 * i) 0) place) (range_with_len r left)
      ≡ met_from table at n place r left
  unfolding met_from
  met-any r zero = refl
  met-any r (suc left) = rw (add-one r, met-any (suc r) left) refl

module _ (table : List ℕ) (at : ℕ) (number : ℕ → ℕ) (prime : ℕ → Bool) where
  -- The rows below one that are still looked for.
  unfoldable pub left_are : (found row : ℕ) → Bool
  left_are found row = rows_are table at found (map number (keep prime (down_from row)))

  pub left-prime : (found row : ℕ) → 0 < row → prime (row - 1) ≡ true
      → left_are found row ≡ (row_is table at found (number (row - 1)) && left_are (found + 1) (row - 1))
  unfolding left_are down_from keep pick rows_are
  left-prime found zero h p = absurd (omega arith)
  left-prime found (suc row) h p = let e : suc row - 1 ≡ row = omega arith in rw (e, rw e at p, add-one found) refl

  pub left_other : (found row : ℕ) → 0 < row → prime (row - 1) ≡ false → left_are found row ≡ left_are found (row - 1)
  unfolding left_are down_from keep pick
  left_other found zero h p = absurd (omega arith)
  left_other found (suc row) h p = let e : suc row - 1 ≡ row = omega arith in rw (e, rw e at p) refl

-- ---- the groups of a line

pub groups-next : (table : List ℕ) (cell first n k : ℕ) (g : ℕ → Group) → k < n
    → groups_are table cell (first + k) (map g (up_from k (n - k)))
    ≡ (rows_are table (group_place cell (first + k)) 0 (map row_number (g k)) && groups_are table cell (first + (k + 1)) (map g (up_from (k + 1) (n - (k + 1)))))
unfolding groups_are up_from
groups-next table cell first n k g h =
    let e : n - k ≡ suc (n - suc k) = omega arith in
    let f : first + suc k ≡ suc (first + k) = omega arith in
    rw (add-one k, e, f) refl

-- ---- the bits

-- A byte more of the truth table.
pub bits-next : (table : List ℕ) (at n j : ℕ) (bits : List ℕ) → j < length bits
    → take j bits ≡ map bit_byte (map (met_at table at n) (up_from 0 j))
    → take (j + 1) (set bits j (bit_byte (met_at table at n j))) ≡ map bit_byte (map (met_at table at n) (up_from 0 (j + 1)))
unfolding up_from
bits-next table at n j bits h e =
    let f : ℕ → ℕ = λ i. bit_byte (met_at table at n i) in
    let places : up_from 0 (suc j) ≡ up_from 0 j ++ (j ∷ []) =
    ap (up_from 0) (sym (add-one j)) ∙ up-append 0 j 1 ∙ ap (λ (k : ℕ). up_from 0 j ++ (k ∷ [])) (zero-add j) in
    rw (add-one j, take-suc-set bits j (f j) h, e)
    (sym (ap (λ (l : List ℕ). map bit_byte (map (met_at table at n) l)) places
    ∙ map-map bit_byte (met_at table at n) (up_from 0 j ++ (j ∷ []))
    ∙ map-append f (up_from 0 j) (j ∷ [])
    ∙ ap (λ (l : List ℕ). l ++ (f j ∷ [])) (sym (map-map bit_byte (met_at table at n) (up_from 0 j)))))

-- Such bytes are "0" and "1", and tell the values that they were made of.
pub bytes_bits : (bs : List Bool) → all_of is_bit (map bit_byte bs) ≡ true
unfolding all_of is_bit bit_byte digit
bytes_bits [] = refl
bytes_bits (true ∷ bs) = bytes_bits bs
bytes_bits (false ∷ bs) = bytes_bits bs

pub bytes_ones : (bs : List Bool) → map is_one (map bit_byte bs) ≡ bs
unfolding is_one bit_byte digit
bytes_ones [] = refl
bytes_ones (true ∷ bs) = ap (λ (l : List Bool). true ∷ l) (bytes_ones bs)
bytes_ones (false ∷ bs) = ap (λ (l : List Bool). false ∷ l) (bytes_ones bs)

pub truth_length : (table : List ℕ) (at n : ℕ) → length (truth_bits table at n) ≡ 2 ^ n
unfolding truth_bits
truth_length table at n = length-map (up_from 0 (2 ^ n)) (met_at table at n) ∙ length_up 0 (2 ^ n)

pub truth_bits_lem : (table : List ℕ) (at n : ℕ) → n ≤ 4 → Bits n (truth_bytes table at n)
unfolding truth_bytes
truth_bits_lem table at n h =
    record {
      few = h;
      long = length-map (truth_bits table at n) bit_byte ∙ truth_length table at n;
      digits = bytes_bits (truth_bits table at n);
    }
