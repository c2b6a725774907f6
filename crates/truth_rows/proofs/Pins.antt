-- Masks put together from those of fewer pins, and rows without their last digit.
use Rattle.common_laws.proofs.Base.{Bool, true, false, not, and-false, List, [], ◌∷◌, ◌++◌, map, none, some, ◌≡◌, refl, sym, ap, ◌∙◌, ℕ, zero, suc, ◌+◌, ◌*◌, ◌-◌, ◌/◌, ◌%◌, ◌^◌}
use Rattle.common_laws.proofs.Base.{◌≤◌, ◌<◌, pow-suc, mul-le-mul_right, div-add-mod', mul_assoc, mul_comm, pow-le-pow_right, arith, eqb, length, length-append, length-map}
use Rattle.common_laws.proofs.Base.{pow-add, eqb-true, eqb-false}
use native.Mathlib.Nat.{div-div-eq-div-mul, mul-le-mul_left}
use Rattle.reading.specs.Choice.{pick}
use Rattle.reading.proofs.Laws.{by_test}
use Rattle.truth_tables.specs.Entries.{literal_columns, term_columns}
use Rattle.truth_tables.specs.Tables.{Term, Condition, digit, settings, same, fits, meets}
use Rattle.truth_tables.proofs.Lists.{map-append, map-map}
use Rattle.truth_tables.proofs.Order.{digit-most}
use Rattle.truth_rows.specs.Masks.{mask_of, wanted_mask, cover_mask, up_from, literal, term_of, widened, loose, fixed}

-- ---- masks

pub mask_append : (xs ys : List Bool) → mask_of (xs ++ ys) ≡ mask_of xs + 2 ^ length xs * mask_of ys
unfolding mask_of
mask_append [] ys = omega arith
mask_append (x ∷ xs) ys = rw (mask_append xs ys, pow-suc 2 (length xs)) (turned (digit x) (mask_of xs) (2 ^ length xs) (mask_of ys))
  where
    turned : (d m p q : ℕ) → d + 2 * (m + p * q) ≡ d + 2 * m + p * 2 * q
    turned d m p q = rw (mul_assoc p 2 q, mul_comm 2 q, ← mul_assoc p q 2) (omega arith)

pub mask_below : (xs : List Bool) → mask_of xs < 2 ^ length xs
unfolding mask_of
mask_below [] = omega arith
mask_below (x ∷ xs) = rw (pow-suc 2 (length xs)) (omega (arith, mask_below xs, digit-most x))

mask_none : {A : Type 0} (xs : List A) → mask_of (map (λ x. false) xs) ≡ 0
unfolding mask_of digit
mask_none [] = refl
mask_none (x ∷ xs) = rw (mask_none xs) refl

pub length-settings : (n : ℕ) → length (settings n) ≡ 2 ^ n
unfolding settings
length-settings zero = refl
length-settings (suc n) =
    length-append (map (λ s. false ∷ s) (settings n)) (map (λ s. true ∷ s) (settings n))
    ∙ rw (length-map (settings n) (λ s. false ∷ s), length-map (settings n) (λ s. true ∷ s), length-settings n, pow-suc 2 n) (omega arith)

-- ---- one pin more

pub settings-more : (n : ℕ) (C : Condition)
    → wanted_mask (suc n) C ≡ wanted_mask n (λ s. C (false ∷ s)) + 2 ^ (2 ^ n) * wanted_mask n (λ s. C (true ∷ s))
unfolding wanted_mask settings
settings-more n C =
    let low : List Bool = map (λ s. C (false ∷ s)) (settings n) in
    let high : List Bool = map (λ s. C (true ∷ s)) (settings n) in
    let long : length low ≡ 2 ^ n = length-map (settings n) (λ s. C (false ∷ s)) ∙ length-settings n in
    ap mask_of
    (map-append C (map (λ s. false ∷ s) (settings n)) (map (λ s. true ∷ s) (settings n))
    ∙ rw (map-map C (λ s. false ∷ s) (settings n), map-map C (λ s. true ∷ s) (settings n)) refl)
    ∙ mask_append low high
    ∙ rw long refl

pub cover_more : (n d : ℕ) (t : Term) → cover_mask (suc n) (literal d ∷ t) ≡ widened (cover_mask n t) (2 ^ (2 ^ n)) d
unfolding cover_mask wanted_mask widened literal meets fits same
cover_more n zero t = settings-more n (meets (none ∷ t)) ∙ omega (arith, mul_comm (2 ^ (2 ^ n)) (cover_mask n t))
cover_more n (suc zero) t =
    settings-more n (meets (some true ∷ t)) ∙ omega (arith, mul_comm (2 ^ (2 ^ n)) (cover_mask n t), mask_none (settings n))
cover_more n (suc (suc d)) t =
    settings-more n (meets (some false ∷ t)) ∙ rw (mask_none (settings n)) (omega arith)

pub cover_below : (n : ℕ) (t : Term) → cover_mask n t < 2 ^ (2 ^ n)
unfolding cover_mask
cover_below n t =
    rw (← length-settings n, ← length-map (settings n) (meets t)) (mask_below (map (meets t) (settings n)))

-- ---- rows

pub third : (row i : ℕ) → row / 3 ^ i / 3 ≡ row / 3 ^ suc i
third row i = div-div-eq-div-mul row (3 ^ i) 3 ∙ ap (λ (k : ℕ). row / k) (sym (pow-suc 3 i))

-- ---- what the loops over the pins keep

pub wide-most : (i : ℕ) → i ≤ 3 → 2 ^ (2 ^ i) ≤ 256
wide-most i h =
    let two : 0 < 2 = omega arith in
    let few : 2 ^ i ≤ 2 ^ 3 = pow-le-pow_right two h in
    pow-le-pow_right two few

pub wide_square : (i : ℕ) → 2 ^ (2 ^ i) * 2 ^ (2 ^ i) ≡ 2 ^ (2 ^ suc i)
wide_square i = sym (pow-add 2 (2 ^ i) (2 ^ i)) ∙ ap (λ (k : ℕ). 2 ^ k) (omega (arith, pow-suc 2 i))

pub literal_pick : (b : Bool) (d : ℕ) → pick b none (literal d) ≡ literal (pick b 0 d)
unfolding pick literal
literal_pick true d = refl
literal_pick false d = refl

pub literal-columns : (d : ℕ) → d < 3 → literal_columns (literal d) ≡ d
unfolding literal literal_columns
literal-columns zero h = refl
literal-columns (suc zero) h = refl
literal-columns (suc (suc zero)) h = refl
literal-columns (suc (suc (suc d))) h = absurd (omega arith)

pub length_term : (i row : ℕ) → length (term_of i row) ≡ i
unfolding term_of
length_term zero row = refl
length_term (suc i) row = ap suc (length_term i row)

pub columns-more : (i row : ℕ) → term_columns (term_of (suc i) row) ≡ row / 3 ^ i % 3 * 4 ^ i + term_columns (term_of i row)
unfolding term_of term_columns
columns-more i row = rw (length_term i row, literal-columns (row / 3 ^ i % 3) (omega arith)) refl

pub columns-below : (i row : ℕ) → term_columns (term_of i row) < 4 ^ i
unfolding term_of term_columns
columns-below zero row = omega arith
columns-below (suc i) row =
    rw (columns-more i row, pow-suc 4 i)
    (omega (arith, columns-below i row, mul-le-mul_right (4 ^ i) (least (row / 3 ^ i))))
  where
    least : (k : ℕ) → k % 3 ≤ 2
    least k = omega arith

-- ---- quotients

pub scaled : (j w k : ℕ) → j / w * (k * w) ≡ k * (j / w * w)
scaled j w k = sym (mul_assoc (j / w) k w) ∙ rw (mul_comm (j / w) k) (mul_assoc k (j / w) w)

pub scaled-most : (j w k : ℕ) → j / w * (k * w) ≤ k * j
scaled-most j w k =
    let less : j / w * w ≤ j = omega (arith, div-add-mod' j w) in rw (scaled j w k) (mul-le-mul_left k less)

-- ---- settings by their places

pub up_more : (j count : ℕ) → 0 < j → j ≤ count → up_from (j - 1) (count - (j - 1)) ≡ (j - 1) ∷ up_from j (count - j)
unfolding up_from
up_more j count h k =
    let left : count - (j - 1) ≡ suc (count - j) = omega arith in
    let next : suc (j - 1) ≡ j = omega arith in
    rw left (ap (λ (m : ℕ). (j - 1) ∷ up_from m (count - j)) next)

pub length_up : (j left : ℕ) → length (up_from j left) ≡ left
unfolding up_from
length_up j zero = refl
length_up j (suc left) = ap suc (length_up (suc j) left)

-- The settings from a place on, of so many, are short as a mask; one more stands below them.
pub mask-short : (count j : ℕ) → count ≤ 16 → 2 ^ (count - j) ≤ 65536
mask-short count j h =
    let two : 0 < 2 = omega arith in
    let few : count - j ≤ 16 = omega arith in
    pow-le-pow_right two few

pub mask-shorter : (mask b count j : ℕ) → b ≤ 1 → 0 < j → j ≤ count → mask < 2 ^ (count - j) → mask * 2 + b < 2 ^ (count - (j - 1))
mask-shorter mask b count j h k l m =
    let left : count - (j - 1) ≡ suc (count - j) = omega arith in
    rw (left, pow-suc 2 (count - j)) (omega arith)

pub mask_more : (p : ℕ → Bool) (b : Bool) (mask count j : ℕ) → b ≡ p (j - 1) → 0 < j → j ≤ count → mask ≡ mask_of (map p (up_from j (count - j)))
    → mask * 2 + digit b ≡ mask_of (map p (up_from (j - 1) (count - (j - 1))))
unfolding mask_of
mask_more p b mask count j e h k m = rw (up_more j count h k, ← e, ← m) (omega arith)

-- ---- pins that cannot be dropped

pub fixed-not : (wanted n row i m : ℕ) → i < m → loose wanted n row (row / 3 ^ i % 3) i ≡ true → fixed wanted n row m ≡ false
unfolding fixed
fixed-not wanted n row i zero h e = absurd (omega arith)
fixed-not wanted n row i (suc m) h e =
    by_test (eqb i m)
    (λ same-pin. rw (← eqb-true i m same-pin, e) refl)
    (λ other. rw (fixed-not wanted n row i m (omega (arith, eqb-false i m other)) e) (and-false (not (loose wanted n row (row / 3 ^ m % 3) m))))
