-- The rows that the code finds are the prime implicants: masks against settings, numbers in base 3 against terms.
use Rattle.common_laws.proofs.Base.{Bool, true, false, not, ◌&&◌, ◌||◌, List, [], ◌∷◌, ◌++◌, map, none, some, ◌≡◌, refl, sym, ap, ◌∙◌, ℕ, zero, suc, ◌+◌, ◌*◌}
use Rattle.common_laws.proofs.Base.{◌-◌, ◌/◌, ◌%◌, ◌^◌, ◌≤◌, ◌<◌, min, pow-suc, one-le-pow, add-zero, add-suc, suc-add, add-mul-div_right, add-mul-mod_self_right}
use Rattle.common_laws.proofs.Base.{mul-add-div_right, div-eq_of_lt, mul_assoc, mul_comm, mod-eq_of_lt, arith, bit_and, and_step, eqb, pow-add, eq-eqb, ne_eqb, eqb-true}
use Rattle.common_laws.proofs.Base.{eqb-false}
use Rattle.reading.specs.Choice.{pick}
use Rattle.reading.specs.Each.{Each}
use Rattle.reading.proofs.Laws.{by_test, clash, each_map}
use Rattle.truth_tables.specs.Tables.{Setting, Term, Condition, digit, settings, meets, dropped, terms, all_of, keep, implicant, prime, primes}
use Rattle.truth_tables.proofs.Lists.{all_map, all_same, keep_map, keep_same, map-append, map-map, map_each}
use Rattle.truth_rows.specs.Masks.{mask_of, wanted_mask, cover_mask, literal, term_of, term_but, implied, loose, fixed, prime_row, down_from, prime_rows}

-- ---- masks

and-digits : (a c : Bool) (M N : ℕ) → bit_and (digit a + 2 * M) (digit c + 2 * N) ≡ bit_and M N * 2 + digit (a && c)
unfolding digit
and-digits a c M N = and_step (digit a + 2 * M) (digit c + 2 * N) ∙ go a c
  where
    half : (b : Bool) (K : ℕ) → (digit b + 2 * K) / 2 ≡ K
    half true K = omega arith
    half false K = omega arith

    odd : (b : Bool) (K : ℕ) → (digit b + 2 * K) % 2 ≡ digit b
    odd true K = omega arith
    odd false K = omega arith

    least : (a c : Bool) → min (digit a) (digit c) ≡ digit (a && c)
    least true true = refl
    least true false = refl
    least false true = refl
    least false false = refl

    go : (a c : Bool) → bit_and ((digit a + 2 * M) / 2) ((digit c + 2 * N) / 2) * 2 + min ((digit a + 2 * M) % 2) ((digit c + 2 * N) % 2)
        ≡ bit_and M N * 2 + digit (a && c)
    go a c = rw (half a M, half c N, odd a M, odd c N, least a c) refl

same_test : (x M d : ℕ) → eqb (x * 2 + d) (d + 2 * M) ≡ eqb x M
same_test x M d =
    by_test (eqb x M)
    (λ e. eq-eqb (x * 2 + d) (d + 2 * M) (omega (arith, eqb-true x M e)) ∙ sym e)
    (λ e. ne_eqb (x * 2 + d) (d + 2 * M) (λ q. eqb-false x M e (omega arith)) ∙ sym e)

-- Two numbers whose lowest bits are known are the same where those are, and the rest.
eqb_digits : (a c : Bool) (x M : ℕ) → eqb (x * 2 + digit (a && c)) (digit a + 2 * M) ≡ ((not a || c) && eqb x M)
unfolding digit
eqb_digits true true x M = same_test x M 1
eqb_digits true false x M = ne_eqb (x * 2 + 0) (1 + 2 * M) (λ e. odd_even x M e)
  where
    odd_even : (x M : ℕ) → x * 2 + 0 ≡ 1 + 2 * M → ⊥
    odd_even x M e = omega arith
eqb_digits false c x M = same_test x M 0

within_mask : (m C : Condition) (ss : List Setting) → implied (mask_of (map C ss)) (mask_of (map m ss)) ≡ all_of (λ s. not (m s) || C s) ss
unfolding implied mask_of all_of
within_mask m C [] = refl
within_mask m C (s ∷ ss) =
    rw (and-digits (m s) (C s) (mask_of (map m ss)) (mask_of (map C ss)))
    (eqb_digits (m s) (C s) (bit_and (mask_of (map m ss)) (mask_of (map C ss))) (mask_of (map m ss))
    ∙ ap (λ (b : Bool). (not (m s) || C s) && b) (within_mask m C ss))

module _ (n : ℕ) (C : Condition) where
  implied-implicant : (t : Term) → implied (wanted_mask n C) (cover_mask n t) ≡ implicant n C t
  unfolding wanted_mask cover_mask implicant
  implied-implicant t = within_mask (meets t) C (settings n)

-- ---- a term by its first pins and the others

joined : (e i row : ℕ) → Term → Term
joined zero i row q = q
joined (suc e) i row q = literal (row / 3 ^ (i + e) % 3) ∷ joined e i row q

joined-one : (e i row : ℕ) (q : Term) → joined e (suc i) row (literal (row / 3 ^ i % 3) ∷ q) ≡ joined (suc e) i row q
unfolding joined
joined-one zero i row q = rw (add-zero i) refl
joined-one (suc e) i row q =
    let here : suc i + e ≡ i + suc e = suc-add i e ∙ sym (add-suc i e) in
    rw (here, joined-one e i row q) refl

-- A pin that is not there is not dropped.
but-none : (free i row : ℕ) → i ≤ free → term_but free i row ≡ term_of i row
unfolding term_but term_of pick
but-none free zero row h = refl
but-none free (suc i) row h = rw (ne_eqb i free (λ e. omega arith), but-none free i row (omega arith)) refl

but_self : (i row : ℕ) → term_but i (suc i) row ≡ none ∷ term_of i row
unfolding term_but pick
but_self i row = rw (eq-eqb i i refl, but-none i i row (omega arith)) refl

but-joined : (e i free row : ℕ) → free < i → term_but free (i + e) row ≡ joined e i row (term_but free i row)
unfolding joined term_but pick
but-joined zero i free row h = rw (add-zero i) refl
but-joined (suc e) i free row h =
    rw (add-suc i e, ne_eqb (i + e) free (λ q. omega arith), but-joined e i free row h) refl

-- ---- no pin can be dropped

dropped-none : (P : Term → Bool) (d : ℕ) (t : Term) → eqb d 0 ≡ true
    → all_of P (dropped (literal d ∷ t)) ≡ all_of (λ q. P (literal d ∷ q)) (dropped t)
unfolding dropped literal
dropped-none P zero t h = all_map P (λ q. none ∷ q) (dropped t)
dropped-none P (suc d) t h = clash (eqb (suc d) 0) h (ne_eqb (suc d) 0 (λ e. omega arith))

dropped_named : (P : Term → Bool) (d : ℕ) (t : Term) → eqb d 0 ≡ false
    → all_of P (dropped (literal d ∷ t)) ≡ (P (none ∷ t) && all_of (λ q. P (literal d ∷ q)) (dropped t))
unfolding dropped literal all_of
dropped_named P zero t h = clash true refl h
dropped_named P (suc zero) t h = ap (λ (b : Bool). P (none ∷ t) && b) (all_map P (λ q. some true ∷ q) (dropped t))
dropped_named P (suc (suc d)) t h = ap (λ (b : Bool). P (none ∷ t) && b) (all_map P (λ q. some false ∷ q) (dropped t))

module _ (n : ℕ) (C : Condition) (row : ℕ) where
  stays : Term → Bool
  stays q = not (implicant n C q)

  loose-digit : (d i : ℕ) → not (loose (wanted_mask n C) n row d i) ≡ (eqb d 0 || stays (term_but i n row))
  unfolding loose stays
  loose-digit d i = rw (implied-implicant n C (term_but i n row)) (go (eqb d 0) (implicant n C (term_but i n row)))
    where
      go : (a b : Bool) → not (not a && b) ≡ (a || not b)
      go true b = refl
      go false b = refl

  fixed_stays : (i e : ℕ) → i + e ≡ n → fixed (wanted_mask n C) n row i ≡ all_of (λ q. stays (joined e i row q)) (dropped (term_of i row))
  unfolding fixed term_of dropped all_of
  fixed_stays zero e h = refl
  fixed_stays (suc i) e h =
      let d = row / 3 ^ i % 3 in
      let t = term_of i row in
      let more : i + suc e ≡ n = omega arith in
      let free : term_but i n row ≡ joined e (suc i) row (none ∷ t) =
      ap (λ (k : ℕ). term_but i k row) (sym h) ∙ but-joined e (suc i) i row (omega arith) ∙ ap (joined e (suc i) row) (but_self i row) in
      let others : all_of (λ q. stays (joined e (suc i) row (literal d ∷ q))) (dropped t) ≡ fixed (wanted_mask n C) n row i =
      all_same (λ q. stays (joined e (suc i) row (literal d ∷ q))) (λ q. stays (joined (suc e) i row q)) (λ q. ap stays (joined-one e i row q)) (dropped t)
      ∙ sym (fixed_stays i (suc e) more) in
      ap (λ (b : Bool). b && fixed (wanted_mask n C) n row i) (loose-digit d i ∙ ap (λ (q : Term). eqb d 0 || stays q) free)
      ∙ by_test (eqb d 0)
      (λ z. rw (z, dropped-none (λ q. stays (joined e (suc i) row q)) d t z) (sym others))
      (λ z. rw (z, dropped_named (λ q. stays (joined e (suc i) row q)) d t z) (ap (λ (b : Bool). stays (joined e (suc i) row (none ∷ t)) && b) (sym others)))

  pub prime_row_lem : prime_row (wanted_mask n C) n row ≡ prime n C (term_of n row)
  unfolding prime_row prime joined stays
  prime_row_lem =
      rw (but-none n n row (omega arith), implied-implicant n C (term_of n row))
      (ap (λ (b : Bool). implicant n C (term_of n row) && b) (fixed_stays n 0 (add-zero n)))

-- ---- rows in descending order

down-append : (a b : ℕ) → down_from (a + b) ≡ map (λ j. a + j) (down_from b) ++ down_from a
unfolding down_from
down-append a zero = rw (add-zero a) refl
down-append a (suc b) = rw (add-suc a b, down-append a b) refl

down-below : (m : ℕ) → Each (λ j. j < m) (down_from m)
unfolding down_from Each
down-below zero = tt
down-below (suc m) = (omega arith, each_map (λ j. j < m) (λ j. j < suc m) (λ j h. omega arith) (down_from m) (down-below m))

three : 0 < 3
three = omega arith

-- The digits below a place do not see what stands there.
low_digit : (c i e j : ℕ) → (c * 3 ^ (suc i + e) + j) / 3 ^ i % 3 ≡ j / 3 ^ i % 3
low_digit c i e j =
    let p = 3 ^ i in
    let positive : 0 < 3 ^ i = one-le-pow i 3 three in
    let parts : c * 3 ^ (suc i + e) + j ≡ j + c * 3 ^ e * 3 * 3 ^ i =
    rw (pow-add 3 (suc i) e, pow-suc 3 i) (turned c (3 ^ i) (3 ^ e) j) in
    rw (parts, add-mul-div_right j (c * 3 ^ e * 3) positive) (add-mul-mod_self_right (j / 3 ^ i) (c * 3 ^ e) 3)
  where
    turned : (c p q j : ℕ) → c * (p * 3 * q) + j ≡ j + c * q * 3 * p
    turned c p q j =
        let inner : p * 3 * q ≡ q * 3 * p = mul_assoc p 3 q ∙ mul_comm p (3 * q) ∙ ap (λ (k : ℕ). k * p) (mul_comm 3 q) in
        let swap : c * (p * 3 * q) ≡ c * q * 3 * p =
        ap (λ (k : ℕ). c * k) inner ∙ sym (mul_assoc c (q * 3) p) ∙ ap (λ (k : ℕ). k * p) (sym (mul_assoc c q 3)) in
        omega arith

low_term : (c n i j : ℕ) → i ≤ n → term_of i (c * 3 ^ n + j) ≡ term_of i j
unfolding term_of
low_term c n zero j h = refl
low_term c n (suc i) j h =
    let whole : suc i + (n - suc i) ≡ n = omega arith in
    rw (ap (λ (k : ℕ). literal ((c * 3 ^ k + j) / 3 ^ i % 3)) (sym whole) ∙ ap literal (low_digit c i (n - suc i) j), low_term c n i j (omega arith)) refl

top_term : (c n j : ℕ) → c < 3 → j < 3 ^ n → term_of (suc n) (c * 3 ^ n + j) ≡ literal c ∷ term_of n j
unfolding term_of
top_term c n j h k =
    let positive : 0 < 3 ^ n = one-le-pow n 3 three in
    let top : (c * 3 ^ n + j) / 3 ^ n % 3 ≡ c = rw (mul-add-div_right positive c j, div-eq_of_lt k, add-zero c) (mod-eq_of_lt h) in
    rw (top, low_term c n n j (omega arith)) refl

module _ (n : ℕ) (below : map (term_of n) (down_from (3 ^ n)) ≡ terms n) where
  terms-block : (c : ℕ) → c < 3 → (shift : ℕ → ℕ) → ((j : ℕ) → shift j ≡ c * 3 ^ n + j)
      → map (term_of (suc n)) (map shift (down_from (3 ^ n))) ≡ map (λ t. literal c ∷ t) (terms n)
  terms-block c h shift e =
      let rows = down_from (3 ^ n) in
      map-map (term_of (suc n)) shift rows
      ∙ map_each (λ j. j < 3 ^ n) (λ j. term_of (suc n) (shift j)) (λ j. literal c ∷ term_of n j) (λ j k. rw (e j) (top_term c n j h k)) rows (down-below (3 ^ n))
      ∙ sym (map-map (λ t. literal c ∷ t) (term_of n) rows)
      ∙ ap (map (λ t. literal c ∷ t)) below

map_self : {A : Type 0} (xs : List A) → xs ≡ map (λ x. x) xs
map_self [] = refl
map_self (x ∷ xs) = ap (λ (l : List _). x ∷ l) (map_self xs)

one_row : map (term_of 0) (down_from (3 ^ 0)) ≡ [] ∷ []
unfolding down_from term_of
one_row = refl

-- Counted down, the rows are the terms in their order.
pub terms-down : (n : ℕ) → map (term_of n) (down_from (3 ^ n)) ≡ terms n
unfolding terms literal
terms-down zero = one_row
terms-down (suc n) =
    let m = 3 ^ n in
    let rows = down_from (3 ^ n) in
    let below = terms-down n in
    let whole : 3 ^ suc n ≡ m + m + m = omega (arith, pow-suc 3 n) in
    let high = map (λ (j : ℕ). m + m + j) rows in
    let middle = map (λ (j : ℕ). m + j) rows in
    ap (λ (k : ℕ). map (term_of (suc n)) (down_from k)) whole
    ∙ ap (map (term_of (suc n))) (down-append (m + m) m ∙ ap (λ (l : List ℕ). high ++ l) (down-append m m))
    ∙ map-append (term_of (suc n)) high (middle ++ rows)
    ∙ rw (map-append (term_of (suc n)) middle rows, terms-block n below 2 (omega arith) (λ j. m + m + j) (λ j. omega arith), terms-block n below 1 (omega arith) (λ j. m + j) (λ j. omega arith))
    (ap (λ (l : List Term). map (λ t. some false ∷ t) (terms n) ++ (map (λ t. some true ∷ t) (terms n) ++ l))
    (ap (map (term_of (suc n))) (map_self rows) ∙ terms-block n below 0 (omega arith) (λ j. j) (λ j. omega arith)))

-- ---- the prime implicants, by their rows

pub prime-rows : {A : Type 0} (f : Term → A) (n : ℕ) (C : Condition) → map (λ row. f (term_of n row)) (prime_rows (wanted_mask n C) n) ≡ map f (primes n C)
unfolding prime_rows primes
prime-rows f n C =
    let rows = down_from (3 ^ n) in
    ap (map (λ row. f (term_of n row))) (keep_same (prime_row (wanted_mask n C) n) (λ row. prime n C (term_of n row)) (λ row. prime_row_lem n C row) rows)
    ∙ sym (map-map f (term_of n) (keep (λ row. prime n C (term_of n row)) rows))
    ∙ ap (map f) (sym (keep_map (prime n C) (term_of n) rows) ∙ ap (keep (prime n C)) (terms-down n))
