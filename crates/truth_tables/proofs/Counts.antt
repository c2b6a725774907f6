-- A truth table of at most four pins has at most 16 prime implicants, so that each group has at most as many rows as the
-- library reader takes. The prime implicants of n + 1 pins are those of n pins of three conditions, one for what the first pin
-- is named; so those of four pins are counted by nine conditions on two pins, of which a table of 256 cases is computed.
use Rattle.common_laws.proofs.Base.{Bool, true, false, not, ◌&&◌, ◌||◌, and-true, List, [], ◌∷◌, ◌++◌, map, List-as-Memᴰ, List-Memᴰ-head, List-Memᴰ-tail, Option, none, some, ◌≡◌}
use Rattle.common_laws.proofs.Base.{refl, sym, ap, ◌∙◌, ℕ, zero, suc, ◌+◌, ◌*◌, ◌≤◌, arith, leb-true, leb, length, length-append, length-map}
use Rattle.reading.specs.Choice.{pick}
use Rattle.reading.proofs.Laws.{by_test, and_left, and_right}
use Rattle.truth_tables.specs.Tables.{Setting, settings, same, Term, fits, meets, dropped, terms, Condition, all_of, keep, implicant, prime, primes, tables_open}
use Rattle.truth_tables.proofs.Lists.{all_append, all_both, all_same, all_map, keep_append, keep_same, keep_fewer, keep_map}

-- ---- a condition of the pins behind the first

unfoldable pub rest : Option Bool → Condition → Condition
rest none C s = C (false ∷ s) && C (true ∷ s)
rest (some v) C s = C (v ∷ s)

-- One pin decides two conditions.
rest-one : (C : Condition) (l : Option Bool) (m : Bool) (s : Setting)
    → ((not (fits l false && m) || C (false ∷ s)) && (not (fits l true && m) || C (true ∷ s))) ≡ (not m || rest l C s)
unfolding fits same rest
rest-one C none true s = refl
rest-one C none false s = refl
rest-one C (some false) true s = and-true (C (false ∷ s))
rest-one C (some false) false s = refl
rest-one C (some true) m s = refl

module _ (n : ℕ) where
  implicant-rest : (C : Condition) (l : Option Bool) (t : Term) → implicant (suc n) C (l ∷ t) ≡ implicant n (rest l C) t
  unfolding implicant settings meets
  implicant-rest C l t =
      let low : Condition = λ s. not (meets (l ∷ t) (false ∷ s)) || C (false ∷ s) in
      let high : Condition = λ s. not (meets (l ∷ t) (true ∷ s)) || C (true ∷ s) in
      let whole : Condition = λ s. not (meets (l ∷ t) s) || C s in
      all_append whole (map (λ s. false ∷ s) (settings n)) (map (λ s. true ∷ s) (settings n))
      ∙ rw (all_map whole (λ s. false ∷ s) (settings n), all_map whole (λ s. true ∷ s) (settings n))
      (sym (all_both low high (settings n))
      ∙ all_same (λ s. low s && high s) (λ s. not (meets t s) || rest l C s) (λ s. rest-one C l (meets t s) s) (settings n))

  none-implied : (C : Condition) (l : Option Bool) (ts : List Term)
      → all_of (λ q. not (implicant (suc n) C q)) (map (λ q. l ∷ q) ts) ≡ all_of (λ q. not (implicant n (rest l C) q)) ts
  none-implied C l ts =
      all_map (λ q. not (implicant (suc n) C q)) (λ q. l ∷ q) ts
      ∙ all_same (λ q. not (implicant (suc n) C (l ∷ q))) (λ q. not (implicant n (rest l C) q)) (λ q. ap not (implicant-rest C l q)) ts

  -- ---- those that are implicants of no other of some conditions

  unfoldable pub but : Condition → List Condition → Term → Bool
  but C Ds t = prime n C t && all_of (λ D. not (implicant n D t)) Ds

  unfoldable pub count : Condition → List Condition → ℕ
  count C Ds = length (keep (but C Ds) (terms n))

  fewer : (C : Condition) (Ds Es : List Condition)
      → ((t : Term) → all_of (λ D. not (implicant n D t)) Ds ≡ true → all_of (λ D. not (implicant n D t)) Es ≡ true) → count C Ds ≤ count C Es
  unfolding count but
  fewer C Ds Es f =
      keep_fewer (but C Ds) (but C Es)
      (λ t h. rw (and_left (prime n C t) (all_of (λ D. not (implicant n D t)) Ds) h) (f t (and_right (prime n C t) (all_of (λ D. not (implicant n D t)) Ds) h)))
      (terms n)

  pub count-one : (C D E : Condition) → count C (D ∷ E ∷ []) ≤ count C (D ∷ [])
  unfolding all_of
  count-one C D E =
      fewer C (D ∷ E ∷ []) (D ∷ [])
      (λ t h. rw (and_left (not (implicant n D t)) (not (implicant n E t) && true) h) refl)

  pub count-other : (C D E : Condition) → count C (D ∷ E ∷ []) ≤ count C (E ∷ [])
  unfolding all_of
  count-other C D E = fewer C (D ∷ E ∷ []) (E ∷ []) (λ t h. and_right (not (implicant n D t)) (not (implicant n E t) && true) h)

  pub count-primes : (C : Condition) → length (primes n C) ≡ count C []
  unfolding primes count but all_of
  count-primes C = ap length (keep_same (prime n C) (λ t. prime n C t && true) (λ t. right (prime n C t)) (terms n))
    where
      right : (b : Bool) → b ≡ (b && true)
      right true = refl
      right false = refl

  -- No more than there are terms.
  kept-within : {A : Type 0} (p : A → Bool) (xs : List A) → length (keep p xs) ≤ length xs
  unfolding keep pick
  kept-within p [] = omega arith
  kept-within p (x ∷ xs) =
      by_test (p x) (λ e. rw e (omega (arith, kept-within p xs))) (λ e. rw e (omega (arith, kept-within p xs)))

  pub count-within : (C : Condition) (Ds : List Condition) → count C Ds ≤ length (terms n)
  unfolding count
  count-within C Ds = kept-within (but C Ds) (terms n)

-- ---- one pin more

module _ (n : ℕ) where
  -- Of a list of conditions, none is implied by a term with the first pin put in.
  others-rest : (l : Option Bool) (t : Term) (Ds : List Condition)
      → all_of (λ D. not (implicant (suc n) D (l ∷ t))) Ds ≡ all_of (λ D. not (implicant n D t)) (map (rest l) Ds)
  others-rest l t Ds =
      all_same (λ D. not (implicant (suc n) D (l ∷ t))) (λ D. not (implicant n (rest l D) t)) (λ D. ap not (implicant-rest n D l t)) Ds
      ∙ sym (all_map (λ D. not (implicant n D t)) (rest l) Ds)

  but-free : (C : Condition) (Ds : List Condition) (t : Term) → but (suc n) C Ds (none ∷ t) ≡ but n (rest none C) (map (rest none) Ds) t
  unfolding but prime dropped
  but-free C Ds t = rw (implicant-rest n C none t, none-implied n C none (dropped t), others-rest none t Ds) refl

  but_named : (C : Condition) (Ds : List Condition) (v : Bool) (t : Term)
      → but (suc n) C Ds (some v ∷ t) ≡ but n (rest (some v) C) (rest none C ∷ map (rest (some v)) Ds) t
  unfolding but prime dropped all_of
  but_named C Ds v t =
      rw (implicant-rest n C (some v) t, implicant-rest n C none t, none-implied n C (some v) (dropped t), others-rest (some v) t Ds)
      (turned (implicant n (rest (some v) C) t) (not (implicant n (rest none C) t))
      (all_of (λ q. not (implicant n (rest (some v) C) q)) (dropped t)) (all_of (λ D. not (implicant n D t)) (map (rest (some v)) Ds)))
    where
      turned : (a b c d : Bool) → ((a && (b && c)) && d) ≡ ((a && c) && (b && d))
      turned true true c d = refl
      turned true false true d = refl
      turned true false false d = refl
      turned false b c d = refl

  length-kept : (C : Condition) (Ds : List Condition) (l : Option Bool) (q : Term → Bool) → ((t : Term) → but (suc n) C Ds (l ∷ t) ≡ q t)
      → length (keep (but (suc n) C Ds) (map (λ t. l ∷ t) (terms n))) ≡ length (keep q (terms n))
  length-kept C Ds l q f =
      ap length (keep_map (but (suc n) C Ds) (λ t. l ∷ t) (terms n))
      ∙ length-map (keep (λ t. but (suc n) C Ds (l ∷ t)) (terms n)) (λ t. l ∷ t)
      ∙ ap length (keep_same (λ t. but (suc n) C Ds (l ∷ t)) q f (terms n))

  pub count-more : (C : Condition) (Ds : List Condition)
      → count (suc n) C Ds
      ≡ count n (rest (some false) C) (rest none C ∷ map (rest (some false)) Ds)
      + (count n (rest (some true) C) (rest none C ∷ map (rest (some true)) Ds) + count n (rest none C) (map (rest none) Ds))
  unfolding count terms
  count-more C Ds =
      let p = but (suc n) C Ds in
      let low = map (λ (t : Term). some false ∷ t) (terms n) in
      let high = map (λ (t : Term). some true ∷ t) (terms n) in
      let free = map (λ (t : Term). none ∷ t) (terms n) in
      ap length (keep_append p low (high ++ free) ∙ ap (λ (k : List Term). keep p low ++ k) (keep_append p high free))
      ∙ length-append (keep p low) (keep p high ++ keep p free)
      ∙ rw (length-append (keep p high) (keep p free), length-kept C Ds (some false) (but n (rest (some false) C) (rest none C ∷ map (rest (some false)) Ds)) (but_named C Ds false), length-kept C Ds (some true) (but n (rest (some true) C) (rest none C ∷ map (rest (some true)) Ds)) (but_named C Ds true), length-kept C Ds none (but n (rest none C) (map (rest none) Ds)) (but-free C Ds)) refl

-- ---- conditions on two pins, by their four values

four : (a b c d : Bool) → Condition
four a b c d (false ∷ false ∷ s) = a
four a b c d (false ∷ true ∷ s) = b
four a b c d (true ∷ false ∷ s) = c
four a b c d (true ∷ true ∷ s) = d
four a b c d (v ∷ []) = false
four a b c d [] = false

-- Two conditions that agree on the settings of n pins have the same prime implicants.
Agree : ℕ → Condition → Condition → Type 0
Agree n C D = (s : Setting) → List-as-Memᴰ s (settings n) → C s ≡ D s

all-agree : (p q : Condition) (ss : List Setting) → ((s : Setting) → List-as-Memᴰ s ss → p s ≡ q s) → all_of p ss ≡ all_of q ss
unfolding all_of
all-agree p q [] f = refl
all-agree p q (s ∷ ss) f = rw (f s (List-Memᴰ-head refl), all-agree p q ss (λ r m. f r (List-Memᴰ-tail m))) refl

module _ (n : ℕ) where
  implicant-agree : (C D : Condition) → Agree n C D → (t : Term) → implicant n C t ≡ implicant n D t
  unfolding implicant Agree
  implicant-agree C D f t =
      all-agree (λ s. not (meets t s) || C s) (λ s. not (meets t s) || D s) (settings n) (λ s m. rw (f s m) refl)

  prime-agree : (C D : Condition) → Agree n C D → (t : Term) → prime n C t ≡ prime n D t
  unfolding prime
  prime-agree C D f t =
      rw (implicant-agree C D f t)
      (ap (λ (b : Bool). implicant n D t && b)
      (all_same (λ q. not (implicant n C q)) (λ q. not (implicant n D q)) (λ q. ap not (implicant-agree C D f q)) (dropped t)))

  agree-none : (C D : Condition) → Agree n C D → count n C [] ≡ count n D []
  unfolding count but all_of
  agree-none C D f = ap length (keep_same (but n C []) (but n D []) (λ t. rw (prime-agree C D f t) refl) (terms n))

  agree-one : (C D E F : Condition) → Agree n C D → Agree n E F → count n C (E ∷ []) ≡ count n D (F ∷ [])
  unfolding count but all_of
  agree-one C D E F f g =
      ap length (keep_same (but n C (E ∷ [])) (but n D (F ∷ [])) (λ t. rw (prime-agree C D f t, implicant-agree E F g t) refl) (terms n))

by_four : (C : Condition) → Agree 2 C (four (C (false ∷ false ∷ [])) (C (false ∷ true ∷ [])) (C (true ∷ false ∷ [])) (C (true ∷ true ∷ [])))
unfolding Agree settings four
by_four C s (List-Memᴰ-head e) = rw e refl
by_four C s (List-Memᴰ-tail (List-Memᴰ-head e)) = rw e refl
by_four C s (List-Memᴰ-tail (List-Memᴰ-tail (List-Memᴰ-head e))) = rw e refl
by_four C s (List-Memᴰ-tail (List-Memᴰ-tail (List-Memᴰ-tail (List-Memᴰ-head e)))) = rw e refl
by_four C s (List-Memᴰ-tail (List-Memᴰ-tail (List-Memᴰ-tail (List-Memᴰ-tail m)))) = elim m [ ]

-- ---- the computed table

both : (Bool → Bool) → Bool
both p = p false && p true

both-holds : (p : Bool → Bool) → both p ≡ true → (b : Bool) → p b ≡ true
unfolding both
both-holds p h false = and_left (p false) (p true) h
both-holds p h true = and_right (p false) (p true) h

-- Whether three conditions, by their values, lie in each other, and how many prime implicants they have then.
within : (w e p : Bool) → Bool
within w e p = (not w || e) && (not e || p)

few : (w₀ e₀ p₀ w₁ e₁ p₁ w₂ e₂ p₂ w₃ e₃ p₃ : Bool) → Bool
few w₀ e₀ p₀ w₁ e₁ p₁ w₂ e₂ p₂ w₃ e₃ p₃ =
    not (within w₀ e₀ p₀) || (not (within w₁ e₁ p₁) || (not (within w₂ e₂ p₂) || (not (within w₃ e₃ p₃)
    || leb (4 * (count 2 (four p₀ p₁ p₂ p₃) (four e₀ e₁ e₂ e₃ ∷ []) + count 2 (four e₀ e₁ e₂ e₃) (four w₀ w₁ w₂ w₃ ∷ [])) + count 2 (four w₀ w₁ w₂ w₃) []) 16)))

always_few : both (λ w₀. both (λ e₀. both (λ p₀. both (λ w₁. both (λ e₁. both (λ p₁.
    both (λ w₂. both (λ e₂. both (λ p₂. both (λ w₃. both (λ e₃. both (λ p₃. few w₀ e₀ p₀ w₁ e₁ p₁ w₂ e₂ p₂ w₃ e₃ p₃))))))))))))
    ≡ true
unfolding both few within four count but tables_open
always_few = refl

lies : (w e p : Bool) → (w ≡ true → e ≡ true) → (e ≡ true → p ≡ true) → within w e p ≡ true
unfolding within
lies w e p f g =
    by_test w
    (λ a. rw (a, f a, g (f a)) refl)
    (λ a. by_test e (λ b. rw (a, b, g b) refl) (λ b. rw (a, b) refl))

-- Three conditions on two pins, each within the next.
flag : (P E W : Condition) → ((s : Setting) → W s ≡ true → E s ≡ true) → ((s : Setting) → E s ≡ true → P s ≡ true)
    → 4 * (count 2 P (E ∷ []) + count 2 E (W ∷ [])) + count 2 W [] ≤ 16
unfolding few
flag P E W f g =
    let s₀ = false ∷ false ∷ [] in
    let s₁ = false ∷ true ∷ [] in
    let s₂ = true ∷ false ∷ [] in
    let s₃ = true ∷ true ∷ [] in
    let h₀ = both-holds _ (both-holds _ (both-holds _ always_few (W s₀)) (E s₀)) (P s₀) in
    let h₁ = both-holds _ (both-holds _ (both-holds _ h₀ (W s₁)) (E s₁)) (P s₁) in
    let h₂ = both-holds _ (both-holds _ (both-holds _ h₁ (W s₂)) (E s₂)) (P s₂) in
    let h₃ = both-holds _ (both-holds _ (both-holds _ h₂ (W s₃)) (E s₃)) (P s₃) in
    rw (agree-one 2 P _ E _ (by_four P) (by_four E), agree-one 2 E _ W _ (by_four E) (by_four W), agree-none 2 W _ (by_four W))
    (leb-true _ 16
    (rw (lies _ _ _ (f s₀) (g s₀), lies _ _ _ (f s₁) (g s₁), lies _ _ _ (f s₂) (g s₂), lies _ _ _ (f s₃) (g s₃)) at h₃))

-- ---- four pins: each flag is a term of the first two pins, one with one pin of them less, and the one with none

module _ (f : Condition) where
  P : Bool → Bool → Condition
  P a b = rest (some b) (rest (some a) f)

  -- The second pin, or the first, not named.
  E : Bool → Condition
  E a = rest none (rest (some a) f)

  F : Bool → Condition
  F b = rest (some b) (rest none f)

  W : Condition
  W = rest none (rest none f)

  E_in : (a b : Bool) (s : Setting) → E a s ≡ true → P a b s ≡ true
  unfolding P E rest
  E_in a false s h = and_left (f (a ∷ false ∷ s)) (f (a ∷ true ∷ s)) h
  E_in a true s h = and_right (f (a ∷ false ∷ s)) (f (a ∷ true ∷ s)) h

  F_in : (a b : Bool) (s : Setting) → F b s ≡ true → P a b s ≡ true
  unfolding P F rest
  F_in false b s h = and_left (f (false ∷ b ∷ s)) (f (true ∷ b ∷ s)) h
  F_in true b s h = and_right (f (false ∷ b ∷ s)) (f (true ∷ b ∷ s)) h

  W_in : (b : Bool) (s : Setting) → W s ≡ true → F b s ≡ true
  unfolding F W rest
  W_in false s h = and_left (F false s) (F true s) h
  W_in true s h = and_right (F false s) (F true s) h

  W_in_E : (a : Bool) (s : Setting) → W s ≡ true → E a s ≡ true
  unfolding P E rest
  W_in_E a s h = rw (F_in a false s (W_in false s h), F_in a true s (W_in true s h)) refl

  flag_E : (a b : Bool) → 4 * (count 2 (P a b) (E a ∷ []) + count 2 (E a) (W ∷ [])) + count 2 W [] ≤ 16
  flag_E a b = flag (P a b) (E a) W (W_in_E a) (E_in a b)

  flag_F : (a b : Bool) → 4 * (count 2 (P a b) (F b ∷ []) + count 2 (F b) (W ∷ [])) + count 2 W [] ≤ 16
  flag_F a b = flag (P a b) (F b) W (W_in b) (F_in a b)

  first_named : (a : Bool) → count 3 (rest (some a) f) (rest none f ∷ [])
      ≡ count 2 (P a false) (E a ∷ F false ∷ []) + (count 2 (P a true) (E a ∷ F true ∷ []) + count 2 (E a) (W ∷ []))
  unfolding P E F W
  first_named a = count-more 2 (rest (some a) f) (rest none f ∷ [])

  first_free : count 3 (rest none f) [] ≡ count 2 (F false) (W ∷ []) + (count 2 (F true) (W ∷ []) + count 2 W [])
  unfolding F W
  first_free = count-more 2 (rest none f) []

  on_E : (a b : Bool) → 4 * (count 2 (P a b) (E a ∷ F b ∷ []) + count 2 (E a) (W ∷ [])) + count 2 W [] ≤ 16
  on_E a b = omega (arith, flag_E a b, count-one 2 (P a b) (E a) (F b))

  on_F : (a b : Bool) → 4 * (count 2 (P a b) (E a ∷ F b ∷ []) + count 2 (F b) (W ∷ [])) + count 2 W [] ≤ 16
  on_F a b = omega (arith, flag_F a b, count-other 2 (P a b) (E a) (F b))

  -- Of the eight flags each counts a term of both pins by half, one of one pin by half, and what is left by an eighth.
  four-pins : count 4 f [] ≤ 16
  four-pins =
      let k : Bool → Bool → ℕ = λ a b. count 2 (P a b) (E a ∷ F b ∷ []) in
      let e : Bool → ℕ = λ a. count 2 (E a) (W ∷ []) in
      let g : Bool → ℕ = λ b. count 2 (F b) (W ∷ []) in
      let w : ℕ = count 2 W [] in
      rw (count-more 3 f [], first_named false, first_named true, first_free)
      (halves (k false false) (k false true) (k true false) (k true true) (e false) (e true) (g false) (g true) w
      (flags (k false false) (k false true) (k true false) (k true true) (e false) (e true) w (on_E false false) (on_E false true) (on_E true false) (on_E true true))
      (flags (k false false) (k true false) (k false true) (k true true) (g false) (g true) w (on_F false false) (on_F true false) (on_F false true) (on_F true true)))
    where
      flags : (k l m n e g w : ℕ) → 4 * (k + e) + w ≤ 16 → 4 * (l + e) + w ≤ 16 → 4 * (m + g) + w ≤ 16 → 4 * (n + g) + w ≤ 16
          → k + l + m + n + 2 * e + 2 * g + w ≤ 16
      flags k l m n e g w p q r s = omega arith

      halves : (k l m n e g i j w : ℕ) → k + l + m + n + 2 * e + 2 * g + w ≤ 16 → k + m + l + n + 2 * i + 2 * j + w ≤ 16
          → (k + (l + e)) + ((m + (n + g)) + (i + (j + w))) ≤ 16
      halves k l m n e g i j w p q = omega arith

-- ---- fewer pins

two-few : both (λ a. both (λ b. both (λ c. both (λ d. leb (count 2 (four a b c d) []) 2)))) ≡ true
unfolding both four count but tables_open
two-few = refl

two-pins : (C : Condition) (Ds : List Condition) → count 2 C Ds ≤ 2
unfolding all_of
two-pins C Ds =
    let a = C (false ∷ false ∷ []) in
    let b = C (false ∷ true ∷ []) in
    let c = C (true ∷ false ∷ []) in
    let d = C (true ∷ true ∷ []) in
    let h : leb (count 2 (four a b c d) []) 2 ≡ true =
    both-holds _ (both-holds _ (both-holds _ (both-holds _ two-few a) b) c) d in
    omega (
      arith,
      fewer 2 C Ds [] (λ t e. refl),
      agree-none 2 C (four a b c d) (by_four C),
      leb-true (count 2 (four a b c d) []) 2 h,
    )

three-pins : (C : Condition) → count 3 C [] ≤ 6
three-pins C =
    omega (
      arith,
      count-more 2 C [],
      two-pins (rest (some false) C) (rest none C ∷ []),
      two-pins (rest (some true) C) (rest none C ∷ []),
      two-pins (rest none C) [],
    )

-- A condition on at most four pins has at most 16 prime implicants.
pub sixteen : (n : ℕ) (C : Condition) → n ≤ 4 → length (primes n C) ≤ 16
unfolding terms
sixteen zero C h = omega (arith, count-primes 0 C, count-within 0 C [])
sixteen (suc zero) C h = omega (arith, count-primes 1 C, count-within 1 C [])
sixteen (suc (suc zero)) C h = omega (arith, count-primes 2 C, two-pins C [])
sixteen (suc (suc (suc zero))) C h = omega (arith, count-primes 3 C, three-pins C)
sixteen (suc (suc (suc (suc zero)))) C h = omega (arith, count-primes 4 C, four-pins C)
sixteen (suc (suc (suc (suc (suc n))))) C h = absurd (omega arith)
