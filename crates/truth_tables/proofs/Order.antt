-- The rows of each group stand by descending value, and no row has a bit above its columns.
use Rattle.common_laws.proofs.Base.{Bool, true, false, List, [], ◌∷◌, ◌++◌, map, Option, none, some, ◌≡◌, refl, sym, ap, subst, ◌∙◌, ℕ, zero, suc, ◌+◌, ◌*◌, ◌-◌, ◌^◌, ◌≤◌, ◌<◌}
use Rattle.common_laws.proofs.Base.{pow-suc, arith, length}
use Rattle.reading.specs.Choice.{pick}
use Rattle.reading.specs.Each.{Each}
use Rattle.reading.proofs.Laws.{by_test, each_append, each_map}
use Rattle.library_table.specs.Cells.{Row}
use Rattle.truth_tables.proofs.Lists.{map-append, map-map, map_same}
use Rattle.truth_tables.specs.Entries.{literal_columns, term_columns, observe_column, setting_row, observing_row, setting_group, observing_group, row_number}
use Rattle.truth_tables.specs.Tables.{Setting, digit, place, Term, terms, Condition, keep, prime, primes, gives, put_in, changes, observing, Descends}
use Rattle.truth_tables.specs.Statements.{SettingDescends, ObservingDescends}

-- ---- numbers

each_shift : (P Q : ℕ → Type 0) (c : ℕ) → ((v : ℕ) → P v → Q (c + v)) → (vs : List ℕ) → Each P vs → Each Q (map (λ v. c + v) vs)
unfolding Each
each_shift P Q c f [] e = tt
each_shift P Q c f (v ∷ vs) e = (f v e.0, each_shift P Q c f vs e.1)

descends_shift : (c : ℕ) (vs : List ℕ) → Descends vs → Descends (map (λ v. c + v) vs)
unfolding Descends
descends_shift c [] d = tt
descends_shift c (v ∷ vs) d = (each_shift (λ y. y < v) (λ y. y < c + v) c (λ y h. omega arith) vs d.0, descends_shift c vs d.1)

-- Numbers from b on before numbers below b.
descends-append : (b : ℕ) (xs ys : List ℕ) → Descends xs → Descends ys → Each (λ x. b ≤ x) xs → Each (λ y. y < b) ys → Descends (xs ++ ys)
unfolding Descends Each
descends-append b [] ys d e above below = e
descends-append b (x ∷ xs) ys d e above below = (
  each_append (λ y. y < x) xs ys d.0 (each_map (λ y. y < b) (λ y. y < x) (λ y h. omega (arith, above.0)) ys below),
  descends-append b xs ys d.1 e above.1 below,
)

-- Numbers below w that descend.
pub record Ordered (w : ℕ) (vs : List ℕ) : Type 0 where
  pub descends : Descends vs
  pub below : Each (λ v. v < w) vs

ordered-three : (w : ℕ) (vs : List ℕ) → Ordered w vs
    → Ordered (4 * w) (map (λ v. 2 * w + v) vs ++ (map (λ v. 1 * w + v) vs ++ map (λ v. 0 * w + v) vs))
ordered-three w vs o =
    let d = o.descends in
    let b = o.below in
    record {
      descends =
          descends-append (2 * w) (map (λ v. 2 * w + v) vs) (map (λ v. 1 * w + v) vs ++ map (λ v. 0 * w + v) vs)
          (descends_shift (2 * w) vs d)
          (descends-append (1 * w) (map (λ v. 1 * w + v) vs) (map (λ v. 0 * w + v) vs) (descends_shift (1 * w) vs d) (descends_shift (0 * w) vs d)
          (each_shift (λ v. v < w) (λ v. 1 * w ≤ v) (1 * w) (λ v p. omega arith) vs b)
          (each_shift (λ v. v < w) (λ v. v < 1 * w) (0 * w) (λ v p. omega arith) vs b))
          (each_shift (λ v. v < w) (λ v. 2 * w ≤ v) (2 * w) (λ v p. omega arith) vs b)
          (each_append (λ v. v < 2 * w) (map (λ v. 1 * w + v) vs) (map (λ v. 0 * w + v) vs)
          (each_shift (λ v. v < w) (λ v. v < 2 * w) (1 * w) (λ v p. omega arith) vs b)
          (each_shift (λ v. v < w) (λ v. v < 2 * w) (0 * w) (λ v p. omega arith) vs b));
      below =
          each_append (λ v. v < 4 * w) (map (λ v. 2 * w + v) vs) (map (λ v. 1 * w + v) vs ++ map (λ v. 0 * w + v) vs)
          (each_shift (λ v. v < w) (λ v. v < 4 * w) (2 * w) (λ v p. omega arith) vs b)
          (each_append (λ v. v < 4 * w) (map (λ v. 1 * w + v) vs) (map (λ v. 0 * w + v) vs)
          (each_shift (λ v. v < w) (λ v. v < 4 * w) (1 * w) (λ v p. omega arith) vs b)
          (each_shift (λ v. v < w) (λ v. v < 4 * w) (0 * w) (λ v p. omega arith) vs b));
    }

-- ---- settings and terms as numbers

pub digit-most : (v : Bool) → digit v ≤ 1
unfolding digit
digit-most false = omega arith
digit-most true = omega arith

pub place-below : (s : Setting) → place s < 2 ^ length s
unfolding place digit
place-below [] = omega arith
place-below (false ∷ s) = rw (pow-suc 2 (length s)) (omega (arith, place-below s))
place-below (true ∷ s) = rw (pow-suc 2 (length s)) (omega (arith, place-below s))

pub term_below : (t : Term) → term_columns t < 4 ^ length t
unfolding term_columns literal_columns
term_below [] = omega arith
term_below (none ∷ t) = rw (pow-suc 4 (length t)) (omega (arith, term_below t))
term_below (some true ∷ t) = rw (pow-suc 4 (length t)) (omega (arith, term_below t))
term_below (some false ∷ t) = rw (pow-suc 4 (length t)) (omega (arith, term_below t))

-- ---- terms

each-cons : (n : ℕ) (l : Option Bool) (ts : List Term) → Each (λ t. length t ≡ n) ts → Each (λ t. length t ≡ suc n) (map (λ t. l ∷ t) ts)
unfolding Each
each-cons n l [] e = tt
each-cons n l (t ∷ ts) e = (ap suc e.0, each-cons n l ts e.1)

pub terms-length : (n : ℕ) → Each (λ t. length t ≡ n) (terms n)
unfolding terms Each
terms-length zero = (refl, tt)
terms-length (suc n) =
    each_append (λ t. length t ≡ suc n) (map (λ t. some false ∷ t) (terms n)) (map (λ t. some true ∷ t) (terms n) ++ map (λ t. none ∷ t) (terms n))
    (each-cons n (some false) (terms n) (terms-length n))
    (each_append (λ t. length t ≡ suc n) (map (λ t. some true ∷ t) (terms n)) (map (λ t. none ∷ t) (terms n))
    (each-cons n (some true) (terms n) (terms-length n))
    (each-cons n none (terms n) (terms-length n)))

pub length_putIn : {A : Type 0} (k : ℕ) (a : A) (xs : List A) → length (put_in k a xs) ≡ suc (length xs)
unfolding put_in
length_putIn zero a xs = refl
length_putIn (suc k) a [] = refl
length_putIn (suc k) a (x ∷ xs) = ap suc (length_putIn k a xs)

-- A value of terms that weighs the first pin by w, over a value of the others.
module _ (n w : ℕ) (g h : Term → ℕ) (weighs : (l : Option Bool) (t : Term) → length t ≡ n → h (l ∷ t) ≡ literal_columns l * w + g t) where
  values_of : (l : Option Bool) (ts : List Term) → Each (λ t. length t ≡ n) ts
      → map h (map (λ t. l ∷ t) ts) ≡ map (λ v. literal_columns l * w + v) (map g ts)
  unfolding Each
  values_of l [] e = refl
  values_of l (t ∷ ts) e = rw (weighs l t e.0, values_of l ts e.1) refl

  ordered-more : Ordered w (map g (terms n)) → Ordered (4 * w) (map h (terms (suc n)))
  unfolding terms literal_columns
  ordered-more o =
      let low = map (λ (t : Term). some false ∷ t) (terms n) in
      let high = map (λ (t : Term). some true ∷ t) (terms n) in
      let free = map (λ (t : Term). none ∷ t) (terms n) in
      subst (Ordered (4 * w))
      (sym
      (map-append h low (high ++ free)
      ∙ rw (map-append h high free, values_of (some false) (terms n) (terms-length n), values_of (some true) (terms n) (terms-length n), values_of none (terms n) (terms-length n)) refl))
      (ordered-three w (map g (terms n)) o)

pub ordered-terms : (n : ℕ) → Ordered (4 ^ n) (map term_columns (terms n))
unfolding term_columns terms Descends Each
ordered-terms zero = record { descends = (tt, tt); below = (omega arith, tt) }
ordered-terms (suc n) =
    rw (pow-suc 4 n)
    (subst (λ (w : ℕ). Ordered w (map term_columns (terms (suc n)))) (omega arith)
    (ordered-more n (4 ^ n) term_columns term_columns (λ l t e. rw e refl) (ordered-terms n)))

-- The same with a pin put in that is not named.
pub ordered_putIn : (k n : ℕ) → Ordered (4 ^ suc n) (map (λ t. term_columns (put_in k none t)) (terms n))
unfolding term_columns literal_columns put_in terms Descends Each
ordered_putIn zero n =
    let o = ordered-terms n in
    rw (map_same (λ t. term_columns (none ∷ t)) term_columns (λ t. omega arith) (terms n))
    (record {
      descends = o.descends;
      below = each_map (λ v. v < 4 ^ n) (λ v. v < 4 ^ suc n) (λ v h. omega (arith, pow-suc 4 n)) (map term_columns (terms n)) o.below;
    })
ordered_putIn (suc k) zero = record { descends = (tt, tt); below = (omega arith, tt) }
ordered_putIn (suc k) (suc n) =
    rw (pow-suc 4 (suc n))
    (subst (λ (w : ℕ). Ordered w (map (λ t. term_columns (put_in (suc k) none t)) (terms (suc n)))) (omega arith)
    (ordered-more n (4 ^ suc n) (λ t. term_columns (put_in k none t)) (λ t. term_columns (put_in (suc k) none t))
    (λ l t e. rw (length_putIn k none t, e) refl) (ordered_putIn k n)))

-- ---- those that are kept

each-kept : (P : ℕ → Type 0) (g : Term → ℕ) (p : Term → Bool) (ts : List Term) → Each P (map g ts) → Each P (map g (keep p ts))
unfolding Each keep pick
each-kept P g p [] e = tt
each-kept P g p (t ∷ ts) e =
    by_test (p t) (λ k. rw k (e.0, each-kept P g p ts e.1)) (λ k. rw k (each-kept P g p ts e.1))

descends-kept : (g : Term → ℕ) (p : Term → Bool) (ts : List Term) → Descends (map g ts) → Descends (map g (keep p ts))
unfolding Descends keep pick
descends-kept g p [] d = tt
descends-kept g p (t ∷ ts) d =
    by_test (p t)
    (λ k. rw k (each-kept (λ y. y < g t) g p ts d.0, descends-kept g p ts d.1))
    (λ k. rw k (descends-kept g p ts d.1))

ordered-kept : (w : ℕ) (g : Term → ℕ) (p : Term → Bool) (ts : List Term) → Ordered w (map g ts) → Ordered w (map g (keep p ts))
ordered-kept w g p ts o =
    record { descends = descends-kept g p ts o.descends; below = each-kept (λ v. v < w) g p ts o.below }

pub ordered-primes : (n : ℕ) (C : Condition) → Ordered (4 ^ n) (map term_columns (primes n C))
unfolding primes
ordered-primes n C = ordered-kept (4 ^ n) term_columns (prime n C) (terms n) (ordered-terms n)

pub ordered-observing : (n : ℕ) (bits : List Bool) (k : ℕ) → 1 ≤ n → Ordered (4 ^ n) (map term_columns (observing n bits k))
unfolding observing primes
ordered-observing n bits k h =
    let C = changes bits k in
    let same-pins : suc (n - 1) ≡ n = omega arith in
    rw (map-map term_columns (λ t. put_in k none t) (keep (prime (n - 1) C) (terms (n - 1))))
    (subst (λ (m : ℕ). Ordered (4 ^ m) (map (λ t. term_columns (put_in k none t)) (keep (prime (n - 1) C) (terms (n - 1))))) same-pins
    (ordered-kept (4 ^ suc (n - 1)) (λ t. term_columns (put_in k none t)) (prime (n - 1) C) (terms (n - 1)) (ordered_putIn k (n - 1))))

-- ---- rows

descends-rows : (d c : ℕ) (row : Term → Row) → ((t : Term) → row_number (row t) ≡ 2 * (c + term_columns t) + d) → (ts : List Term)
    → Descends (map term_columns ts) → Descends (map row_number (map row ts))
unfolding Descends Each
descends-rows d c row f [] e = tt
descends-rows d c row f (t ∷ ts) e = (each_row ts e.0, descends-rows d c row f ts e.1)
  where
    each_row : (qs : List Term) → Each (λ y. y < term_columns t) (map term_columns qs) → Each (λ y. y < row_number (row t)) (map row_number (map row qs))
    each_row [] g = tt
    each_row (q ∷ qs) g = (omega (arith, f q, f t, g.0), each_row qs g.1)

-- "Every group's rows stand by descending octal value".
pub setting-descends : SettingDescends
unfolding setting_group setting_row row_number
setting-descends d n bits e =
    descends-rows d 0 (setting_row d) (λ t. omega arith) (primes n (gives bits e)) (ordered-primes n (gives bits e)).descends

pub observing-descends : ObservingDescends
unfolding observing_group observing_row row_number
observing-descends d n bits k h =
    descends-rows d (observe_column n) (observing_row d n) (λ t. refl) (observing n bits k) (ordered-observing n bits k h).descends
