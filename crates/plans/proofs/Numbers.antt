-- The table as numbers by node: what a store changes, when two tables are the same, and when one lies under another.
use Rattle.common_laws.proofs.Base.{true, List, [], ◌∷◌, ◌≢◌, ◌≡◌, refl, ◌∙◌, ap₂, ℕ, zero, suc, ◌≤◌, ◌<◌, ℕ_discrete, dec_lt, le_refl, le_trans, le_antisymm, arith, eqb-true}
use Rattle.common_laws.proofs.Base.{eq-eqb, eqb, length, get_or, set, length-set, get_or-set_same, get_or-set_other, set_out, ext_get_or}
use Rattle.reading.proofs.Laws.{and_left, and_right}
use Rattle.cost.specs.Cost.{never}
use Rattle.plans.specs.Sweep.{at, same}
pub use Rattle.plans.specs.Continued.{Under}

pub at_set_same : (xs : List ℕ) (n a : ℕ) → n < length xs → at (set xs n a) n ≡ a
unfolding at
at_set_same xs n a h = get_or-set_same xs n a never h

pub at_set_other : (xs : List ℕ) (n a m : ℕ) → m ≢ n → at (set xs n a) m ≡ at xs m
unfolding at
at_set_other xs n a m h = get_or-set_other xs n m a never h

-- Within the table the number is what stands there, whatever is read past the end.
pub at_getD : (xs : List ℕ) (n d : ℕ) → n < length xs → at xs n ≡ get_or xs n d
unfolding at
at_getD [] n d h = absurd (omega arith)
at_getD (x ∷ xs) zero d h = refl
at_getD (x ∷ xs) (suc n) d h = at_getD xs n d (omega arith)

-- ---- the same table

pub same_true : (xs ys : List ℕ) → same xs ys ≡ true → xs ≡ ys
unfolding same
same_true [] [] e = refl
same_true [] (y ∷ ys) e = cc
same_true (x ∷ xs) [] e = cc
same_true (x ∷ xs) (y ∷ ys) e =
    ap₂ (λ (a : ℕ) (l : List ℕ). a ∷ l) (eqb-true x y (and_left (eqb x y) (same xs ys) e))
    (same_true xs ys (and_right (eqb x y) (same xs ys) e))

pub same_refl : (xs : List ℕ) → same xs xs ≡ true
unfolding same
same_refl [] = refl
same_refl (x ∷ xs) = rw (eq-eqb x x refl) (same_refl xs)

-- ---- one table under another

pub under_refl : (xs : List ℕ) → Under xs xs
under_refl xs = record { long = refl; below = λ n. le_refl (at xs n) }

pub under_trans : {xs ys zs : List ℕ} → Under zs ys → Under ys xs → Under zs xs
under_trans h k = record { long = h.long ∙ k.long; below = λ n. le_trans (h.below n) (k.below n) }

pub at_ext : (xs ys : List ℕ) → length xs ≡ length ys → ((n : ℕ) → at xs n ≡ at ys n) → xs ≡ ys
unfolding at
at_ext xs ys e h = ext_get_or never xs ys e (λ n b. h n)

pub under_antisym : {xs ys : List ℕ} → Under ys xs → Under xs ys → ys ≡ xs
under_antisym {xs} {ys} h k = at_ext ys xs h.long (λ n. le_antisymm (h.below n) (k.below n))

-- A store that is no higher than what stood there.
pub under_set : (xs : List ℕ) (n a : ℕ) → a ≤ at xs n → Under (set xs n a) xs
under_set xs n a h = record { long = length-set xs n a; below = λ m. place m (ℕ_discrete m n) (dec_lt n (length xs)) }
  where
    place : (m : ℕ) → Dec (m ≡ n) → Dec (n < length xs) → at (set xs n a) m ≤ at xs m
    place m (yes e) (yes b) = rw (e, at_set_same xs n a b) h
    place m (yes e) (no b) = rw (set_out xs n a (omega arith)) (le_refl (at xs m))
    place m (no e) d = rw (at_set_other xs n a m e) (le_refl (at xs m))
