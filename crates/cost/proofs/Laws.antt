-- The laws of costs that other crates cite. Each holds for every number, also for one above never, unless it says otherwise.
use Rattle.common_laws.proofs.Base.{or-true, ◌||◌, ◌⊎◌, inl, inr, ◌≡◌, sym, ◌∙◌, ℕ, ◌+◌, ◌≤◌, ◌<◌, min, max, dec_le, arith, leb, le-leb, lt-leb, lt-ltb, le-ltb, ne_eqb}
use Rattle.reading.specs.Choice.{pick}
use Rattle.cost.specs.declared.Kind.{Kind}
use Rattle.cost.specs.declared.Kind.TheVariants.{Combinational, Sequential}
use Rattle.cost.specs.Kind.{kind_index}
use Rattle.cost.specs.Cost.{most, over, never, is_never, is_over, ◌⊕◌, capped}

-- ---- document 01's three cases of the sum

-- "A sum is never if a term is never"
pub sum-never : (a b : ℕ) → (never ≤ a) ⊎ (never ≤ b) → a ⊕ b ≡ never
unfolding ◌⊕◌ is_never pick
sum-never a b (inl h) = rw (le-leb never a h)
sum-never a b (inr h) = rw (le-leb never b h, or-true (leb never a))

-- "otherwise over if .. the exact sum exceeds 999,999,999"
past-most : (a b : ℕ) → a < never → b < never → most < a + b → a ⊕ b ≡ over
unfolding ◌⊕◌ is_never pick
past-most a b ha hb h =
    rw (lt-leb never a ha, lt-leb never b hb, lt-ltb most (a + b) h, or-true (is_over a || is_over b))

-- "otherwise over if a term is over or the exact sum exceeds 999,999,999"
pub sum_over : (a b : ℕ) → a < never → b < never → (a ≡ over) ⊎ ((b ≡ over) ⊎ (most < a + b)) → a ⊕ b ≡ over
sum_over a b ha hb (inl h) = past-most a b ha hb (omega arith)
sum_over a b ha hb (inr (inl h)) = past-most a b ha hb (omega arith)
sum_over a b ha hb (inr (inr h)) = past-most a b ha hb h

-- "otherwise exact"
pub sum-exact : (a b : ℕ) → a + b ≤ most → a ⊕ b ≡ a + b
unfolding ◌⊕◌ is_never is_over pick
sum-exact a b h =
    let na : a < never = omega arith in
    let nb : b < never = omega arith in
    let oa : a ≡ over → ⊥ = omega arith in
    let ob : b ≡ over → ⊥ = omega arith in
    rw (lt-leb never a na, lt-leb never b nb, ne_eqb a over oa, ne_eqb b over ob, le-ltb most (a + b) h)

-- ---- the sum by `min` and `max`, which `omega` reads

by_cases : (a b : ℕ) → Dec (never ≤ a) → Dec (never ≤ b) → Dec (a + b ≤ most) → a ⊕ b ≡ max (max (min a never) (min b never)) (min (a + b) over)
by_cases a b (yes h) q r = sum-never a b (inl h) ∙ omega arith
by_cases a b (no g) (yes h) r = sum-never a b (inr h) ∙ omega arith
by_cases a b (no g) (no h) (yes k) = sum-exact a b k ∙ omega arith
by_cases a b (no g) (no h) (no k) = past-most a b (omega arith) (omega arith) (omega arith) ∙ omega arith

pub sum-form : (a b : ℕ) → a ⊕ b ≡ max (max (min a never) (min b never)) (min (a + b) over)
sum-form a b = by_cases a b (dec_le never a) (dec_le never b) (dec_le (a + b) most)

pub sum_bound : (a b : ℕ) → a ⊕ b ≤ never
sum_bound a b = rw (sum-form a b) (omega arith)

-- Where no term is never, the sum is the exact sum, capped.
pub sum_below : (a b : ℕ) → a < never → b < never → a ⊕ b ≡ min (a + b) over
sum_below a b h k = rw (sum-form a b) (omega arith)

-- A sum that is a figure is exact.
pub sum-small : (a b : ℕ) → a ⊕ b ≤ most → a ⊕ b ≡ a + b
sum-small a b h = rw (sum-form a b) (omega (arith, rw (sum-form a b) at h))

-- A sum is at least each term.
pub sum_left : (a b : ℕ) → min a never ≤ a ⊕ b
sum_left a b = rw (sum-form a b) (omega arith)

pub sum-right : (a b : ℕ) → min b never ≤ a ⊕ b
sum-right a b = rw (sum-form a b) (omega arith)

-- monotony
mono_cases : (a b c d : ℕ) → a ≤ c → b ≤ d → Dec (never ≤ c) → Dec (never ≤ d) → a ⊕ b ≤ c ⊕ d
mono_cases a b c d h k (yes p) q = rw (sum-never c d (inl p)) (sum_bound a b)
mono_cases a b c d h k (no p) (yes q) = rw (sum-never c d (inr q)) (sum_bound a b)
mono_cases a b c d h k (no p) (no q) =
    rw (sum_below a b (omega arith) (omega arith), sum_below c d (omega arith) (omega arith)) (omega arith)

pub sum_mono : (a b c d : ℕ) → a ≤ c → b ≤ d → a ⊕ b ≤ c ⊕ d
sum_mono a b c d h k = mono_cases a b c d h k (dec_le never c) (dec_le never d)

-- Capping an exact sum gives the capped sum of the capped terms.
pub capped-sum : (a b : ℕ) → capped (a + b) ≡ capped a ⊕ capped b
unfolding capped
capped-sum a b = sym (sum_below (min a over) (min b over) (omega arith) (omega arith) ∙ omega arith)

-- ---- kinds

pub kind_most : (kind : Kind) → kind_index kind ≤ 1
kind_most Combinational = omega arith
kind_most Sequential = omega arith
