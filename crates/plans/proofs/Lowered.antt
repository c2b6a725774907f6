-- Sums and visits against tables that lie under one another: lower numbers have lower sums, and a visit that keeps the
-- lesser only lowers.
use Rattle.common_laws.proofs.Base.{List, [], ◌∷◌, List-as-Memᴰ, List-Memᴰ-head, List-Memᴰ-tail, ◌⊎◌, inl, inr, ◌≡◌, refl, sym, ◌∙◌, ap, ℕ, zero, suc, ◌≤◌, ◌<◌, dec_le, le_refl}
use Rattle.common_laws.proofs.Base.{le_trans, le_of_eq, arith, length, set, set_out, set-get_or}
use Rattle.cost.specs.Cost.{never, capped, lesser, counted}
use Rattle.cost.proofs.Laws.{sum_bound, sum_mono}
use Rattle.plans.specs.System.{Way, Visit}
use Rattle.plans.specs.Sweep.{
  at,
  sums,
  way,
  least,
  lower,
  sweep,
  sweeps,
  Rests,
  Inside,
  Above,
}
use Rattle.plans.proofs.Numbers.{
  at_set_same,
  Under,
  under_refl,
  under_trans,
  under_antisym,
  under_set,
}

-- ---- the lesser of two costs

pub lesser-left : (a b : ℕ) → lesser a b ≤ a
unfolding lesser counted
lesser-left a b = omega arith

pub lesser-right : (a b : ℕ) → lesser a b ≤ b
unfolding lesser counted
lesser-right a b = omega arith

pub lesser-bound : (a b : ℕ) → lesser a b ≤ never
unfolding lesser counted
lesser-bound a b = omega arith

pub lesser-most : (a b c : ℕ) → c ≤ never → c ≤ a → c ≤ b → c ≤ lesser a b
unfolding lesser counted
lesser-most a b c h k l = omega arith

pub lesser_case : (a b : ℕ) → a ≤ never → b ≤ never → (lesser a b ≡ a) ⊎ (lesser a b ≡ b)
unfolding lesser counted
lesser_case a b h k = split (dec_le a b)
  where
    split : Dec (a ≤ b) → (lesser a b ≡ a) ⊎ (lesser a b ≡ b)
    split (yes l) = inl (omega arith)
    split (no l) = inr (omega arith)

-- ---- sums

pub way-bound : (xs : List ℕ) (w : Way) → way xs w ≤ never
unfolding way
way-bound xs w = sum_bound (capped w.depth) (sums xs w.needs)

pub least-bound : (xs : List ℕ) (ws : List Way) → least xs ws ≤ never
unfolding least
least-bound xs [] = omega arith
least-bound xs (w ∷ ws) = lesser-bound (way xs w) (least xs ws)

-- The least is no more than any of them, and is one of them where it is not never.
pub least-below : (xs : List ℕ) (ws : List Way) (w : Way) → List-as-Memᴰ w ws → least xs ws ≤ way xs w
unfolding least
least-below xs [] w i = elim i [ ]
least-below xs (u ∷ ws) w (List-Memᴰ-head e) = rw e (lesser-left (way xs u) (least xs ws))
least-below xs (u ∷ ws) w (List-Memᴰ-tail m) =
    le_trans (lesser-right (way xs u) (least xs ws)) (least-below xs ws w m)

abbrev pub LeastOf : List ℕ → List Way → Type 0
LeastOf xs ws = (least xs ws ≡ never) ⊎ ((w : Way) × List-as-Memᴰ w ws × (least xs ws ≡ way xs w))

pub least-of : (xs : List ℕ) (ws : List Way) → LeastOf xs ws
unfolding least
least-of xs [] = inl refl
least-of xs (w ∷ ws) =
    pick (least-of xs ws) (lesser_case (way xs w) (least xs ws) (way-bound xs w) (least-bound xs ws))
  where
    pick : LeastOf xs ws → (least xs (w ∷ ws) ≡ way xs w) ⊎ (least xs (w ∷ ws) ≡ least xs ws) → LeastOf xs (w ∷ ws)
    pick r (inl e) = inr (w, List-Memᴰ-head refl, e)
    pick (inl f) (inr e) = inl (e ∙ f)
    pick (inr t) (inr e) = inr (t.0, List-Memᴰ-tail t.1, e ∙ t.2)

pub sums_mono : (ys xs ns : List ℕ) → ((n : ℕ) → List-as-Memᴰ n ns → at ys n ≤ at xs n) → sums ys ns ≤ sums xs ns
unfolding sums
sums_mono ys xs [] h = le_refl 0
sums_mono ys xs (n ∷ ns) h =
    sum_mono (at ys n) (sums ys ns) (at xs n) (sums xs ns) (h n (List-Memᴰ-head refl))
    (sums_mono ys xs ns (λ m i. h m (List-Memᴰ-tail i)))

pub sums_same : (ys xs ns : List ℕ) → ((n : ℕ) → List-as-Memᴰ n ns → at ys n ≡ at xs n) → sums ys ns ≡ sums xs ns
unfolding sums
sums_same ys xs [] h = refl
sums_same ys xs (n ∷ ns) h = rw (h n (List-Memᴰ-head refl), sums_same ys xs ns (λ m i. h m (List-Memᴰ-tail i)))

pub way_mono : (ys xs : List ℕ) (w : Way) → ((n : ℕ) → at ys n ≤ at xs n) → way ys w ≤ way xs w
unfolding way
way_mono ys xs w h =
    sum_mono (capped w.depth) (sums ys w.needs) (capped w.depth) (sums xs w.needs) (le_refl (capped w.depth))
    (sums_mono ys xs w.needs (λ n i. h n))

pub way_same : (ys xs : List ℕ) (w : Way) → ((n : ℕ) → List-as-Memᴰ n w.needs → at ys n ≡ at xs n) → way ys w ≡ way xs w
unfolding way
way_same ys xs w h = rw (sums_same ys xs w.needs h)

pub least_mono : (ys xs : List ℕ) (ws : List Way) → ((n : ℕ) → at ys n ≤ at xs n) → least ys ws ≤ least xs ws
unfolding least
least_mono ys xs [] h = le_refl (least xs [])
least_mono ys xs (w ∷ ws) h =
    lesser-most (way xs w) (least xs ws) (least ys (w ∷ ws)) (lesser-bound (way ys w) (least ys ws))
    (le_trans (lesser-left (way ys w) (least ys ws)) (way_mono ys xs w h))
    (le_trans (lesser-right (way ys w) (least ys ws)) (least_mono ys xs ws h))

-- Numbers of never are above every sum.
pub never-above : (vs : List Visit) (xs : List ℕ) → ((v : Visit) → List-as-Memᴰ v vs → never ≤ at xs v.node) → Above vs xs
never-above vs xs h v m = le_trans (least-bound xs v.ways) (h v m)

-- ---- a visit that keeps the lesser

pub lower_under : (xs : List ℕ) (v : Visit) → Under (lower xs v) xs
unfolding lower
lower_under xs v =
    under_set xs v.node (lesser (at xs v.node) (least xs v.ways)) (lesser-left (at xs v.node) (least xs v.ways))

pub lower-here : (xs : List ℕ) (v : Visit) → v.node < length xs → at (lower xs v) v.node ≡ lesser (at xs v.node) (least xs v.ways)
unfolding lower
lower-here xs v h = at_set_same xs v.node (lesser (at xs v.node) (least xs v.ways)) h

pub lower-past : (xs : List ℕ) (v : Visit) → length xs ≤ v.node → lower xs v ≡ xs
unfolding lower
lower-past xs v h = set_out xs v.node (lesser (at xs v.node) (least xs v.ways)) h

-- A visit whose least way sum is no lower than the number changes nothing.
pub lower-still : (xs : List ℕ) (v : Visit) → at xs v.node ≤ never → at xs v.node ≤ least xs v.ways → lower xs v ≡ xs
unfolding lower lesser counted at
lower-still xs v b h =
    let e : lesser (at xs v.node) (least xs v.ways) ≡ at xs v.node = omega arith in
    ap (set xs v.node) e ∙ set-get_or xs v.node never

-- ---- sweeps that keep the lesser

pub sweep_under : (vs : List Visit) (xs : List ℕ) → Under (sweep lower vs xs) xs
unfolding sweep
sweep_under [] xs = under_refl xs
sweep_under (v ∷ vs) xs = under_trans (sweep_under vs (lower xs v)) (lower_under xs v)

pub sweeps_under : (vs : List Visit) (k : ℕ) (xs : List ℕ) → Under (sweeps lower vs k xs) xs
unfolding sweeps
sweeps_under vs zero xs = under_refl xs
sweeps_under vs (suc k) xs = under_trans (sweeps_under vs k (sweep lower vs xs)) (sweep_under vs xs)

-- Where a sweep changes nothing, no visit of it changes anything.
pub rests-head : (v : Visit) (vs : List Visit) (xs : List ℕ) → Rests lower (v ∷ vs) xs → lower xs v ≡ xs
unfolding sweep
rests-head v vs xs e =
    under_antisym (lower_under xs v) (rw e at (sweep_under vs (lower xs v)))

pub rests-tail : (v : Visit) (vs : List Visit) (xs : List ℕ) → Rests lower (v ∷ vs) xs → Rests lower vs xs
unfolding sweep
rests-tail v vs xs e = rw (rests-head v vs xs e) at e

-- .. and each visited number is at most its least way sum.
pub rests-least : (vs : List Visit) (xs : List ℕ) → Inside vs xs → Rests lower vs xs → (v : Visit) → List-as-Memᴰ v vs → at xs v.node ≤ least xs v.ways
rests-least [] xs h e v i = elim i [ ]
rests-least (u ∷ vs) xs h e v (List-Memᴰ-head q) =
    rw q (le_trans (le_of_eq (ap (λ (zs : List ℕ). at zs u.node) (sym (rests-head u vs xs e)) ∙ lower-here xs u (h u (List-Memᴰ-head refl))))
    (lesser-right (at xs u.node) (least xs u.ways)))
rests-least (u ∷ vs) xs h e v (List-Memᴰ-tail m) =
    rests-least vs xs (λ z i. h z (List-Memᴰ-tail i)) (rests-tail u vs xs e) v m
