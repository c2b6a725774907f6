-- Lists that stand in two tables, compared place by place; and rows looked for one behind the other.
use Rattle.common_laws.proofs.Base.{Bool, true, false, ◌&&◌, and_assoc, and-false, List, [], ◌∷◌, ◌++◌, ◌≡◌, refl, sym, ap, ◌∙◌, ℕ, zero, suc, ◌+◌, ◌*◌, ◌-◌, ◌≤◌, ◌<◌, add-zero}
use Rattle.common_laws.proofs.Base.{add-suc, suc-add, add-one, arith, length, get_or}
use Rattle.std.specs.List.{list_all, range_with_len}
use Rattle.sizes.specs.Sizes as Size
use Rattle.reading.specs.Choice.{pick}
use Rattle.table.specs.Blocks.{fitted}
use Rattle.library_table.specs.Cells.{Row}
use Rattle.calculation.specs.Growth.{same_row, keeps, pairwise}
use Rattle.library_growth.specs.Held.{listed, row_at}

-- A list whose elements stand at the places.
pub listed_is : {A : Type 0} (f : ℕ → A) (d : A) (first : ℕ) (xs : List A) → ((i : ℕ) → i < length xs → f (first + i) ≡ get_or xs i d)
    → listed f first (length xs) ≡ xs
unfolding listed
listed_is f d first [] h = refl
listed_is f d first (x ∷ xs) h =
    let here : f first ≡ x = ap f (sym (add-zero first)) ∙ h 0 (omega arith) in
    let next : (i : ℕ) → i < length xs → f (suc first + i) ≡ get_or xs i d = λ i l. rw (suc-add first i, ← add-suc first i) (h (suc i) (omega arith)) in
    rw (here, listed_is f d (suc first) xs next)

-- ---- one with its like

-- Compared at each place.
pub listed-all : {A : Type 0} (p : A → A → Bool) (f g : ℕ → A) (first count : ℕ)
    → list_all (λ i. p (f i) (g i)) (range_with_len first count) ≡ pairwise p (listed f first count) (listed g first count)
unfolding listed pairwise
listed-all p f g first zero = refl
listed-all p f g first (suc count) = rw (add-one first, listed-all p f g (suc first) count)

module _ {A : Type 0} (p : A → A → Bool) (f g : ℕ → A) where
  -- What is left to compare from place i on.
  abbrev pub left : (i end : ℕ) → Bool
  left i end = pairwise p (listed f i (end - i)) (listed g i (end - i))

  pub left-all : (end : ℕ) → pairwise p (listed f 0 end) (listed g 0 end) ≡ left 0 end
  left-all end = let e : end - 0 ≡ end = omega arith in rw e

  module _ (i end : ℕ) where
    pub left-on : i < end → p (f i) (g i) ≡ true → left i end ≡ left (i + 1) end
    unfolding listed pairwise
    left-on h t = let e : end - i ≡ suc (end - suc i) = omega arith in rw (add-one i, e, t)

    pub left_other : i < end → p (f i) (g i) ≡ false → left i end ≡ false
    unfolding listed pairwise
    left_other h t = let e : end - i ≡ suc (end - suc i) = omega arith in rw (e, t)

    pub left-none : end ≤ i → left i end ≡ true
    unfolding listed pairwise
    left-none h = let e : end - i ≡ 0 = omega arith in rw e

module _ {A : Type 0} (p : A → A → Bool) where
  pub pairwise-length : (xs ys : List A) → (length xs ≡ length ys → ⊥) → pairwise p xs ys ≡ false
  unfolding pairwise
  pairwise-length [] [] h = absurd (h refl)
  pairwise-length [] (y ∷ ys) h = refl
  pairwise-length (x ∷ xs) [] h = refl
  pairwise-length (x ∷ xs) (y ∷ ys) h = rw (pairwise-length xs ys (λ e. h (ap suc e))) (and-false (p x y))

  pub pairwise_join : (xs ys us vs : List A) → length xs ≡ length ys → pairwise p (xs ++ us) (ys ++ vs) ≡ (pairwise p xs ys && pairwise p us vs)
  unfolding pairwise
  pairwise_join [] [] us vs e = refl
  pairwise_join [] (y ∷ ys) us vs e = absurd (omega arith)
  pairwise_join (x ∷ xs) [] us vs e = absurd (omega arith)
  pairwise_join (x ∷ xs) (y ∷ ys) us vs e =
      ap (λ (b : Bool). p x y && b) (pairwise_join xs ys us vs (omega arith)) ∙ sym (and_assoc (p x y) (pairwise p xs ys) (pairwise p us vs))

  -- Elements that both are filled up with.
  pub pairwise-fitted : (d : A) → p d d ≡ true → (n : ℕ) (xs ys : List A) → length xs ≡ length ys → length xs ≤ n
      → pairwise p (fitted d n xs) (fitted d n ys) ≡ pairwise p xs ys
  unfolding pairwise fitted
  pairwise-fitted d t zero [] [] e h = refl
  pairwise-fitted d t zero (x ∷ xs) ys e h = absurd (omega arith)
  pairwise-fitted d t zero [] (y ∷ ys) e h = absurd (omega arith)
  pairwise-fitted d t (suc n) [] [] e h = rw t (pairwise-fitted d t n [] [] refl (omega arith))
  pairwise-fitted d t (suc n) [] (y ∷ ys) e h = absurd (omega arith)
  pairwise-fitted d t (suc n) (x ∷ xs) [] e h = absurd (omega arith)
  pairwise-fitted d t (suc n) (x ∷ xs) (y ∷ ys) e h = ap (λ (b : Bool). p x y && b) (pairwise-fitted d t n xs ys (omega arith) (omega arith))

-- ---- each row behind the one before it

-- The rows behind a place of a table.
abbrev pub rows_from : List ℕ → ℕ → ℕ → Row
rows_from table at r = row_at table (at + 1 + Size.row_words * r)

module _ (old new : ℕ → Row) where
  -- Whether the rows from row i on are among the others from row j on.
  abbrev pub kept_from : (i rows j others : ℕ) → Bool
  kept_from i rows j others = keeps (listed old i (rows - i)) (listed new j (others - j))

  pub kept-all : (rows others : ℕ) → keeps (listed old 0 rows) (listed new 0 others) ≡ kept_from 0 rows 0 others
  kept-all rows others =
      let e : rows - 0 ≡ rows = omega arith in
      let f : others - 0 ≡ others = omega arith in
      rw (e, f)

  module _ (i rows j others : ℕ) where
    pub kept-found : i < rows → j < others → same_row (old i) (new j) ≡ true → kept_from i rows j others ≡ kept_from (i + 1) rows (j + 1) others
    unfolding listed keeps pick
    kept-found h k t =
        let e : rows - i ≡ suc (rows - suc i) = omega arith in
        let f : others - j ≡ suc (others - suc j) = omega arith in
        rw (add-one i, add-one j, e, f, t)

    pub kept-other : i < rows → j < others → same_row (old i) (new j) ≡ false → kept_from i rows j others ≡ kept_from i rows (j + 1) others
    unfolding listed keeps pick
    kept-other h k t =
        let e : rows - i ≡ suc (rows - suc i) = omega arith in
        let f : others - j ≡ suc (others - suc j) = omega arith in
        rw (add-one j, e, f, t)

    pub kept_lost : i < rows → others ≤ j → kept_from i rows j others ≡ false
    unfolding listed keeps
    kept_lost h k =
        let e : rows - i ≡ suc (rows - suc i) = omega arith in
        let f : others - j ≡ 0 = omega arith in
        rw (e, f)

    pub kept-none : rows ≤ i → kept_from i rows j others ≡ true
    unfolding listed keeps
    kept-none h = let e : rows - i ≡ 0 = omega arith in rw e
