-- Rows read by their bits are those of specs/Ways.antt of crate `calculation`.
use Rattle.common_laws.proofs.Base.{Bool, true, false, not, ◌&&◌, ◌||◌, List, [], ◌∷◌, ◌≡◌, refl, sym, ap, ◌∙◌, ℕ, zero, suc, ◌+◌, ◌*◌, ◌-◌, ◌/◌, ◌%◌, ◌^◌, ◌≤◌, ◌<◌}
use Rattle.common_laws.proofs.Base.{ℕ_discrete, mod-lt, arith, eqb, length, get_or, pow_pos, eq-eqb, ne_eqb}
use Rattle.reading.specs.Choice.{pick}
use Rattle.reading.proofs.Laws.{clash}
use Rattle.library_table.specs.Cells.{Column, bit_of, bit, pin_columns, setting_columns, named}
use Rattle.library_table.specs.Library.{any_of}
use Rattle.netlist_table.specs.Netlist.{Gate}
use Rattle.calculation.specs.Nodes.{set}
use Rattle.calculation.specs.Ways.{pin_line, asked, both_values, same_value, other_value, any_asks, once, needs_both}
use Rattle.sweep_wires.specs.Wires.{any_below, column_line, column_value, asks_for, asked_below, once_columns, both_columns, read_before, shares_line}
use Rattle.sweep_wires.proofs.Any.{any_none, any_found, any_same, pin_both, pins-both}
use Rattle.sweep_wires.proofs.Masks.{masked-bit, bit_below}
use Rattle.sweep_wires.proofs.Gone.{gone-any, gone-masked, bits_most}

pub pins-length : (m : ℕ) → length (pin_columns m) ≡ 2 * m
unfolding pin_columns
pins-length zero = refl
pins-length (suc m) = omega (arith, pins-length m)

-- What is left of a row has no more columns.
pub once-few : (lines : List ℕ) (n columns k : ℕ) → k ≤ 32 → columns < 2 ^ k → once_columns lines n columns < 2 ^ k
unfolding once_columns
once-few lines n columns k few h = bits_most _ columns k few h

module _ (lines : List ℕ) (n x : ℕ) where
  -- Whether the row names column j and asks by it for line l at v; whether it is kept; whether a lower one opposes it.
  abbrev asks_at : ℕ → ℕ → ℕ → Bool
  asks_at l v j = bit x j && asks_for lines n l v j

  abbrev keeps : ℕ → Bool
  keeps j = bit x j && not (asked_below lines n x (column_value j) j)

  abbrev opposed : ℕ → Bool
  opposed j = bit x j && asked_below lines n x (1 - column_value j) j

  asked-below : (v j : ℕ) → j ≤ 32 → asked_below lines n x v j ≡ any_below (asks_at (column_line lines n j) v) j
  unfolding asked_below
  asked-below v j few =
      gone-any (asks_for lines n (column_line lines n j) v) (x % 2 ^ j) j few (mod-lt x (pow_pos j))
      ∙ any_same _ _ j (λ i h. ap (λ (b : Bool). b && asks_for lines n (column_line lines n j) v i) (bit_below x i j h))

module _ (g : Gate) (n : ℕ) (lines : List ℕ) (reads : (p : ℕ) → 1 ≤ p → p ≤ n → get_or lines p 0 ≡ pin_line g p) (x : ℕ)
    (most : 2 * n ≤ 32) (within : x < 2 ^ (2 * n)) where
  -- Columns from bit i up, without a gap, each with what its bit asks for.
  abbrev Ordered : ℕ → List Column → Type 0
  Ordered i [] = Unit {0}
  Ordered i (c ∷ cs) = (bit_of n c ≡ i) × (asked g c ≡ set (column_line lines n i) (column_value i)) × Ordered (suc i) cs

  pin-asked : (p v i : ℕ) → 1 ≤ p → p ≤ n → v ≤ 1 → i ≡ 2 * (n - p) + (1 - v) → set (pin_line g p) v ≡ set (column_line lines n i) (column_value i)
  pin-asked p v i a b h e =
      let l : n - i / 2 ≡ p = omega arith in
      let w : 1 - i % 2 ≡ v = omega arith in
      rw (l, w, reads p a b)

  pins-ordered : (m : ℕ) → m ≤ n → Ordered (2 * (n - m)) (pin_columns m)
  unfolding pin_columns bit_of asked
  pins-ordered zero h = tt
  pins-ordered (suc m) h =
      let e : 2 * (n - m) ≡ suc (suc (2 * (n - suc m))) = omega arith in
      let rest : Ordered (suc (suc (2 * (n - suc m)))) (pin_columns m) = rw e at (pins-ordered m (omega arith)) in (
        omega arith,
        pin-asked (suc m) 1 _ (omega arith) h (omega arith) (omega arith),
        (omega arith, pin-asked (suc m) 0 _ (omega arith) h (omega arith) (omega arith), rest),
      )

  -- ---- the named columns below bit i

  abbrev Lower : List Column → ℕ → Type 0
  Lower lower i = (l v : ℕ) → any_asks g lower (set l v) ≡ any_below (asks_at lines n x l v) i

  lower-none : Lower [] 0
  unfolding any_asks any_of any_below
  lower-none l v = refl

  lower-more : (i : ℕ) (lower : List Column) (c : Column) → bit x i ≡ true → asked g c ≡ set (column_line lines n i) (column_value i) → Lower lower i → Lower (c ∷ lower) (suc i)
  unfolding any_asks any_of any_below asks_for same_value
  lower-more i lower c b e h l v = rw (e, b) (ap (λ (t : Bool). (eqb (column_line lines n i) l && eqb (column_value i) v) || t) (h l v))

  lower-same : (i : ℕ) (lower : List Column) → bit x i ≡ false → Lower lower i → Lower lower (suc i)
  unfolding any_below
  lower-same i lower b h l v = rw b (h l v)

  -- ---- once

  once_named : (cs : List Column) (i : ℕ) (lower : List Column) → i + length cs ≤ 32 → Ordered i cs → Lower lower i
      → (y : ℕ) → ((j : ℕ) → i ≤ j → j < i + length cs → bit y j ≡ keeps lines n x j) → named n cs y ≡ once g lower (named n cs x)
  unfolding named once pick
  once_named [] i lower few o h y k = refl
  once_named (c ∷ cs) i lower few o h y k =
      rw (o.0, k i (omega arith) (omega arith))
      (side (bit x i) (asked_below lines n x (column_value i) i) refl refl
      (λ l q. once_named cs (suc i) l (omega arith) o.2 q y (λ j a b. k j (omega arith) (omega arith))))
    where
      here : (a : Bool) → asked_below lines n x (column_value i) i ≡ a → any_asks g lower (asked g c) ≡ a
      here a e = rw o.1 (h (column_line lines n i) (column_value i) ∙ sym (asked-below lines n x (column_value i) i (omega arith)) ∙ e)

      side : (b a : Bool) → bit x i ≡ b → asked_below lines n x (column_value i) i ≡ a
          → ((l : List Column) → Lower l (suc i) → named n cs y ≡ once g l (named n cs x))
          → pick (b && not a) (c ∷ named n cs y) (named n cs y) ≡ once g lower (pick b (c ∷ named n cs x) (named n cs x))
      side true true p q rec = rw (here true q) (rec (c ∷ lower) (lower-more i lower c p o.1 h))
      side true false p q rec = rw (here false q) (ap (λ (t : List Column). c ∷ t) (rec (c ∷ lower) (lower-more i lower c p o.1 h)))
      side false a p q rec = rec lower (lower-same i lower p h)

  -- ---- 0 and 1 of one line

  needs_named : (cs : List Column) (i : ℕ) (lower : List Column) → i + length cs ≤ 32 → Ordered i cs → Lower lower i
      → any_below (opposed lines n x) (i + length cs) ≡ (needs_both g lower (named n cs x) || any_below (opposed lines n x) i)
  unfolding named needs_both pick
  needs_named [] i lower few o h = let e : i + 0 ≡ i = omega arith in rw e
  needs_named (c ∷ cs) i lower few o h =
      let e : i + suc (length cs) ≡ suc i + length cs = omega arith in
      rw (e, o.0) (side (bit x i) refl (λ l q. needs_named cs (suc i) l (omega arith) o.2 q))
    where
      other : any_asks g lower (other_value (asked g c)) ≡ asked_below lines n x (1 - column_value i) i
      other = unfold other_value in rw o.1 (h (column_line lines n i) (1 - column_value i) ∙ sym (asked-below lines n x (1 - column_value i) i (omega arith)))

      swap : (a b z : Bool) → (b || (a || z)) ≡ ((a || b) || z)
      swap true true z = refl
      swap true false z = refl
      swap false b z = refl

      side : (b : Bool) → bit x i ≡ b
          → ((l : List Column) → Lower l (suc i) → any_below (opposed lines n x) (suc i + length cs) ≡ (needs_both g l (named n cs x) || any_below (opposed lines n x) (suc i)))
          → any_below (opposed lines n x) (suc i + length cs) ≡ (needs_both g lower (pick b (c ∷ named n cs x) (named n cs x)) || any_below (opposed lines n x) i)
      side true p rec =
          rec (c ∷ lower) (lower-more i lower c p o.1 h)
          ∙ unfold any_below in rw (p, other) (swap (asked_below lines n x (1 - column_value i) i) (needs_both g (c ∷ lower) (named n cs x)) (any_below (opposed lines n x) i))
      side false p rec = rec lower (lower-same i lower p h) ∙ unfold any_below in rw p

  -- ---- the columns of a CC or SC row

  ordered : Ordered 0 (pin_columns n)
  ordered = let e : 2 * (n - n) ≡ 0 = omega arith in rw e at (pins-ordered n (omega arith))

  pub once-columns : named n (setting_columns n) (once_columns lines n x) ≡ once g [] (named n (setting_columns n) x)
  unfolding setting_columns once_columns
  once-columns =
      once_named (pin_columns n) 0 [] (omega (arith, pins-length n)) ordered lower-none (once_columns lines n x)
      (λ j a b.
      let z : 0 + j ≡ j = omega arith in
      rw (gone-masked _ x (2 * n) most within) (rw z at (masked-bit (keeps lines n x) (2 * n) 0 j (omega (arith, pins-length n)))))

  pub both-columns : both_columns lines n x ≡ needs_both g [] (named n (setting_columns n) x)
  unfolding setting_columns both_columns any_below
  both-columns =
      let e : 0 + length (pin_columns n) ≡ 2 * n = omega (arith, pins-length n) in
      gone-any _ x (2 * n) most within ∙ rw e at (needs_named (pin_columns n) 0 [] (omega (arith, pins-length n)) ordered lower-none) ∙ or-none (needs_both g [] (named n (pin_columns n) x))
    where
      or-none : (b : Bool) → (b || false) ≡ b
      or-none true = refl
      or-none false = refl

  -- ---- pins that share no line, where no row names both values of one pin

  module _ (apart : shares_line lines n ≡ false) (lone : both_values n n x ≡ false) where
    other-line : (i j : ℕ) → i < j → j < 2 * n → bit x i ≡ true → bit x j ≡ true → column_line lines n i ≡ column_line lines n j → ⊥
    unfolding shares_line read_before
    other-line i j h few p q e = pins (ℕ_discrete (i / 2) (j / 2))
      where
        pins : Dec (i / 2 ≡ j / 2) → ⊥
        pins (yes s) =
            let k = n - (j / 2 + 1) in
            let a : 2 * (n - (k + 1)) + 1 ≡ j = omega arith in
            let b : 2 * (n - (k + 1)) ≡ i = omega arith in
            clash (both_values n n x) (sym (pins-both n x n) ∙ any_found (pin_both n x) n k (omega arith) (rw (a, b, p, q))) lone
        pins (no s) =
            let r = n - i / 2 - 1 in
            let t = n - j / 2 - 1 in
            let a : t + 1 ≡ n - j / 2 = omega arith in
            let b : r + 1 ≡ n - i / 2 = omega arith in
            clash (shares_line lines n)
            (any_found (read_before lines) n r (omega arith)
            (any_found (λ m. eqb (get_or lines (m + 1) 0) (get_or lines (r + 1) 0)) r t (omega arith) (rw (a, b) (eq-eqb _ _ (sym e))))) apart

    not-asked : (j v : ℕ) → j < 2 * n → bit x j ≡ true → asked_below lines n x v j ≡ false
    unfolding asks_for
    not-asked j v few q = asked-below lines n x v j (omega arith) ∙ any_none _ j (λ i h. one i h (bit x i) refl)
      where
        one : (i : ℕ) → i < j → (b : Bool) → bit x i ≡ b → (bit x i && (eqb (column_line lines n i) (column_line lines n j) && eqb (column_value i) v)) ≡ false
        one i h true p = rw (p, ne_eqb (column_line lines n i) (column_line lines n j) (other-line i j h few p q))
        one i h false p = rw p

    pub once_untied : once g [] (named n (setting_columns n) x) ≡ named n (setting_columns n) x
    unfolding setting_columns
    once_untied = sym (once_named (pin_columns n) 0 [] (omega (arith, pins-length n)) ordered lower-none x (λ j a b. all j (omega (arith, pins-length n)) (bit x j) refl))
      where
        all : (j : ℕ) → j < 2 * n → (b : Bool) → bit x j ≡ b → bit x j ≡ keeps lines n x j
        all j few true p = rw (p, not-asked j (column_value j) few p)
        all j few false p = rw p

    pub needs_untied : needs_both g [] (named n (setting_columns n) x) ≡ false
    needs_untied = sym both-columns ∙ unfold both_columns in gone-any _ x (2 * n) most within ∙ any_none _ (2 * n) (λ j few. none j few (bit x j) refl)
      where
        none : (j : ℕ) → j < 2 * n → (b : Bool) → bit x j ≡ b → opposed lines n x j ≡ false
        none j few true p = rw (p, not-asked j (1 - column_value j) few p)
        none j few false p = rw p
