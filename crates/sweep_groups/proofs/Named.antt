-- The columns that a row names at a gate: their places in the numbers table are the nodes that calculation/specs/Ways.antt
-- asks for.
use Rattle.common_laws.proofs.Base.{List, [], ◌∷◌, ◌++◌, map, ◌≡◌, refl, sym, ap, ap₂, ◌∙◌, ℕ, zero, suc, ◌+◌, ◌*◌, ◌-◌, ◌/◌, ◌%◌, ◌^◌, ◌≤◌, ◌<◌, mod-lt, add-zero, div-one}
use Rattle.common_laws.proofs.Base.{add-one, arith, eqb, length, get_or, length-append, shr-shr}
use Rattle.sizes.specs.Sizes as Size
use Rattle.sizes.specs.Places.{setting_place, observing_place}
use Rattle.reading.specs.Choice.{pick}
use Rattle.table.proofs.Places.{getD_fitted}
use Rattle.library_table.specs.Library.{column_count}
use Rattle.library_table.specs.Cells.{Row, Cell, Column, pin, output, observe, bit_of, bit, pin_columns, setting_columns, observing_columns, named}
use Rattle.netlist_table.specs.Netlist.{Gate}
use Rattle.netlist_table.specs.Layout.{gate_line_words}
use Rattle.calculation.specs.Nodes.{Kind, combinational, sequential, kind_number, node}
use Rattle.calculation.specs.Nodes as N
use Rattle.calculation.specs.Ways.{pin_line, asked, needs, Role, setting, observing, word_of, columns_of, named_by}
use Rattle.sweep_wires.proofs.RowBits.{pins-length}
use Rattle.sweep_sums.specs.Columns.{with_named, column_places}
use Rattle.sweep_sums.proofs.Columns.{fewer-places}
use Rattle.sweep_groups.specs.Tables.{column_place, row_places}
use Rattle.sweep_groups.proofs.Rows.{line-column, observe-column}

pub set-node : (k : Kind) (l v : ℕ) → setting_place (kind_number k) l v ≡ node k (N.set l v)
unfolding node
set-node combinational l v = omega arith
set-node sequential l v = omega arith

pub observe-node : (k : Kind) (l : ℕ) → observing_place (kind_number k) l ≡ node k (N.observe l)
unfolding node
observe-node combinational l = omega arith
observe-node sequential l = omega arith

-- ---- columns from the lowest bit up

-- The columns of a cell of n pins stand at the bits from 0 on, without a gap; each bit has a place, and each column a value,
-- which agree.
module _ (n : ℕ) (place : ℕ → ℕ) (value : Column → ℕ) (pins : (i v : ℕ) → i < n → v ≤ 1 → place (2 * (n - suc i) + (1 - v)) ≡ value (pin (suc i) v))
    (outputs : (v : ℕ) → v ≤ 1 → place (2 * n + (1 - v)) ≡ value (output v)) (observed : place (2 * n + 2) ≡ value observe) where
  abbrev InOrder : ℕ → List Column → Type 0
  InOrder i [] = Unit {0}
  InOrder i (c ∷ cs) = (bit_of n c ≡ i) × (place i ≡ value c) × InOrder (suc i) cs

  in-order-append : (i : ℕ) (cs ds : List Column) → InOrder i cs → InOrder (i + length cs) ds → InOrder i (cs ++ ds)
  in-order-append i [] ds p q = rw add-zero at q
  in-order-append i (c ∷ cs) ds p q =
      let e : i + suc (length cs) ≡ suc i + length cs = omega arith in
      (p.0, p.1, in-order-append (suc i) cs ds p.2 (rw e at q))

  at-bit : (i j : ℕ) (c : Column) → j ≡ i → place j ≡ value c → place i ≡ value c
  at-bit i j c e p = ap place (sym e) ∙ p

  pins-in-order : (m : ℕ) → m ≤ n → InOrder (2 * (n - m)) (pin_columns m)
  unfolding pin_columns bit_of
  pins-in-order zero h = tt
  pins-in-order (suc m) h =
      let e : 2 * (n - m) ≡ suc (suc (2 * (n - suc m))) = omega arith in
      let rest : InOrder (suc (suc (2 * (n - suc m)))) (pin_columns m) = rw e at (pins-in-order m (omega arith)) in
      (omega arith, at-bit _ _ _ (omega arith) (pins m 1 (omega arith) (omega arith)), (omega arith, at-bit _ _ _ (omega arith) (pins m 0 (omega arith) (omega arith)), rest))

  setting-order : InOrder 0 (setting_columns n)
  unfolding setting_columns
  setting-order = let e : 2 * (n - n) ≡ 0 = omega arith in rw e at (pins-in-order n (omega arith))

  observing-order : InOrder 0 (observing_columns n)
  unfolding observing_columns setting_columns bit_of
  observing-order =
      let e : 0 + length (pin_columns n) ≡ 2 * n = omega (arith, pins-length n) in
      in-order-append 0 (pin_columns n) (output 1 ∷ output 0 ∷ observe ∷ []) setting-order
      (rw e (
        omega arith,
        at-bit _ _ _ (omega arith) (outputs 1 (omega arith)),
        (omega arith, at-bit _ _ _ (omega arith) (outputs 0 (omega arith)), (omega arith, at-bit _ _ _ (omega arith) observed, tt)),
      ))

  -- ---- the columns that a row names

  ordered-places : (cs : List Column) (i columns x : ℕ) → x ≡ columns / 2 ^ i → InOrder i cs → column_places place (length cs) i x ≡ map value (named n cs columns)
  unfolding column_places with_named named bit pick
  ordered-places [] i columns x e p = refl
  ordered-places (c ∷ cs) i columns x e p =
      rw (p.0, ← e) (go (x % 2) (mod-lt x (omega arith)) (ordered-places cs (suc i) columns (x / 2) half p.2))
    where
      half : x / 2 ≡ columns / 2 ^ suc i
      half = ap (λ (y : ℕ). y / 2) e ∙ shr-shr columns i 1 ∙ ap (λ (y : ℕ). columns / 2 ^ y) (add-one i)

      go : (r : ℕ) → r < 2 → column_places place (length cs) (suc i) (x / 2) ≡ map value (named n cs columns)
          → with_named r (place i) (column_places place (length cs) (suc i) (x / 2)) ≡ map value (pick (eqb r 1) (c ∷ named n cs columns) (named n cs columns))
      go zero h ih = ih
      go (suc zero) h ih = ap₂ (λ (a : ℕ) (l : List ℕ). a ∷ l) p.1 ih
      go (suc (suc r)) h ih = absurd (omega arith)

  named_places : (cs : List Column) (x m : ℕ) → length cs ≡ m → m ≤ 32 → x < 2 ^ m → InOrder 0 cs → column_places place 32 0 x ≡ map value (named n cs x)
  named_places cs x m e l b o =
      let s : 32 ≡ m + (32 - m) = omega arith in
      ap (λ (j : ℕ). column_places place j 0 x) s
      ∙ fewer-places place m (32 - m) 0 x b
      ∙ ap (λ (j : ℕ). column_places place j 0 x) (sym e)
      ∙ ordered-places cs 0 x x (sym (div-one x)) o

  -- A row of a CC or SC group, and of a CO or SO group.
  pub setting_named : (columns : ℕ) → n ≤ Size.pins → columns < 2 ^ (2 * n) → column_places place 32 0 columns ≡ map value (named n (setting_columns n) columns)
  unfolding setting_columns
  setting_named columns few b = named_places (pin_columns n) columns (2 * n) (pins-length n) (omega arith) b setting-order

  pub observing_named : (columns : ℕ) → n ≤ Size.pins → columns < 2 ^ (2 * n + 3) → column_places place 32 0 columns ≡ map value (named n (observing_columns n) columns)
  unfolding observing_columns
  observing_named columns few b =
      let last = output 1 ∷ output 0 ∷ observe ∷ [] in
      named_places (observing_columns n) columns (2 * n + 3) (length-append (pin_columns n) last ∙ omega (arith, pins-length n)) (omega arith) b observing-order

-- ---- at a gate

module _ (k : Kind) (g : Gate) (n : ℕ) (few : n ≤ Size.pins) where
  abbrev place : ℕ → ℕ
  place = column_place (kind_number k) (gate_line_words g) n

  -- ---- one column

  pin-place : (i v : ℕ) → i < n → v ≤ 1 → (j : ℕ) → j ≡ 2 * (n - suc i) + (1 - v) → place j ≡ node k (asked g (pin (suc i) v))
  unfolding asked pin_line
  pin-place i v h b j e =
      let l : j / 2 ≤ n = omega arith in
      let m : n - j / 2 ≡ suc i = omega arith in
      let q : 1 - j % 2 ≡ v = omega arith in
      let z : suc i - 1 ≡ i = omega arith in
      line-column (kind_number k) (gate_line_words g) n j l
      ∙ rw (m, q, z)
      (ap (λ (x : ℕ). setting_place (kind_number k) x v) {y = get_or g.pins i 0} (getD_fitted 0 Size.pins g.pins i (omega arith))
      ∙ set-node k (get_or g.pins i 0) v)

  output-place : (v : ℕ) → v ≤ 1 → (j : ℕ) → j ≡ 2 * n + (1 - v) → place j ≡ node k (asked g (output v))
  unfolding asked
  output-place v b j e =
      let l : j / 2 ≤ n = omega arith in
      let m : n - j / 2 ≡ 0 = omega arith in
      let q : 1 - j % 2 ≡ v = omega arith in
      line-column (kind_number k) (gate_line_words g) n j l ∙ rw (m, q) (set-node k g.line v)

  observe-place : (j : ℕ) → j ≡ 2 * n + 2 → place j ≡ node k (asked g observe)
  unfolding asked
  observe-place j e = observe-column (kind_number k) (gate_line_words g) n j (omega arith) ∙ observe-node k g.line

  -- ---- the columns that a row names

  abbrev asking : Column → ℕ
  asking c = node k (asked g c)

  pub setting-places : (columns : ℕ) → columns < 2 ^ (2 * n) → row_places (kind_number k) (gate_line_words g) n columns ≡ needs k g (named n (setting_columns n) columns)
  unfolding row_places needs
  setting-places columns b =
      setting_named n place asking (λ i v h c. pin-place i v h c _ refl) (λ v c. output-place v c _ refl) (observe-place _ refl) columns few b

  pub observing-places : (columns : ℕ) → columns < 2 ^ (2 * n + 3) → row_places (kind_number k) (gate_line_words g) n columns ≡ needs k g (named n (observing_columns n) columns)
  unfolding row_places needs
  observing-places columns b =
      observing_named n place asking (λ i v h c. pin-place i v h c _ refl) (λ v c. output-place v c _ refl) (observe-place _ refl) columns few b

-- A row of the group of a role.
pub role-places : (k : Kind) (g : Gate) (c : Cell) (role : Role) → c.pins ≤ Size.pins → (r : Row) → r.columns < 2 ^ column_count (word_of k role) c.pins
    → row_places (kind_number k) (gate_line_words g) c.pins r.columns ≡ needs k g (named_by c role r)
unfolding named_by columns_of word_of column_count
role-places combinational g c (setting e) few r b = setting-places combinational g c.pins few r.columns b
role-places sequential g c (setting e) few r b = setting-places sequential g c.pins few r.columns b
role-places combinational g c (observing i) few r b = observing-places combinational g c.pins few r.columns b
role-places sequential g c (observing i) few r b = observing-places sequential g c.pins few r.columns b
