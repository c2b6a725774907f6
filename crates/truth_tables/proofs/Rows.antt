-- The fact of document 02, K6, over rows and groups: a setting meets the row of a term exactly when it meets the term.
use Rattle.common_laws.proofs.Base.{Bool, true, false, List, [], ◌∷◌, ◌++◌, map, List-as-Memᴰ, List-Memᴰ-head, List-Memᴰ-tail, List-Memᴰ-append-cases, Memᴰ-append-left, ◌⊎◌, inl, inr}
use Rattle.common_laws.proofs.Base.{⊎_elim, ◌↔◌, none, ◌≡◌, refl, sym, ap, subst, ◌∙◌, ℕ, zero, suc, ◌+◌, ◌*◌, ◌-◌, ◌^◌, ◌≤◌, ◌<◌, pow-suc, add-zero, add-suc, suc-add, zero-add}
use Rattle.common_laws.proofs.Base.{arith, eqb, length, get_or, eq-eqb, eqb-true}
use Rattle.reading.specs.Each.{Each}
use Rattle.common_laws.proofs.Numbers.{two-four}
use Rattle.reading.proofs.Laws.{by_test, clash, each_map}
use Rattle.library_table.specs.Cells.{Row, Cell, Column, pin, output, observe, bit_of, bit, named, pin_columns, setting_columns, observing_columns}
use Rattle.library_table.specs.Library.{any_of}
use Rattle.library_table.proofs.Columns.{named_from, named_bit, named_listed, pin-column, PinAt, column-pin}
use Rattle.truth_tables.specs.Tables.{Setting, Term, digit, meets, terms, all_of, prime, primes, Condition, gives, put_in, changes, observing}
use Rattle.truth_tables.specs.Entries.{term_columns, observe_column, setting_row, observing_row, setting_group, observing_group, setting_groups, groups_from, observing_groups, cell_of}
use Rattle.truth_tables.specs.Rows.{as_named, meets_row, Sets, Observes}
use Rattle.truth_tables.specs.Statements.{CellTells, GeneratedTells}
use Rattle.truth_tables.proofs.Lists.{all-member, all_by, each-kept}
use Rattle.truth_tables.proofs.Order.{terms-length, length_putIn, term_below}
use Rattle.truth_tables.proofs.Columns.{low_bit, high_bit, says, term_bit, meets-said, said-meets}
use Rattle.truth_tables.proofs.Cover.{setting_fact, observing_fact}

-- ---- a row

-- A row with the pins' columns of a term, and no other column that asks something of a setting.
module _ (n : ℕ) (t : Term) (size : length t ≡ n) (bits : List Bool) (s : Setting) (columns : List Column) (x : ℕ)
    (pins : (j v : ℕ) → j < n → v ≤ 1 → bit x (bit_of n (pin (suc j) v)) ≡ says (get_or t j none) v)
    (listed : (j v : ℕ) → j < n → v ≤ 1 → List-as-Memᴰ (pin (suc j) v) columns)
    (only : (c : Column) → List-as-Memᴰ c columns → bit x (bit_of n c) ≡ true → PinAt n c ⊎ (as_named bits s c ≡ true)) where
  pin-met : meets t s ≡ true → (c : Column) → bit x (bit_of n c) ≡ true → PinAt n c → as_named bits s c ≡ true
  unfolding as_named
  pin-met m c b p =
      let j = p.j in
      let v = p.v in
      let told : says (get_or t j none) v ≡ true = sym (pins j v p.below p.bit) ∙ ap (λ (d : Column). bit x (bit_of n d)) (sym p.is) ∙ b in
      let place : suc j - 1 ≡ j = omega arith in
      rw (p.is, place) (eq-eqb (digit (get_or s j false)) v (meets-said t s m j v (omega (arith, p.below, size)) told))

  met_row : meets t s ≡ true → all_of (as_named bits s) (named n columns x) ≡ true
  met_row m =
      all_by (as_named bits s) (named n columns x)
      (λ c k.
      let b = named_bit n columns x c k in
      ⊎_elim (pin-met m c b) (λ e. e) (only c (named_from n columns x c k) b))

  as_said : (j v : ℕ) → as_named bits s (pin (suc j) v) ≡ true → digit (get_or s j false) ≡ v
  unfolding as_named
  as_said j v e = let place : suc j - 1 ≡ j = omega arith in eqb-true (digit (get_or s j false)) v (rw place at e)

  row_met : length s ≡ n → all_of (as_named bits s) (named n columns x) ≡ true → meets t s ≡ true
  row_met l h =
      said-meets t s (l ∙ sym size)
      (λ j v k b e. as_said j v (all-member (as_named bits s) (named_listed n columns x (pin (suc j) v) (pins j v (omega (arith, size)) b ∙ e) (listed j v (omega (arith, size)) b)) h))

  row_is_lem : length s ≡ n → all_of (as_named bits s) (named n columns x) ≡ meets t s
  row_is_lem l =
      by_test (meets t s)
      (λ m. met_row m ∙ sym m)
      (λ m. by_test (all_of (as_named bits s) (named n columns x)) (λ h. clash (meets t s) (row_met l h) m) (λ h. h ∙ sym m))

module _ (d n : ℕ) (bits : List Bool) (s : Setting) (l : length s ≡ n) (t : Term) (size : length t ≡ n) where
  term_at : (j v : ℕ) → j < n → v ≤ 1 → bit (term_columns t) (bit_of n (pin (suc j) v)) ≡ says (get_or t j none) v
  unfolding bit_of
  term_at j v h b = rw (← size) (term_bit t j v (omega (arith, size)) b)

  setting_row_lem : meets_row n (setting_columns n) bits s (setting_row d t) ≡ meets t s
  unfolding meets_row setting_row setting_columns
  setting_row_lem =
      row_is_lem n t size bits s (pin_columns n) (term_columns t) term_at (pin-column n) (λ c m b. inl (column-pin n c m)) l

  -- ---- "Each such row also names "observe the output"."

  abbrev x : ℕ
  x = observe_column n + term_columns t

  above : x ≡ 4 * 2 ^ (2 * n) + term_columns t
  unfolding observe_column
  above =
      let two : 2 * n + 2 ≡ suc (suc (2 * n)) = omega arith in
      let times : 2 ^ suc (suc (2 * n)) ≡ 4 * 2 ^ (2 * n) = omega (arith, pow-suc 2 (suc (2 * n)), pow-suc 2 (2 * n)) in
      ap (λ (p : ℕ). 2 ^ p + term_columns t) two ∙ ap (λ (p : ℕ). p + term_columns t) times

  small : term_columns t < 2 ^ (2 * n)
  small = subst (λ (p : ℕ). term_columns t < p) (ap (λ (k : ℕ). 4 ^ k) size ∙ sym (two-four n)) (term_below t)

  observe-at : (j v : ℕ) → j < n → v ≤ 1 → bit x (bit_of n (pin (suc j) v)) ≡ says (get_or t j none) v
  unfolding bit_of
  observe-at j v h b =
      ap (λ (p : ℕ). bit p (2 * (n - suc j) + (1 - v))) above
      ∙ low_bit 4 (2 * n) (term_columns t) (2 * (n - suc j) + (1 - v)) (omega arith)
      ∙ term_at j v h b

  -- The row does not name the output's values.
  unnamed : (b : ℕ) → bit x (2 * n + b) ≡ bit 4 b
  unnamed b = ap (λ (p : ℕ). bit p (2 * n + b)) above ∙ high_bit 4 (2 * n) (term_columns t) b small

  behind : (c : Column) → List-as-Memᴰ c (output 1 ∷ output 0 ∷ observe ∷ []) → bit x (bit_of n c) ≡ true → as_named bits s c ≡ true
  unfolding bit_of as_named bit
  behind c (List-Memᴰ-head e) b = clash false (sym (unnamed 0) ∙ (rw e at b)) refl
  behind c (List-Memᴰ-tail (List-Memᴰ-head e)) b = clash false (sym (unnamed 1) ∙ (rw e at b)) refl
  behind c (List-Memᴰ-tail (List-Memᴰ-tail (List-Memᴰ-head e))) b = rw e refl
  behind c (List-Memᴰ-tail (List-Memᴰ-tail (List-Memᴰ-tail m))) b = elim m [ ]

  observing_row_lem : meets_row n (observing_columns n) bits s (observing_row d n t) ≡ meets t s
  unfolding meets_row observing_row observing_columns
  observing_row_lem =
      row_is_lem n t size bits s (pin_columns n ++ (output 1 ∷ output 0 ∷ observe ∷ [])) x observe-at
      (λ j v h b. Memᴰ-append-left _ (pin-column n j v h b))
      (λ c m b. ⊎_elim (λ k. inl (column-pin n c k)) (λ k. inr (behind c k b)) (List-Memᴰ-append-cases (pin_columns n) m))
      l

-- ---- a group

any-rows : (f : Term → Row) (p : Row → Bool) (q : Term → Bool) (ts : List Term) → Each (λ t. p (f t) ≡ q t) ts → any_of p (map f ts) ≡ any_of q ts
unfolding any_of Each
any-rows f p q [] e = refl
any-rows f p q (t ∷ ts) e = rw (e.0, any-rows f p q ts e.1) refl

pub primes-length : (n : ℕ) (C : Condition) → Each (λ t. length t ≡ n) (primes n C)
unfolding primes
primes-length n C = each-kept (λ t. length t ≡ n) (prime n C) (terms n) (terms-length n)

putIn_length : (k n : ℕ) (ts : List Term) → Each (λ t. length t ≡ n) ts → Each (λ t. length t ≡ suc n) (map (λ t. put_in k none t) ts)
unfolding Each
putIn_length k n [] e = tt
putIn_length k n (t ∷ ts) e = (length_putIn k none t ∙ ap suc e.0, putIn_length k n ts e.1)

module _ (d n : ℕ) (bits : List Bool) where
  setting_group_lem : (e : Bool) (s : Setting) → length s ≡ n
      → any_of (meets_row n (setting_columns n) bits s) (setting_group d n bits e) ≡ any_of (λ t. meets t s) (primes n (gives bits e))
  unfolding setting_group
  setting_group_lem e s l =
      any-rows (setting_row d) (meets_row n (setting_columns n) bits s) (λ t. meets t s) (primes n (gives bits e))
      (each_map (λ t. length t ≡ n) (λ t. meets_row n (setting_columns n) bits s (setting_row d t) ≡ meets t s) (setting_row_lem d n bits s l) (primes n (gives bits e)) (primes-length n (gives bits e)))

  observing_group_lem : (k : ℕ) (s : Setting) → 0 < n → length s ≡ n
      → any_of (meets_row n (observing_columns n) bits s) (observing_group d n bits k) ≡ any_of (λ t. meets t s) (observing n bits k)
  unfolding observing_group observing
  observing_group_lem k s some l =
      let ts = primes (n - 1) (changes bits k) in
      let one : suc (n - 1) ≡ n = omega arith in
      let long : Each (λ t. length t ≡ n) (map (λ t. put_in k none t) ts) =
      subst (λ (m : ℕ). Each (λ t. length t ≡ m) (map (λ t. put_in k none t) ts)) one (putIn_length k (n - 1) ts (primes-length (n - 1) (changes bits k))) in
      any-rows (observing_row d n) (meets_row n (observing_columns n) bits s) (λ t. meets t s) (map (λ t. put_in k none t) ts)
      (each_map (λ t. length t ≡ n) (λ t. meets_row n (observing_columns n) bits s (observing_row d n t) ≡ meets t s) (observing_row_lem d n bits s l) (map (λ t. put_in k none t) ts) long)

  sets : Sets n bits (setting_groups d n bits)
  unfolding setting_groups digit
  sets false s l =
      let f = setting_fact n bits false s l in
      (λ o. setting_group_lem false s l ∙ f.0 o, λ m. f.1 (sym (setting_group_lem false s l) ∙ m))
  sets true s l =
      let f = setting_fact n bits true s l in
      (λ o. setting_group_lem true s l ∙ f.0 o, λ m. f.1 (sym (setting_group_lem true s l) ∙ m))

  group_at_lem : (i left k : ℕ) → k < left → get_or (groups_from d n bits i left) k [] ≡ observing_group d n bits (i + k)
  unfolding groups_from
  group_at_lem i zero k h = absurd (omega arith)
  group_at_lem i (suc left) zero h = rw (add-zero i) refl
  group_at_lem i (suc left) (suc k) h = rw (add-suc i k, ← suc-add i k) (group_at_lem (suc i) left k (omega arith))

  observes : Observes n bits (observing_groups d n bits)
  unfolding observing_groups
  observes k s v h l =
      let f = observing_fact n bits k s v l in
      let is : get_or (groups_from d n bits 0 n) k [] ≡ observing_group d n bits k = group_at_lem 0 n k h ∙ ap (observing_group d n bits) (zero-add k) in
      let same = observing_group_lem k (put_in k v s) (omega arith) (length_putIn k v s ∙ l) in
      rw is (λ o. same ∙ f.0 o, λ m. f.1 (sym same ∙ m))

-- The rows of every cell that is generated tell its truth table.
pub rows_tell : GeneratedTells
rows_tell c bits g =
    record {
      cc = subst (Sets c.pins bits) (sym g.cc) (sets 1 c.pins bits);
      sc = subst (Sets c.pins bits) (sym g.sc) (sets 0 c.pins bits);
      co = subst (Observes c.pins bits) (sym g.co) (observes 1 c.pins bits);
      so = subst (Observes c.pins bits) (sym g.so) (observes 0 c.pins bits);
    }

-- Those of the cell of every truth table.
pub cell-tells : CellTells
unfolding cell_of
cell-tells name n bits =
    record { cc = sets 1 n bits; sc = sets 0 n bits; co = observes 1 n bits; so = observes 0 n bits }
