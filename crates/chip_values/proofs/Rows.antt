-- What the rows of a generated cell tell of its truth table: the fact of crate `truth_tables`, by the columns that a row names.
use Rattle.common_laws.proofs.Base.{Bool, true, false, List, ◌∷◌, map, List-as-Memᴰ, List-Memᴰ-head, List-Memᴰ-tail, Memᴰ-map, Memᴰ-of-map, List-Memᴰ-append-cases, ⊎_elim, Option, none, some, ◌≡◌}
use Rattle.common_laws.proofs.Base.{refl, sym, subst, ap, ◌∙◌, ℕ, zero, suc, ◌+◌, ◌*◌, ◌-◌, ◌≤◌, ◌<◌, arith, length, get_or, eqb-true}
use Rattle.reading.proofs.Laws.{clash}
use Rattle.library_table.specs.Cells.{Row, Cell, pin, bit_of, bit, setting_columns}
use Rattle.library_table.specs.Library.{word_groups}
use Rattle.library_table.proofs.Columns.{named_bit, named_listed, pin-column}
use Rattle.calculation.specs.Nodes.{combinational}
use Rattle.calculation.specs.Ways.{setting, word_of, group_index, group_of, columns_of, named_by}
use Rattle.calculation.proofs.Visits.{MayName, named_may}
use Rattle.truth_tables.specs.Tables.{Term, Setting, digit, output, meets, terms, prime, primes, gives}
use Rattle.truth_tables.specs.Entries.{term_columns, setting_row, setting_group, setting_groups}
use Rattle.library_table.proofs.Any.{any-member}
use Rattle.truth_tables.proofs.Lists.{any_found, kept}
use Rattle.truth_tables.proofs.Columns.{says, term_bit, meets-said, said-meets}
use Rattle.truth_tables.proofs.Cover.{setting_fact}
use Rattle.truth_tables.specs.Generated.{Generated}
use Rattle.chip_values.proofs.CellRows.{Met, Tells}

-- ---- the columns of a row

term_length : (n : ℕ) (t : Term) → List-as-Memᴰ t (terms n) → length t ≡ n
unfolding terms
term_length zero t (List-Memᴰ-head e) = ap length e
term_length zero t (List-Memᴰ-tail m) = elim m [ ]
term_length (suc n) t m =
    ⊎_elim (behind (some false) (term_length n))
    (λ k. ⊎_elim (behind (some true) (term_length n)) (behind none (term_length n)) (List-Memᴰ-append-cases (map (λ (q : Term). some true ∷ q) (terms n)) k))
    (List-Memᴰ-append-cases (map (λ (q : Term). some false ∷ q) (terms n)) m)
  where
    behind : (l : Option Bool) → ((q : Term) → List-as-Memᴰ q (terms n) → length q ≡ n)
        → List-as-Memᴰ t (map (λ (q : Term). l ∷ q) (terms n)) → length t ≡ suc n
    behind l shorter k =
        let z = Memᴰ-of-map (λ (q : Term). l ∷ q) (terms n) k in sym (ap length z.2) ∙ ap suc (shorter z.0 z.1)

module _ (c : Cell) (e : ℕ) (t : Term) (size : length t ≡ c.pins) where
  abbrev row : Row
  row = setting_row 1 t

  -- The row names pin j + 1 at v exactly where the term says so.
  pub named_says : (i v : ℕ) → List-as-Memᴰ (pin i v) (named_by c (setting e) row) → (1 ≤ i) × (i ≤ c.pins) × (says (get_or t (i - 1) none) v ≡ true)
  unfolding named_by columns_of setting_row bit_of
  named_says i v m =
      let may : MayName c.pins (setting e) (pin i v) =
      named_may c (setting e) row (pin i v) m in
      let b : bit (term_columns t) (2 * (c.pins - i) + (1 - v)) ≡ true = named_bit c.pins (setting_columns c.pins) (term_columns t) (pin i v) m in
      let place : 2 * (length t - suc (i - 1)) + (1 - v) ≡ 2 * (c.pins - i) + (1 - v) = omega (arith, size, may.0) in
      (may.0, may.1, sym (term_bit t (i - 1) v (omega (arith, size, may.0, may.1)) may.2) ∙ ap (bit (term_columns t)) place ∙ b)

  pub says_named : (j v : ℕ) → j < length t → v ≤ 1 → says (get_or t j none) v ≡ true → List-as-Memᴰ (pin (suc j) v) (named_by c (setting e) row)
  unfolding named_by columns_of setting_columns setting_row bit_of
  says_named j v h b k =
      let place : 2 * (c.pins - suc j) + (1 - v) ≡ 2 * (length t - suc j) + (1 - v) = omega (arith, size) in
      named_listed c.pins (setting_columns c.pins) (term_columns t) (pin (suc j) v)
      (ap (bit (term_columns t)) place ∙ term_bit t j v h b ∙ k) (pin-column c.pins j v (omega (arith, size)) b)

  pub meets-met : (xs : List Bool) → meets t xs ≡ true
      → (i v : ℕ) → List-as-Memᴰ (pin i v) (named_by c (setting e) row) → digit (get_or xs (i - 1) false) ≡ v
  meets-met xs h i v m =
      let n = named_says i v m in
      meets-said t xs h (i - 1) v (omega (arith, size, n.0, n.1)) n.2

  pub met-meets : (xs : List Bool) → length xs ≡ c.pins
      → ((i v : ℕ) → List-as-Memᴰ (pin i v) (named_by c (setting e) row) → digit (get_or xs (i - 1) false) ≡ v) → meets t xs ≡ true
  met-meets xs l h =
      said-meets t xs (l ∙ sym size)
      (λ j v k b s. let z : suc j - 1 ≡ j = omega arith in
      subst (λ (x : ℕ). digit (get_or xs x false) ≡ v) z (h (suc j) v (says_named j v k b s)))

  pub named_once : (i v w : ℕ) → List-as-Memᴰ (pin i v) (named_by c (setting e) row) → List-as-Memᴰ (pin i w) (named_by c (setting e) row) → v ≡ w
  named_once i v w a b = says_once (get_or t (i - 1) none) (named_says i v a).2 (named_says i w b).2
    where
      says_once : (l : Option Bool) → says l v ≡ true → says l w ≡ true → v ≡ w
      says_once none p q = unfold says in clash false p refl
      says_once (some x) p q = unfold says in sym (eqb-true (digit x) v p) ∙ eqb-true (digit x) w q

-- ---- the groups of a generated cell

group_is : (c : Cell) (bits : List Bool) → Generated c bits → (e : Bool)
    → group_of combinational c (setting (digit e)) ≡ map (setting_row 1) (primes c.pins (gives bits e))
unfolding group_of word_of group_index word_groups digit setting_groups setting_group
group_is c bits h false = rw h.cc refl
group_is c bits h true = rw h.cc refl

module _ (c : Cell) (bits : List Bool) (made : Generated c bits) where
  -- A row of a group is that of a prime implicant.
  from_term : (e : Bool) (r : Row) → List-as-Memᴰ r (group_of combinational c (setting (digit e)))
      → (t : Term) × List-as-Memᴰ t (primes c.pins (gives bits e)) × (setting_row 1 t ≡ r)
  from_term e r m = Memᴰ-of-map (setting_row 1) (primes c.pins (gives bits e)) (rw (group_is c bits made e) at m)

  prime-length : (e : Bool) (t : Term) → List-as-Memᴰ t (primes c.pins (gives bits e)) → length t ≡ c.pins
  unfolding primes
  prime-length e t m = term_length c.pins t (kept (prime c.pins (gives bits e)) (terms c.pins) m).1

  pub tells : Tells c (output bits)
  tells =
      record {
        meets = λ xs l.
            any_found (λ t. meets t xs) (primes c.pins (gives bits (output bits xs)))
            ((setting_fact c.pins bits (output bits xs) xs l).0 refl)
            (λ t m h. (
              setting_row 1 t,
              rw (group_is c bits made (output bits xs)) (Memᴰ-map (setting_row 1) m),
              meets-met c (digit (output bits xs)) t (prime-length (output bits xs) t m) xs h,
            ));
        gives = λ xs l e r m h.
            let t = from_term e r m in
            (setting_fact c.pins bits e xs l).1
            (any-member (λ q. meets q xs) t.1
            (met-meets c (digit e) t.0 (prime-length e t.0 t.1) xs l (rw (← t.2) at h)));
        single = λ e r m i v w a b.
            let t = from_term e r m in
            named_once c (digit e) t.0 (prime-length e t.0 t.1) i v w (rw (← t.2) at a) (rw (← t.2) at b);
      }
