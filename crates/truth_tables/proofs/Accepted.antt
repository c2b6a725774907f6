-- The entry of every truth table is accepted by the library reader, and read as the table's cell.
use Rattle.common_laws.proofs.Base.{Bool, true, false, true≢false, not, List, [], ◌∷◌, map, List-as-Memᴰ, List-Memᴰ-head, List-Memᴰ-tail, none, some, ◌≡◌, refl, sym, ap, ◌∙◌, ℕ, zero}
use Rattle.common_laws.proofs.Base.{suc, ◌+◌, ◌*◌, ◌-◌, ◌/◌, ◌%◌, ◌^◌, ◌≤◌, ◌<◌, pow-le-pow_right, one-le-pow, add-mul-div_right, div-eq_of_lt, arith, length, length-map, pow-add}
use Rattle.common_laws.proofs.Base.{eq-eqb, ne_eqb, le-ltb, lt-leb}
use Rattle.common_laws.proofs.Numbers.{two-four}
use Rattle.sizes.specs.Sizes as Size
use Rattle.reading.specs.Each.{Each}
use Rattle.reading.proofs.Laws.{by_test, clash, and_left, each_member}
use Rattle.library_table.specs.Cells.{Row, Group, bit}
use Rattle.library_table.specs.declared.Word.{Word}
use Rattle.library_table.specs.declared.Word.TheVariants.{CC, CO, SC, SO}
use Rattle.library_table.specs.Library.{any_of, above_rows, above, names_none, observes_not, group_count, column_count, idle, empty_group, excepted, row_idle}
use Rattle.truth_tables.specs.Entries.{literal_columns, term_columns, observe_column, setting_row, observing_row, setting_group, observing_group, setting_groups, groups_from, observing_groups, cell_of, row_number}
use Rattle.truth_tables.specs.Statements.{EntryAccepted}
use Rattle.truth_tables.specs.Tables.{Setting, Term, output, same, fits, meets, terms, all_of, prime, implicant, dropped, primes, gives, put_in, changes, observing}
use Rattle.truth_tables.proofs.Lists.{kept, each-kept}
use Rattle.truth_tables.proofs.Cover.{same_true, implies}
use Rattle.truth_tables.proofs.Counts.{sixteen}
use Rattle.truth_tables.proofs.Order.{ordered-primes, ordered-observing, terms-length}
use Rattle.truth_tables.proofs.EntryRead.{Written, GoodLine, cell-read}

-- ---- of each row of a group

none_of : {A : Type 0} (p : A → Bool) (xs : List A) → Each (λ x. p x ≡ false) xs → any_of p xs ≡ false
unfolding any_of Each
none_of p [] e = refl
none_of p (x ∷ xs) e = rw e.0 (none_of p xs e.1)

each_row : (P : Row → Type 0) (w : ℕ) (row : Term → Row) → ((t : Term) → term_columns t < w → P (row t)) → (ts : List Term)
    → Each (λ v. v < w) (map term_columns ts) → Each P (map row ts)
unfolding Each
each_row P w row f [] e = tt
each_row P w row f (t ∷ ts) e = (f t e.0, each_row P w row f ts e.1)

four-most : (n : ℕ) → n ≤ 4 → 4 ^ n ≤ 256
four-most n h = let four : 0 < 4 = omega arith in pow-le-pow_right four h

-- What is asked of a group, by its rows.
record GoodGroup (w : Word) (n : ℕ) (g : Group) : Type 0 where
  rows : Each Written g
  few : above_rows g ≡ false
  within : any_of (above (column_count w n)) g ≡ false

group_few : (row : Term → Row) (ts : List Term) → length ts ≤ 16 → above_rows (map row ts) ≡ false
unfolding above_rows
group_few row ts h = rw (length-map ts row) (le-ltb 16 (length ts) h)

-- ---- setting

module _ (d n : ℕ) (bits : List Bool) (shallow : d ≤ 1) (h : n ≤ 4) where
  setting_group_lem : (e : Bool) → GoodGroup CC n (setting_group d n bits e)
  unfolding setting_group setting_row row_number above column_count
  setting_group_lem e =
      let ts = primes n (gives bits e) in
      let below = (ordered-primes n (gives bits e)).below in
      record {
        rows =
            each_row Written (4 ^ n) (setting_row d) (λ t q. record { depth = shallow; few = omega (arith, four-most n h) }) ts below;
        few = group_few (setting_row d) ts (sixteen n (gives bits e) h);
        within =
            none_of (above (2 * n)) (map (setting_row d) ts)
            (each_row (λ r. above (2 * n) r ≡ false) (4 ^ n) (setting_row d) (λ t q. lt-leb (2 ^ (2 * n)) (term_columns t) (omega (arith, two-four n))) ts below);
      }

-- A term that names no pin is met by every setting, and every term by some.
blank : (t : Term) (s : Setting) → length s ≡ length t → term_columns t ≡ 0 → meets t s ≡ true
unfolding meets fits term_columns literal_columns
blank [] [] l e = refl
blank [] (v ∷ s) l e = absurd (omega arith)
blank (p ∷ t) [] l e = absurd (omega arith)
blank (none ∷ t) (v ∷ s) l e = blank t s (omega arith) (omega arith)
blank (some true ∷ t) (v ∷ s) l e = let four : 0 < 4 = omega arith in absurd (omega (arith, one-le-pow (length t) 4 four))
blank (some false ∷ t) (v ∷ s) l e = let four : 0 < 4 = omega arith in absurd (omega (arith, one-le-pow (length t) 4 four))

sample : Term → Setting
sample [] = []
sample (none ∷ t) = false ∷ sample t
sample (some v ∷ t) = v ∷ sample t

sample-length : (t : Term) → length (sample t) ≡ length t
unfolding sample
sample-length [] = refl
sample-length (none ∷ t) = ap suc (sample-length t)
sample-length (some v ∷ t) = ap suc (sample-length t)

sample-met : (t : Term) → meets t (sample t) ≡ true
unfolding sample meets fits same
sample-met [] = refl
sample-met (none ∷ t) = sample-met t
sample-met (some true ∷ t) = sample-met t
sample-met (some false ∷ t) = sample-met t

named_each : (d : ℕ) (ts : List Term) → ((t : Term) → List-as-Memᴰ t ts → term_columns t ≡ 0 → ⊥) → any_of names_none (map (setting_row d) ts) ≡ false
unfolding any_of names_none setting_row
named_each d [] never = refl
named_each d (t ∷ ts) never =
    rw (ne_eqb (term_columns t) 0 (never t (List-Memᴰ-head refl))) (named_each d ts (λ q m. never q (List-Memᴰ-tail m)))

with-some : {D : Type 0} (d : ℕ) (qs : List Term) → empty_group (map (setting_row d) qs) ≡ false → ((q : Term) → List-as-Memᴰ q qs → D) → D
unfolding empty_group
with-some d [] s on = clash true refl s
with-some d (q ∷ qs) s on = on q (List-Memᴰ-head refl)

module _ (n : ℕ) (bits : List Bool) where
  prime-implies : (e : Bool) (t : Term) (s : Setting) → List-as-Memᴰ t (primes n (gives bits e)) → length s ≡ n → meets t s ≡ true → output bits s ≡ e
  unfolding primes prime gives
  prime-implies e t s m l q =
      let k = kept (prime n (gives bits e)) (terms n) m in
      same_true (output bits s) e
      (implies n (gives bits e) t s (and_left (implicant n (gives bits e) t) (all_of (λ q. not (implicant n (gives bits e) q)) (dropped t)) k.0) l q)

  prime-length : (e : Bool) (t : Term) → List-as-Memᴰ t (primes n (gives bits e)) → length t ≡ n
  unfolding primes
  prime-length e t m = each_member (λ q. length q ≡ n) m (each-kept (λ q. length q ≡ n) (prime n (gives bits e)) (terms n) (terms-length n))

  -- Where both groups have rows, each names a pin.
  apart : (e f : Bool) (t q : Term) → (e ≡ f → ⊥) → List-as-Memᴰ t (primes n (gives bits e)) → List-as-Memᴰ q (primes n (gives bits f)) → term_columns t ≡ 0 → ⊥
  apart e f t q d m k z =
      let s = sample q in
      let l : length s ≡ n = sample-length q ∙ prime-length f q k in
      d (sym (prime-implies e t s m l (blank t s (l ∙ sym (prime-length e t m)) z)) ∙ prime-implies f q s k l (sample-met q))

  named_all : (d : ℕ) (e f : Bool) → (e ≡ f → ⊥) → empty_group (setting_group d n bits f) ≡ false → any_of names_none (setting_group d n bits e) ≡ false
  unfolding setting_group
  named_all d e f a some-row =
      with-some d (primes n (gives bits f)) some-row
      (λ q k. named_each d (primes n (gives bits e)) (λ t m z. apart e f t q a m k z))

  -- "A CC or SC row may name no pin when the other group of its line is Z".
  setting-useful : (d : ℕ) → row_idle CC n (setting_groups d n bits) ≡ false
  unfolding row_idle excepted idle setting_groups any_of
  setting-useful d =
      let low = setting_group d n bits false in
      let high = setting_group d n bits true in
      by_test (empty_group low)
      (λ p. rw p refl)
      (λ p. by_test (empty_group high)
      (λ q. rw (p, q) refl)
      (λ q. rw (p, q, named_all d false true (λ e. true≢false (sym e)) q, named_all d true false (λ e. true≢false e) p) refl))

module _ (d n : ℕ) (bits : List Bool) (shallow : d ≤ 1) (h : n ≤ 4) where
  pub setting-line : GoodLine CC n (setting_groups d n bits)
  unfolding setting_groups group_count column_count any_of Each
  setting-line =
      let low = setting_group_lem d n bits shallow h false in
      let high = setting_group_lem d n bits shallow h true in
      record {
        rows = (low.rows, (high.rows, tt));
        count = refl;
        few = rw (low.few, high.few) refl;
        within = rw (low.within, high.within) refl;
        useful = setting-useful n bits d;
      }

  -- ---- observing

  observe : (x : ℕ) → x < 4 ^ n → observes_not n (record { depth = d; columns = observe_column n + x }) ≡ false
  unfolding observes_not bit observe_column
  observe x q =
      let p = 2 ^ (2 * n + 2) in
      let two : 0 < 2 = omega arith in
      let some-bit : 0 < p = one-le-pow (2 * n + 2) 2 two in
      let below : x < p = omega (arith, pow-add 2 (2 * n) 2, two-four n) in
      let parts : p + x ≡ x + 1 * p = omega arith in
      let top : (p + x) / p % 2 ≡ 1 = rw (parts, add-mul-div_right x 1 some-bit, div-eq_of_lt below) refl in
      ap not (eq-eqb ((p + x) / p % 2) 1 top)

  observing-length : (k : ℕ) → length (observing n bits k) ≤ 16
  unfolding observing
  observing-length k =
      rw (length-map (primes (n - 1) (changes bits k)) (λ t. put_in k none t)) (sixteen (n - 1) (changes bits k) (omega arith))

  -- Of each pin's group, for as many pins as are left.
  record GoodPins (gs : List Group) : Type 0 where
    rows : Each (Each Written) gs
    few : any_of above_rows gs ≡ false
    within : any_of (any_of (above (2 * n + 3))) gs ≡ false
    useful : any_of (any_of (observes_not n)) gs ≡ false

  observing_group_lem : (k : ℕ) → 1 ≤ n → (Each Written (observing_group d n bits k)) × (any_of (above (2 * n + 3)) (observing_group d n bits k) ≡ false) × (any_of (observes_not n) (observing_group d n bits k) ≡ false)
  unfolding observing_group observing_row row_number observe_column above
  observing_group_lem k some-pin =
      let ts = observing n bits k in
      let below = (ordered-observing n bits k some-pin).below in
      let four = pow-add 2 (2 * n) 2 in
      let eight = pow-add 2 (2 * n) 3 in (
        each_row Written (4 ^ n) (observing_row d n) (λ t q. record { depth = shallow; few = omega (arith, four-most n h, four, two-four n) }) ts below,
        none_of (above (2 * n + 3)) (map (observing_row d n) ts)
            (each_row (λ r. above (2 * n + 3) r ≡ false) (4 ^ n) (observing_row d n) (λ t q. lt-leb (2 ^ (2 * n + 3)) (2 ^ (2 * n + 2) + term_columns t) (omega (arith, four, eight, two-four n))) ts below),
        none_of (observes_not n) (map (observing_row d n) ts)
            (each_row (λ r. observes_not n r ≡ false) (4 ^ n) (observing_row d n) (λ t q. observe (term_columns t) q) ts below),
      )

  good-pins : (k left : ℕ) → left ≤ n → GoodPins (groups_from d n bits k left)
  unfolding groups_from any_of Each observing_group
  good-pins k zero q = record { rows = tt; few = refl; within = refl; useful = refl }
  good-pins k (suc left) q =
      let g = observing_group_lem k (omega arith) in
      let gs = good-pins (suc k) left (omega arith) in
      record {
        rows = (g.0, gs.rows);
        few = rw (group_few (observing_row d n) (observing n bits k) (observing-length k)) gs.few;
        within = rw g.1 gs.within;
        useful = rw g.2 gs.useful;
      }

  count-pins : (k left : ℕ) → length (groups_from d n bits k left) ≡ left
  unfolding groups_from
  count-pins k zero = refl
  count-pins k (suc left) = ap suc (count-pins (suc k) left)

  pub observing-line : GoodLine CO n (observing_groups d n bits)
  unfolding observing_groups group_count column_count row_idle excepted idle
  observing-line =
      let g = good-pins 0 n (omega arith) in
      record { rows = g.rows; count = count-pins 0 n; few = g.few; within = g.within; useful = g.useful }

-- The sequential lines are asked for the same as the combinational ones.
setting-other : (n : ℕ) (gs : List Group) → GoodLine CC n gs → GoodLine SC n gs
unfolding group_count column_count row_idle excepted idle
setting-other n gs g = record { rows = g.rows; count = g.count; few = g.few; within = g.within; useful = g.useful }

observing-other : (n : ℕ) (gs : List Group) → GoodLine CO n gs → GoodLine SO n gs
unfolding group_count column_count row_idle excepted idle
observing-other n gs g = record { rows = g.rows; count = g.count; few = g.few; within = g.within; useful = g.useful }

-- For every truth table: the entry is accepted by the library reader, and its decoded groups are those rows.
pub entry-accepted : EntryAccepted
unfolding cell_of
entry-accepted name n bits f h =
    cell-read name n (setting_groups 1 n bits) (observing_groups 1 n bits) (setting_groups 0 n bits) (observing_groups 0 n bits) f h
    (setting-line 1 n bits (omega arith) h)
    (observing-line 1 n bits (omega arith) h)
    (setting-other n (setting_groups 0 n bits) (setting-line 0 n bits (omega arith) h))
    (observing-other n (observing_groups 0 n bits) (observing-line 0 n bits (omega arith) h))
