-- The rows of value 1 of a cell that has a truth table tell the truth table.
use Rattle.common_laws.proofs.Base.{Bool, true, false, ◌&&◌, List, [], ◌∷◌, map, Option, none, some, ◌≡◌, refl, sym, ap, subst, ◌∙◌, ℕ, zero, suc, ◌+◌, ◌*◌, ◌/◌, ◌%◌, ◌^◌, ◌≤◌}
use Rattle.common_laws.proofs.Base.{◌<◌, min, one-le-pow, add-zero, mul-add-div_right, div-eq_of_lt, add-mul-mod_self_right, mod-eq_of_lt, arith, length, get_or, drop}
use Rattle.common_laws.proofs.Base.{drop_of_length-le, drop-cons}
use Rattle.sizes.specs.Sizes as Size
use Rattle.reading.specs.Choice.{pick}
use Rattle.reading.specs.Each.{Each}
use Rattle.library_table.specs.Cells.{Group, no_row}
use Rattle.library_table.specs.Library.{any_of}
use Rattle.truth_tables.specs.Entries.{literal_columns, term_columns, setting_row, setting_group}
use Rattle.truth_tables.specs.Tables.{Setting, Term, digit, settings, place, output, same, fits, meets, primes, gives}
use Rattle.truth_tables.proofs.Cover.{covered}
use Rattle.truth_tables.proofs.Lists.{map-map, map_each}
use Rattle.truth_tables.proofs.Order.{place-below, term_below}
use Rattle.truth_tables.proofs.Rows.{primes-length}
use Rattle.truth_rows.specs.Masks.{up_from}
use Rattle.truth_rows.proofs.Conditions.{places, settings-length}
use Rattle.truth_cells.specs.Words.{admits, met_by, rows_at, met_from, met_at, truth_bits}
use Rattle.truth_cells.proofs.Held.{Stands}

-- ---- a setting and a row

admits-fits : (l : Option Bool) (v : Bool) → admits (literal_columns l) (digit v) ≡ fits l v
unfolding admits literal_columns digit fits same pick
admits-fits none v = refl
admits-fits (some true) true = refl
admits-fits (some true) false = refl
admits-fits (some false) true = refl
admits-fits (some false) false = refl

top_digit : (c m j : ℕ) → 0 < m → j < m → (c * m + j) / m ≡ c
top_digit c m j positive below = rw (mul-add-div_right positive c j, div-eq_of_lt below) (add-zero c)

low-digits : (c m j : ℕ) → j < m → (c * m + j) % m ≡ j
low-digits c m j below =
    let turned : c * m + j ≡ j + c * m = omega arith in rw (turned, add-mul-mod_self_right j c m) (mod-eq_of_lt below)

met-meets : (t : Term) (s : Setting) → length t ≡ length s → met_by (length t) (term_columns t) (place s) ≡ meets t s
unfolding met_by term_columns place meets
met-meets [] [] e = refl
met-meets [] (v ∷ s) e = absurd (omega arith)
met-meets (l ∷ t) [] e = absurd (omega arith)
met-meets (l ∷ t) (v ∷ s) e =
    let long : length s ≡ length t = omega arith in
    let below : place s < 2 ^ length t = subst (λ (n : ℕ). place s < 2 ^ n) long (place-below s) in
    rw (
      long,
      top_digit (literal_columns l) (4 ^ length t) (term_columns t) (one-le-pow (length t) 4 (omega arith)) (term_below t),
      low-digits (literal_columns l) (4 ^ length t) (term_columns t) (term_below t),
      top_digit (digit v) (2 ^ length t) (place s) (one-le-pow (length t) 2 (omega arith)) below,
      low-digits (digit v) (2 ^ length t) (place s) below,
      admits-fits l v,
    )
    (ap (λ (b : Bool). fits l v && b) (met-meets t s (sym long)))

any-meets : (d n : ℕ) (s : Setting) → length s ≡ n → (ts : List Term) → Each (λ t. length t ≡ n) ts
    → any_of (λ r. met_by n r.columns (place s)) (map (setting_row d) ts) ≡ any_of (λ t. meets t s) ts
unfolding any_of setting_row Each
any-meets d n s l [] e = refl
any-meets d n s l (t ∷ ts) e =
    let met : met_by n (term_columns t) (place s) ≡ meets t s =
    ap (λ (m : ℕ). met_by m (term_columns t) (place s)) (sym e.0) ∙ met-meets t s (e.0 ∙ sym l) in
    rw (met, any-meets d n s l ts e.1) refl

-- ---- a setting and a group

module _ (table : List ℕ) (at : ℕ) (g : Group) (s : Stands table at g) (n x : ℕ) where
  any_from : (left r : ℕ) → r + left ≡ length g
      → met_from table at n x r left ≡ any_of (λ q. met_by n q.columns x) (drop r g)
  unfolding met_from any_of
  any_from zero r e = let past : length g ≤ r = omega arith in rw (drop_of_length-le g past) refl
  any_from (suc left) r e =
      let here : r < length g = omega arith in
      rw (drop-cons g r no_row here, s.columns r here, any_from left (suc r) (omega arith)) refl

  any_at : met_at table at n x ≡ any_of (λ q. met_by n q.columns x) g
  unfolding met_at rows_at
  any_at =
      let all : min (get_or table at 0) Size.rows ≡ length g = omega (arith, s.count, s.most) in
      rw all (any_from (length g) 0 (omega arith))

-- ---- the truth table

listed : (bits : List Bool) (left j : ℕ) → j + left ≡ length bits
    → map (λ i. get_or bits i false) (up_from j left) ≡ drop j bits
unfolding up_from
listed bits zero j e = let past : length bits ≤ j = omega arith in sym (drop_of_length-le bits past)
listed bits (suc left) j e =
    let here : j < length bits = omega arith in
    sym
    (drop-cons bits j false here
    ∙ ap (λ (l : List Bool). get_or bits j false ∷ l) (sym (listed bits left (suc j) (omega arith))))

same-one : (b : Bool) → same b true ≡ b
unfolding same
same-one true = refl
same-one false = refl

pub told : (table : List ℕ) (at d n : ℕ) (bits : List Bool) → length bits ≡ 2 ^ n
    → Stands table at (setting_group d n bits true) → truth_bits table at n ≡ bits
unfolding truth_bits setting_group gives output
told table at d n bits l s =
    let f : ℕ → Bool = λ j. get_or bits j false in
    ap (map (met_at table at n)) (sym (places n))
    ∙ map-map (met_at table at n) place (settings n)
    ∙ map_each (λ s. length s ≡ n) (λ q. met_at table at n (place q)) (λ q. f (place q)) one (settings n) (settings-length n)
    ∙ sym (map-map f place (settings n))
    ∙ ap (map f) (places n ∙ ap (up_from 0) (sym l))
    ∙ listed bits (length bits) 0 (omega arith)
  where
    one : (q : Setting) → length q ≡ n → met_at table at n (place q) ≡ get_or bits (place q) false
    one q e =
        any_at table at (setting_group d n bits true) s n (place q)
        ∙ any-meets d n q e (primes n (gives bits true)) (primes-length n (gives bits true))
        ∙ covered n (gives bits true) q e
        ∙ same-one (get_or bits (place q) false)
