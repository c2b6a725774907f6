-- No entry of a truth table is long.
use Rattle.common_laws.proofs.Base.{Bool, true, false, List, [], ◌∷◌, ◌++◌, map, none, ◌≡◌, refl, ℕ, zero, suc, ◌+◌, ◌*◌, ◌-◌, ◌≤◌, arith, length, length-append, length-map}
use Rattle.reading.specs.Each.{Each}
use Rattle.text.specs.Bytes.{bytes}
use Rattle.text.specs.Numeral.{name_form}
use Rattle.text.proofs.FieldLaws.{name_form-length}
use Rattle.writer.specs.Octal.{octal_bytes}
use Rattle.writer.proofs.Decimal.{decimal-length}
use Rattle.writer.proofs.Octal.{octal_most}
use Rattle.library_table.specs.Cells.{Group}
use Rattle.truth_tables.specs.Entries.{setting_row, observing_row, setting_group, observing_group, setting_groups, groups_from, observing_groups, cell_of, row_number, row_bytes, group_bytes, groups_bytes, line_bytes, name_bytes, entry_bytes}
use Rattle.truth_tables.specs.Tables.{primes, gives, put_in, changes, observing}
use Rattle.truth_tables.proofs.Counts.{sixteen}

group_most : (g : Group) → length (group_bytes g) ≤ 1 + 25 * length g
unfolding group_bytes row_bytes bytes
group_most [] = omega arith
group_most (r ∷ []) = omega (arith, octal_most (row_number r))
group_most (r ∷ (q ∷ g)) =
    rw (length-append (octal_bytes (row_number r)) (44 ∷ 77 ∷ 44 ∷ group_bytes (q ∷ g)))
    (omega (arith, octal_most (row_number r), group_most (q ∷ g)))

-- Groups of at most 16 rows.
groups-most : (gs : List Group) → Each (λ g. length g ≤ 16) gs → length (groups_bytes gs) ≤ 402 * length gs
unfolding groups_bytes Each
groups-most [] e = omega arith
groups-most (g ∷ gs) e =
    rw (length-append (group_bytes g) (groups_bytes gs)) (omega (arith, group_most g, groups-most gs e.1, e.0))

line-most : (word : List ℕ) (gs : List Group) → length word ≤ 2 → length gs ≤ 4 → Each (λ g. length g ≤ 16) gs → length (line_bytes word gs) ≤ 1611
unfolding line_bytes
line-most word gs w l e =
    rw (length-append word (groups_bytes gs ++ (10 ∷ [])), length-append (groups_bytes gs) (10 ∷ [])) (omega (arith, groups-most gs e))

module _ (d n : ℕ) (bits : List Bool) (h : n ≤ 4) where
  setting-rows : Each (λ g. length g ≤ 16) (setting_groups d n bits)
  unfolding setting_groups setting_group Each
  setting-rows = (one false, (one true, tt))
    where
      one : (e : Bool) → length (map (setting_row d) (primes n (gives bits e))) ≤ 16
      one e = rw (length-map (primes n (gives bits e)) (setting_row d)) (sixteen n (gives bits e) h)

  pins-rows : (k left : ℕ) → (length (groups_from d n bits k left) ≡ left) × Each (λ g. length g ≤ 16) (groups_from d n bits k left)
  unfolding groups_from observing_group observing Each
  pins-rows k zero = (refl, tt)
  pins-rows k (suc left) =
      let more = pins-rows (suc k) left in
      let ts = primes (n - 1) (changes bits k) in (
        omega (arith, more.0),
        (
          rw (length-map (map (λ t. put_in k none t) ts) (observing_row d n), length-map ts (λ t. put_in k none t)) (sixteen (n - 1) (changes bits k) (omega arith)),
          more.1,
        ),
      )

setting-two : (d n : ℕ) (bits : List Bool) → length (setting_groups d n bits) ≤ 4
unfolding setting_groups
setting-two d n bits = omega arith

pins-four : (d n : ℕ) (bits : List Bool) → n ≤ 4 → (length (observing_groups d n bits) ≤ 4) × Each (λ g. length g ≤ 16) (observing_groups d n bits)
unfolding observing_groups
pins-four d n bits h = let p = pins-rows d n bits h 0 n in (omega (arith, p.0), p.1)

-- The longest that an entry may be, far from what one is.
abbrev pub longest_entry : ℕ
longest_entry = 6500

pub entry-short : (name : List ℕ) (n : ℕ) (bits : List Bool) → name_form name ≡ true → n ≤ 4 → length (entry_bytes (cell_of name n bits)) ≤ longest_entry
unfolding entry_bytes cell_of name_bytes bytes
entry-short name n bits f h =
    let cc = line-most (67 ∷ 67 ∷ []) (setting_groups 1 n bits) (omega arith) (setting-two 1 n bits) (setting-rows 1 n bits h) in
    let sc = line-most (83 ∷ 67 ∷ []) (setting_groups 0 n bits) (omega arith) (setting-two 0 n bits) (setting-rows 0 n bits h) in
    let co = line-most (67 ∷ 79 ∷ []) (observing_groups 1 n bits) (omega arith) (pins-four 1 n bits h).0 (pins-four 1 n bits h).1 in
    let so = line-most (83 ∷ 79 ∷ []) (observing_groups 0 n bits) (omega arith) (pins-four 0 n bits h).0 (pins-four 0 n bits h).1 in
    simp length-append (omega (arith, cc, sc, co, so, (name_form-length name f).1, (decimal-length n).1))
