-- What a line of given fields comes to, case by case.
use Rattle.common_laws.proofs.Base.{Bool, true, false, ◌&&◌, List, map, Option, none, some, ◌≡◌, refl, sym, ℕ, ◌^◌, ◌≤◌, ◌<◌, ltb, length, lt-ltb, le-ltb, le-leb, lt-leb, eq-eqb, ne_eqb}
use Rattle.reading.specs.Choice.{pick}
use Rattle.reading.specs.Numbers as No
use Rattle.reading.specs.Refusal.{Read, read, refused, ◌>>=◌, ◌>>◌, weigh, form}
use Rattle.reading.proofs.Laws.{by_test, and_right, refused-read}
use Rattle.text.specs.Numeral.{decimal, name_form}
use Rattle.truth_tables.specs.Entries.{cell_of, entry_bytes}
use Rattle.truth_tables.specs.Tables.{all_of}
use Rattle.truth_rows.specs.Masks.{is_bit, is_one}
use Rattle.truth_entry.specs.Generated.{TableLine, with_pins, table_line, wrong_count, entry_of, judged}

module _ (formed : Bool) (name digits bits : List ℕ) where
  abbrev pub line : Option TableLine
  line = table_line formed name digits bits

  pub comes-unformed : (formed && (name_form name && all_of is_bit bits)) ≡ false → judged line ≡ refused 3 1
  unfolding table_line pick judged form ◌>>=◌
  comes-unformed e = rw e refl

  module _ (g : (formed && (name_form name && all_of is_bit bits)) ≡ true) where
    by_pins : line ≡ with_pins name bits (decimal digits)
    unfolding table_line pick
    by_pins = rw g refl

    pub comes-bad : decimal digits ≡ none → judged line ≡ refused 3 1
    unfolding judged form ◌>>=◌ with_pins
    comes-bad e = rw (by_pins, e) refl

    module _ (n : ℕ) (e : decimal digits ≡ some n) where
      pub comes-many : 4 < n → judged line ≡ refused 5 1
      unfolding judged form ◌>>=◌ with_pins entry_of wrong_count weigh pick ◌>>◌
      comes-many h = rw (by_pins, e, lt-leb n 4 h, lt-ltb 4 n h) refl

      module _ (h : n ≤ 4) where
        pub comes-wrong : (length bits ≡ 2 ^ n → ⊥) → judged line ≡ refused 3 1
        unfolding judged form ◌>>=◌ with_pins entry_of wrong_count weigh pick ◌>>◌
        comes-wrong d = rw (by_pins, e, le-leb n 4 h, ne_eqb (length bits) (2 ^ n) d) refl

        pub comes-made : length bits ≡ 2 ^ n → judged line ≡ read (entry_bytes (cell_of name n (map is_one bits)))
        unfolding judged form ◌>>=◌ with_pins entry_of wrong_count weigh pick ◌>>◌
        comes-made l = rw (by_pins, e, le-leb n 4 h, eq-eqb (length bits) (2 ^ n) l, le-ltb 4 n h) refl

    pub bits-all : all_of is_bit bits ≡ true
    bits-all = and_right (name_form name) (all_of is_bit bits) (and_right formed (name_form name && all_of is_bit bits) g)

-- A line is refused behind the entry.
pub judged-behind : (o : Option TableLine) (number line : ℕ) → judged o ≡ refused number line → No.of_entry number ≡ false
unfolding judged form ◌>>=◌ entry_of weigh pick ◌>>◌
judged-behind none number line e = let same : number ≡ No.library_form = cc in rw same refl
judged-behind (some t) number line e =
    by_test (wrong_count t)
    (λ w. let same : number ≡ No.library_form = by_refusal (rw w at e) in rw same refl)
    (λ w. by_test (ltb 4 t.pins)
    (λ q. let same : number ≡ No.pins_bad = by_refusal (rw (w, q) at e) in rw same refl)
    (λ q. refused-read (sym (rw (w, q) at e))))
  where
    by_refusal : {a b line place : ℕ} → ◌≡◌ {A = Read (List ℕ)} (refused a place) (refused b line) → b ≡ a
    by_refusal e = cc
