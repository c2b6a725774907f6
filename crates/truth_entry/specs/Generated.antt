-- What the generator makes of a text, and what it leaves in a lent buffer. Document 02, K6.
use Rattle.std.specs.Prelude.{Bool, true, not, ◌&&◌, List, [], ◌∷◌, map, ◌≡◌, ℕ, ◌^◌, leb, ltb, eqb, length, Result, Ok, Err}
use Rattle.std.proofs.Math.Option.{Option, none, some}
use Rattle.sizes.specs.Sizes as Size
use Rattle.reading.specs.Choice.{pick}
use Rattle.reading.specs.Cause.{cause_number}
use Rattle.reading.specs.declared.Cause.{Cause}
use Rattle.reading.specs.Numbers as No
use Rattle.reading.specs.Refusal.{Read, read, refused, ◌>>=◌, ◌>>◌, weigh, form, refusal_open}
use Rattle.text.specs.Lines.{lines, lines_open}
use Rattle.text.specs.Numeral.{decimal, name_form, numeral_open}
use Rattle.writer.specs.Buffer.{text_within}
use Rattle.library_table.specs.Library.{Fields}
use Rattle.truth_tables.specs.Entries.{cell_of, entry_bytes, entries_open}
use Rattle.truth_tables.specs.Tables.{all_of}
use Rattle.truth_rows.specs.Masks.{is_bit, is_one, Bits}

-- ---- the line

-- "one line `NAME,n,BITS`"
pub record TableLine : Type 0 where
  pub name : List ℕ
  pub pins : ℕ
  pub bits : List ℕ

unfoldable pub with_pins : List ℕ → List ℕ → Option ℕ → Option TableLine
with_pins name bits none = none
with_pins name bits (some n) = some (record { name = name; pins = n; bits = bits })

-- The name has a cell name's form, n a decimal field's, BITS are 0s and 1s; none is bad form.
unfoldable pub table_line : (formed : Bool) (name n bits : List ℕ) → Option TableLine
table_line formed name n bits = pick (formed && (name_form name && all_of is_bit bits)) (with_pins name bits (decimal n)) none

unfoldable pub table_after : Fields → Option TableLine
table_after [] = none
table_after (name ∷ []) = none
table_after (name ∷ (n ∷ [])) = none
table_after (name ∷ (n ∷ (bits ∷ []))) = table_line true name n bits
table_after (name ∷ (n ∷ (bits ∷ (f ∷ fs)))) = none

-- "reads one line": with its byte 10, and nothing after it.
unfoldable pub ended : Option Fields → Option TableLine
ended none = none
ended (some fs) = table_after fs

unfoldable pub one_line : List (Option Fields) → Option TableLine
one_line [] = none
one_line (l ∷ []) = ended l
one_line (l ∷ (k ∷ ls)) = none

-- ---- the entry

-- "n from 0 to 4, BITS the 2^n output values"; "an n above 4, with BITS of any length, is 5". "Both are at line 1".
unfoldable pub wrong_count : TableLine → Bool
wrong_count t = leb t.pins 4 && not (eqb (length t.bits) (2 ^ t.pins))

unfoldable pub entry_of : TableLine → Read (List ℕ)
entry_of t =
    weigh 1 ((No.library_form, wrong_count t) ∷ (No.pins_bad, ltb 4 t.pins) ∷ [])
    >> read (entry_bytes (cell_of t.name t.pins (map is_one t.bits)))

-- "Any other form is 3".
unfoldable pub judged : Option TableLine → Read (List ℕ)
judged o = form No.library_form 1 o >>= entry_of

-- What is told of such a line, whose name and BITS these are: the pins of its truth table, or why it has none.
abbrev pub Tells : Option TableLine → (name bits : List ℕ) → Result ℕ Cause → Type 0
Tells o name bits (Ok n) = Bits n bits × (judged o ≡ read (entry_bytes (cell_of name n (map is_one bits))))
Tells o name bits (Err cause) = judged o ≡ refused (cause_number cause) 1

-- What the program prints of a text: an entry, or a refusal. "refusal 2" is "as in `scoap`".
unfoldable pub generated : List ℕ → Read (List ℕ)
generated text = weigh 0 ((No.text_long, ltb Size.text_bytes (length text)) ∷ []) >> judged (one_line (lines text))

-- ---- in a lent buffer, which has room for so many bytes: "17 report longer than its buffer"

unfoldable pub judged_into : ℕ → Option TableLine → Read (List ℕ)
judged_into room o = judged o >>= text_within No.report_long room

unfoldable pub generated_into : List ℕ → ℕ → Read (List ℕ)
generated_into text room = generated text >>= text_within No.report_long room

-- Opens the page's definitions, where a figure computes with them.
unfoldable pub generated_open : ℕ
unfolding refusal_open lines_open numeral_open entries_open is_bit is_one with_pins table_line table_after ended one_line wrong_count
    entry_of judged generated
generated_open = 0
