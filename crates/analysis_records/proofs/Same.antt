-- The two callers tied: where the records say the same as a netlist text, statement by statement, the call over records and
-- the call over texts answer and leave the same.
use Rattle.common_laws.proofs.Base.{Bool, or-false, List, [], ◌∷◌, Option, ◌≡◌, refl, sym, ap, ◌∙◌, ℕ, ◌≤◌, ltb, length, le-ltb}
use Rattle.sizes.specs.Sizes as Size
use Rattle.reading.specs.Numbers as No
use Rattle.text.specs.Bytes.{bytes}
use Rattle.reading.specs.Refusal.{Read, refused, read, ◌>>=◌, ◌>>◌, weigh}
use Rattle.library_table.specs.Cells.{Cell}
use Rattle.library_table.specs.Library.{library}
use Rattle.netlist_table.specs.declared.Rules.TheVariants.{New}
use Rattle.netlist_table.specs.Netlist.{Statement, admitted, text_statements, declared, netlist, netlist_open}
use Rattle.demands.specs.Outcome.{Lent, Pair, pair_of, given_by, given_texts, text_long, table_short, conclude, read_pair, reading, entry, outcome, answer, left, left_from}
use Rattle.analysis_records.specs.declared.record.Record.{Record}
use Rattle.analysis_records.specs.Records.{all_zero, pins_before, ends_in_zeros, mark_form, gate_form, record_form, record_forms, record_statements, from_records}
use Rattle.analysis_records.specs.Outcome.{given_records}
use Rattle.analysis_records.specs.Same.{SaySame, SameCalls}

module _ (lib net : List ℕ) (rs : List Record) (same : SaySame lib net rs) where
  same-statements : (cells : List Cell) → library lib ≡ read cells → from_records rs cells ≡ netlist New cells net
  unfolding SaySame from_records record_statements netlist text_statements
  same-statements cells e = ap (λ (ws : List (Option Statement)). admitted 1 cells [] ws >>= declared New) (same cells e)

  by_library : (o : Read (List Cell)) → library lib ≡ o
      → (o >>= λ cells. from_records rs cells >>= λ ss. read (pair_of cells ss)) ≡ (o >>= λ cells. netlist New cells net >>= λ ss. read (pair_of cells ss))
  unfolding ◌>>=◌
  by_library (refused n l) e = refl
  by_library (read cells) e = ap (λ (r : Read (List Statement)). r >>= λ ss. read (pair_of cells ss)) (same-statements cells e)

  same-pair : read_pair (given_records lib rs) ≡ read_pair (given_texts lib net)
  unfolding read_pair given_records given_by
  same-pair = by_library (library lib) refl

  same-reading : (space : ℕ) → reading (given_records lib rs) space ≡ reading (given_texts lib net) space
  unfolding reading
  same-reading space = ap (λ (r : Read Pair). r >>= λ p. conclude p.cells p.statements space) same-pair

  module _ (short : length net ≤ Size.text_bytes) where
    same-long : (given_records lib rs).long ≡ (given_texts lib net).long
    unfolding given_records given_by text_long
    same-long = sym (rw (le-ltb Size.text_bytes (length net) short) (or-false (ltb Size.text_bytes (length lib))))

    same-entry : (m : Lent) → entry (given_records lib rs) m ≡ entry (given_texts lib net) m
    unfolding entry
    same-entry m = ap (λ (t : Bool). weigh 0 ((No.table_short, table_short m) ∷ (No.text_long, t) ∷ [])) same-long

    pub same_outcome : (m : Lent) → outcome (given_records lib rs) m ≡ outcome (given_texts lib net) m
    unfolding outcome
    same_outcome m = λ i. same-entry m i >> same-reading (length m.report) i

    same_left : (m : Lent) → left (given_records lib rs) m ≡ left (given_texts lib net) m
    unfolding left
    same_left m = λ i. left_from (same-entry m i) (same-reading (length m.report) i) m

-- Of two calls that keep their promises, which `analyse_records` and `analysis_call::analyse` do.
pub same-calls : SameCalls
same-calls lib net rs same short before after after' said said' p q = (
  p.answers ∙ ap answer (same_outcome lib net rs same short before) ∙ sym q.answers,
  p.leaves ∙ same_left lib net rs same short before ∙ sym q.leaves,
)

-- An input, an output, an open line and a line of bad form, said both ways; the cells do not matter to them.
marks-same : (lib : List ℕ) → SaySame lib (bytes "input,1\noutput,2\nopen,2\ninput,01\n")
    (record { kind = 0; cell = 0; line = 1; pins = 0 ∷ 0 ∷ 0 ∷ 0 ∷ 0 ∷ 0 ∷ 0 ∷ 0 ∷ [] }
    ∷ record { kind = 1; cell = 0; line = 2; pins = 0 ∷ 0 ∷ 0 ∷ 0 ∷ 0 ∷ 0 ∷ 0 ∷ 0 ∷ [] }
    ∷ record { kind = 3; cell = 0; line = 2; pins = 0 ∷ 0 ∷ 0 ∷ 0 ∷ 0 ∷ 0 ∷ 0 ∷ 0 ∷ [] }
    ∷ record { kind = 4; cell = 0; line = 1; pins = 0 ∷ 0 ∷ 0 ∷ 0 ∷ 0 ∷ 0 ∷ 0 ∷ 0 ∷ [] }
    ∷ [])
unfolding netlist_open SaySame all_zero pins_before ends_in_zeros mark_form gate_form record_form record_forms
marks-same lib cells e = refl
