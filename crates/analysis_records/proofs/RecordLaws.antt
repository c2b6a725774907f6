-- What the proofs of this crate cite of the definitions.
use Rattle.std.specs.Prelude.{Option as Maybe, Some, None, Result, Ok, Err, cond}
use Rattle.std.specs.Bool.{then_some}
use Rattle.std.specs.List.{list_all, list_any, position_or_len}
use Rattle.std.specs.Option.{unwrap_or}
use Rattle.common_laws.proofs.Base.{Bool, true, false, ◌&&◌, ◌||◌, List, [], ◌∷◌, ◌++◌, Option, ◌≡◌, refl, sym, ap, ◌∙◌, ℕ, suc, ◌+◌, ◌≤◌, arith, eqb, ltb, length}
use Rattle.common_laws.proofs.Base.{take, drop, ne_eqb, le-ltb, ltb-false, eqb-true, eqb-false}
use Rattle.sizes.specs.Sizes as Size
use Rattle.table.specs.Blocks.{fitted}
use Rattle.reading.specs.Choice.{pick}
use Rattle.reading.proofs.Laws.{by_test, clash}
use Rattle.library_table.specs.Cells.{Cell}
use Rattle.library_table.specs.Layout.{CellsTold}
use Rattle.library_table.proofs.Names.{holds-told}
use Rattle.netlist_table.specs.declared.RawStatement.{RawStatement}
use Rattle.netlist_table.specs.Netlist.{Statement, line_bad, any_line_bad}
use Rattle.netlist_table.specs.Admission.{StandsFor, Admits, words_after}
use Rattle.reading.specs.Cause.{refusal_number}
use Rattle.reading.specs.declared.Cause.{Cause}
use Rattle.reading.specs.declared.Refusal.{Refusal}
use Rattle.reading.proofs.Causes.{number-test, at_line}
use Rattle.analysis_records.specs.declared.record.Record.{Record}
use Rattle.analysis_records.specs.Records.{all_zero, pins_before, ends_in_zeros, mark_form, gate_form, record_form}
use Rattle.analysis_records.specs.Steps.{answer_after, RecordChecked, Checked}

-- ---- the pins

pub zeros_all : (ps : List ℕ) → list_all (λ p. eqb p 0) ps ≡ all_zero ps
unfolding all_zero
zeros_all [] = refl
zeros_all (p ∷ ps) = ap (λ (b : Bool). eqb p 0 && b) (zeros_all ps)

pub bad_any : (ps : List ℕ) → list_any line_bad ps ≡ any_line_bad ps
unfolding any_line_bad
bad_any [] = refl
bad_any (p ∷ ps) = ap (λ (b : Bool). line_bad p || b) (bad_any ps)

pub before_place : (ps : List ℕ) → position_or_len (λ p. eqb p 0) ps ≡ length (pins_before ps)
unfolding pins_before pick
before_place [] = refl
before_place (p ∷ ps) = by_test (eqb p 0) (λ t. rw t) (λ t. rw t (omega (arith, before_place ps)))

pub before_most : (ps : List ℕ) → length (pins_before ps) ≤ length ps
unfolding pins_before pick
before_most [] = omega arith
before_most (p ∷ ps) = by_test (eqb p 0) (λ t. rw t (omega arith)) (λ t. rw t (omega (arith, before_most ps)))

pub before_front : (ps : List ℕ) → take (length (pins_before ps)) ps ≡ pins_before ps
unfolding pins_before pick
before_front [] = refl
before_front (p ∷ ps) = by_test (eqb p 0) (λ t. rw t) (λ t. rw t (ap (λ (l : List ℕ). p ∷ l) (before_front ps)))

-- The place of the first 0, or the length where there is none.
pub before_found : (ps : List ℕ) (r : Maybe ℕ)
    → r ≡ cond (ltb (position_or_len (λ p. eqb p 0) ps) (length ps)) (Some (position_or_len (λ p. eqb p 0) ps)) None
    → unwrap_or r (length ps) ≡ length (pins_before ps)
before_found ps r e =
    let place = position_or_len (λ p. eqb p 0) ps in
    by_test (ltb place (length ps))
    (λ t. rw (e, t) (before_place ps))
    (λ t. rw (e, t) (omega (arith, ltb-false place (length ps) t, before_place ps, before_most ps)))

-- ---- a record's form

zeros-fitted : (ps : List ℕ) → all_zero ps ≡ true → ps ≡ fitted 0 (length ps) []
unfolding all_zero fitted
zeros-fitted [] h = refl
zeros-fitted (p ∷ ps) h =
    by_test (eqb p 0)
    (λ t. rw (eqb-true p 0 t) (ap (λ (l : List ℕ). 0 ∷ l) (zeros-fitted ps (rw t at h))))
    (λ t. clash false (rw t at h) refl)

-- No pin after a 0: those behind the first 0 are 0.
ends-behind : (ps : List ℕ) → ends_in_zeros ps ≡ all_zero (drop (length (pins_before ps)) ps)
unfolding ends_in_zeros pins_before all_zero pick
ends-behind [] = refl
ends-behind (p ∷ ps) = by_test (eqb p 0) (λ t. rw t (sym (ap (λ (b : Bool). b && all_zero ps) t))) (λ t. rw t (ends-behind ps))

-- Then the eight pins are those before the first 0, filled up.
ends-fitted : (ps : List ℕ) → ends_in_zeros ps ≡ true → ps ≡ fitted 0 (length ps) (pins_before ps)
unfolding ends_in_zeros pins_before fitted pick
ends-fitted [] h = refl
ends-fitted (p ∷ ps) h =
    by_test (eqb p 0)
    (λ t. let z = eqb-true p 0 t in rw (t, z) (ap (λ (l : List ℕ). 0 ∷ l) (zeros-fitted ps (rw t at h))))
    (λ t. rw t (ap (λ (l : List ℕ). p ∷ l) (ends-fitted ps (rw t at h))))

module _ (rec : Record) (p : RawStatement) (line : p.line ≡ rec.line) where
  pub gate_says : (n : ℕ) → rec.kind ≡ 2 → length rec.pins ≡ Size.pins → n ≡ length (pins_before rec.pins) → p.kind ≡ 2 → p.cell ≡ rec.cell → p.pins ≡ rec.pins → p.count ≡ n → p.bad ≡ any_line_bad (pins_before rec.pins)
      → StandsFor (then_some (all_zero (drop n rec.pins)) p) (record_form rec)
  unfolding record_form gate_form pick StandsFor
  gate_says n k e before kind cell pins count bad =
      let ends : all_zero (drop n rec.pins) ≡ ends_in_zeros rec.pins = ap (λ (m : ℕ). all_zero (drop m rec.pins)) before ∙ sym (ends-behind rec.pins) in
      by_test (ends_in_zeros rec.pins)
      (λ t. rw (k, ends, t) (record {
        kind = kind;
        cell = cell;
        line = line;
        pins = pins ∙ ends-fitted rec.pins t ∙ ap (λ (m : ℕ). fitted 0 m (pins_before rec.pins)) e;
        count = count ∙ before;
        bad = bad;
      }))
      (λ t. rw (k, ends, t) tt)

  pub mark_says : (rec.kind ≡ 2 → ⊥) → p.kind ≡ rec.kind
      → StandsFor (then_some ((ltb rec.kind 4 && eqb rec.cell 0) && all_zero rec.pins) p) (record_form rec)
  unfolding record_form mark_form pick StandsFor
  mark_says k kind =
      by_test (eqb rec.kind 0)
      (λ z.
      let e = eqb-true rec.kind 0 z in
      by_test (eqb rec.cell 0 && all_zero rec.pins)
      (λ t. rw (e, t) (record { kind = kind ∙ e; line = line }))
      (λ t. rw (e, t) tt))
      (λ z. by_test (eqb rec.kind 1)
      (λ o.
      let e = eqb-true rec.kind 1 o in
      by_test (eqb rec.cell 0 && all_zero rec.pins)
      (λ t. rw (e, t) (record { kind = kind ∙ e; line = line }))
      (λ t. rw (e, t) tt))
      (λ o. by_test (eqb rec.kind 3)
      (λ n.
      let e = eqb-true rec.kind 3 n in
      by_test (eqb rec.cell 0 && all_zero rec.pins)
      (λ t. rw (e, t) (record { kind = kind ∙ e; line = line }))
      (λ t. rw (e, t) tt))
      (λ n.
      let high : ltb rec.kind 4 ≡ false = le-ltb rec.kind 4 (omega (arith, k, eqb-false rec.kind 0 z, eqb-false rec.kind 1 o, eqb-false rec.kind 3 n)) in
      rw (z, o, ne_eqb rec.kind 2 k, n, high) tt)))

module _ (rec : Record) where
  abbrev Good : Bool
  Good = (ltb rec.kind 4 && eqb rec.cell 0) && all_zero rec.pins

  -- A mark that is told, and one of bad form.
  pub mark_told : (p : RawStatement) → p.kind ≡ rec.kind → p.line ≡ rec.line → (rec.kind ≡ 2 → ⊥) → Good ≡ true → StandsFor (Some p) (record_form rec)
  mark_told p kind line k e = rw e at (mark_says rec p line k kind)

  pub mark_none : (rec.kind ≡ 2 → ⊥) → Good ≡ false → StandsFor None (record_form rec)
  mark_none k e =
      let p : RawStatement = record { kind = rec.kind; cell = 0; line = rec.line; pins = []; count = 0; bad = false } in
      rw e at (mark_says rec p refl k refl)

-- ---- one step

-- The answer of a check, at a record's place.
pub answer_at : (r : Result (Unit {0}) Cause) (place : ℕ) → at_line r place ≡ answer_after (refusal_number r) place
unfolding at_line refusal_number answer_after pick
answer_at (Ok u) place = refl
answer_at (Err cause) place = rw (number-test cause)

module _ (lib : List ℕ) (place : ℕ) (rec : Record) (ts : List ℕ) where
  -- From what `admit` ensures of the record's plain numbers.
  pub stepped : (p : Maybe RawStatement) (number : ℕ) (r : Result (Unit {0}) Refusal) (us : List ℕ) → StandsFor p (record_form rec) → r ≡ answer_after number place
      → ((cells : List Cell) (w : Option Statement) → CellsTold lib cells → StandsFor p w → Admits cells w ts number us)
      → Checked lib place rec ts r us
  unfolding RecordChecked
  stepped p number r us said e ensures = record {
    checks = λ cells held ss so start.
        let h = ensures cells (record_form rec) (holds-told lib cells held) said ss so start in
        (e ∙ ap (λ (k : ℕ). answer_after k place) h.answers, h.leaves ∙ ap (λ (k : ℕ). words_after k ss (record_form rec) ++ start.past) h.answers);
  }
