-- What checking and admitting one statement answers and leaves, for each way through the code.
use Rattle.common_laws.proofs.Base.{true, false, not, List, [], ◌∷◌, ◌++◌, Option, some, ◌≡◌, refl, sym, ap, ◌∙◌, ℕ, zero, suc, ◌+◌, ◌%◌, ◌≤◌, ◌<◌, min}
use Rattle.common_laws.proofs.Base.{not-suc-le-zero, le_of_suc-le-suc, arith, eqb, length, get_or, set, take, take_all, rules, eq-eqb, ne_eqb, eqb-true, leb-false, not-true}
use Rattle.common_laws.proofs.Base.{not-false}
use Rattle.sizes.specs.Places.{driver_place, mention_place, range_place}
use Rattle.sizes.specs.Sizes as Size
use Rattle.table.specs.Blocks.{fitted}
use Rattle.table.proofs.Places.{length-fitted}
use Rattle.reading.specs.Choice.{pick}
use Rattle.reading.specs.Each.{Each}
use Rattle.reading.specs.Numbers as No
use Rattle.reading.proofs.Laws.{or_left}
use Rattle.library_table.specs.Cells.{Cell}
use Rattle.library_table.specs.Layout.{FewPins}
use Rattle.netlist_table.specs.declared.RawStatement.{RawStatement}
use Rattle.netlist_table.specs.Netlist.{
  Gate,
  Mark,
  input,
  output,
  opened,
  Statement,
  Range,
  mark,
  gate,
  priced,
  claimed,
  is_input,
  bounds_bad,
  has_range,
  lines_of,
  lines_claimed,
  gates_of,
  line_bad,
  any_line_bad,
  unknown_cell,
  pins_at,
  count_differs,
  any_member,
  driven_before,
}
use Rattle.netlist_table.specs.Layout.{gate_words, netlist_words, NetlistHolds}
use Rattle.netlist_table.specs.Lines.{input_at}
use Rattle.netlist_table.specs.Admission.{
  IsGate,
  gate_cause,
  refusal_of,
  extended,
  words_after,
  Decided,
  mark_place,
  mark_number,
  mark_value,
  mention_all,
  range_stored,
  gate_stored,
  gate_added,
}
use Rattle.netlist_table.specs.Sound.{Sound}
use Rattle.netlist_table.proofs.Places.{netlist-count, driver-word, output-word, range-word}
use Rattle.netlist_table.proofs.LowestCause.{lowest-none}
use Rattle.netlist_table.proofs.Causes.{line_bad-range, taken, mark_word, word-taken, mark_cause, gate-causes, range_cause, driver-input, range-taken}
use Rattle.netlist_table.proofs.Soundness.{gate-space}
use Rattle.netlist_table.proofs.Stores.{stored-mark, stored-gate, stored-range}

mark_some : (m : Mark) → mark_number m ≡ 0 → ⊥
mark_some input e = omega arith
mark_some output e = omega arith
mark_some opened e = omega arith

module _ (cells : List Cell) {table : List ℕ} {ss : List Statement} (holds : NetlistHolds table ss) where
  -- A statement that is refused leaves the table as it was.
  pub refuses : (w : Option Statement) (number : ℕ) → (number ≡ 0 → ⊥) → number ≡ refusal_of cells ss w
      → Decided cells ss w holds.past number table
  unfolding words_after pick
  refuses w number h e = record { answers = e; leaves = rw (ne_eqb number 0 h) holds.words }

  admits : (s : Statement) (after : List ℕ) → 0 ≡ refusal_of cells ss (some s)
      → after ≡ netlist_words (ss ++ (s ∷ [])) ++ holds.past
      → Decided cells ss (some s) holds.past 0 after
  unfolding words_after extended pick
  admits s after e h = record { answers = e; leaves = h }

  -- ---- a mark

  module _ (m : Mark) (l : ℕ) (good : line_bad l ≡ false) where
    at_mark : get_or table (mark_place m l) 0 ≡ mark_word m ss l
    unfolding mark_word
    at_mark = rw holds.words (go m)
      where
        go : (k : Mark) → get_or (netlist_words ss ++ holds.past) (mark_place k l) 0 ≡ mark_word k ss l
        go input = driver-word ss holds.past l (line_bad-range l good).0 (line_bad-range l good).1
        go output = output-word ss holds.past l (line_bad-range l good).0 (line_bad-range l good).1
        go opened = driver-word ss holds.past l (line_bad-range l good).0 (line_bad-range l good).1

    -- The word of a mark, as a test.
    is_taken : (get_or table (mark_place m l) 0 ≡ 0 → ⊥) → taken m ss l ≡ true
    is_taken h = not-false (taken m ss l) (sym (word-taken m ss l) ∙ ne_eqb (mark_word m ss l) 0 (λ e. h (at_mark ∙ e)))

    is_free : get_or table (mark_place m l) 0 ≡ 0 → taken m ss l ≡ false
    is_free h = not-true (taken m ss l) (sym (word-taken m ss l) ∙ eq-eqb (mark_word m ss l) 0 (sym at_mark ∙ h))

    pub mark-second : (get_or table (mark_place m l) 0 ≡ 0 → ⊥)
        → Decided cells ss (some (mark m l)) holds.past (mark_number m) table
    unfolding refusal_of pick
    mark-second h = refuses (some (mark m l)) (mark_number m) (mark_some m) (rw (mark_cause cells ss m l, good, is_taken h))

    pub mark-admitted : get_or table (mark_place m l) 0 ≡ 0
        → Decided cells ss (some (mark m l)) holds.past 0 (set (set table (mark_place m l) (mark_value m)) (mention_place l) 1)
    unfolding refusal_of mention_all pick
    mark-admitted h =
        admits (mark m l) _ (rw (mark_cause cells ss m l, good, is_free h))
        (ap (λ (t : List ℕ). mention_all (l ∷ []) (set t (mark_place m l) (mark_value m))) holds.words
        ∙ stored-mark ss holds.past m l good (is_free h))

  pub mark-bad : (m : Mark) (l : ℕ) → line_bad l ≡ true → Decided cells ss (some (mark m l)) holds.past No.line_bad table
  unfolding refusal_of pick
  mark-bad m l bad = refuses (some (mark m l)) No.line_bad (λ e. omega arith) (rw (mark_cause cells ss m l, bad))

-- ---- a range

module _ (cells : List Cell) {table : List ℕ} {ss : List Statement} (holds : NetlistHolds table ss) (so : Sound cells ss) (r : Range) where
  pub range-line : line_bad r.line ≡ true → Decided cells ss (some (priced r)) holds.past No.line_bad table
  unfolding refusal_of pick
  range-line bad = refuses cells holds (some (priced r)) No.line_bad (λ e. omega arith) (rw (range_cause cells ss r, bad))

  module _ (good : line_bad r.line ≡ false) where
    -- The two words of the table, as tests.
    asks-input : input_at table r.line ≡ is_input r.line ss
    asks-input =
        rw (holds.words, driver-word ss holds.past r.line (line_bad-range r.line good).0 (line_bad-range r.line good).1)
        (driver-input ss r.line)

    asks-range : eqb (get_or table (range_place r.line) 0) 0 ≡ not (has_range r.line ss)
    asks-range =
        rw (holds.words, range-word ss holds.past r.line (line_bad-range r.line good).0 (line_bad-range r.line good).1)
        (range-taken ss r.line so.ranges)

    pub range-unmarked : input_at table r.line ≡ false → Decided cells ss (some (priced r)) holds.past No.not_input table
    unfolding refusal_of pick
    range-unmarked h =
        let no : is_input r.line ss ≡ false = sym asks-input ∙ h in
        refuses cells holds (some (priced r)) No.not_input (λ e. omega arith) (rw (range_cause cells ss r, good, no))

    module _ (marked : input_at table r.line ≡ true) where
      is-input : is_input r.line ss ≡ true
      is-input = sym asks-input ∙ marked

      pub range-unfit : bounds_bad r.low r.high ≡ true → Decided cells ss (some (priced r)) holds.past No.range_bad table
      unfolding refusal_of pick
      range-unfit bad =
          refuses cells holds (some (priced r)) No.range_bad (λ e. omega arith) (rw (range_cause cells ss r, good, is-input, bad))

      module _ (fit : bounds_bad r.low r.high ≡ false) where
        pub range-second : (get_or table (range_place r.line) 0 ≡ 0 → ⊥)
            → Decided cells ss (some (priced r)) holds.past No.range_bad table
        unfolding refusal_of pick
        range-second h =
            let has : has_range r.line ss ≡ true = not-false _ (sym asks-range ∙ ne_eqb _ 0 h) in
            refuses cells holds (some (priced r)) No.range_bad (λ e. omega arith)
            (rw (range_cause cells ss r, good, is-input, fit, has))

        pub range-admitted : get_or table (range_place r.line) 0 ≡ 0
            → Decided cells ss (some (priced r)) holds.past 0 (range_stored r table)
        unfolding refusal_of pick
        range-admitted e =
            let free : has_range r.line ss ≡ false = not-true _ (sym asks-range ∙ eq-eqb _ 0 e) in
            admits cells holds (priced r) _ (rw (range_cause cells ss r, good, is-input, fit, free))
            (ap (range_stored r) holds.words ∙ stored-range ss holds.past r good free)

-- ---- a gate

-- What a gate with no cause of its own is known to be.
record Whole (cells : List Cell) (g : Gate) : Type 0 where
  lines : any_line_bad (g.line ∷ g.pins) ≡ false
  known : g.cell < length cells
  count : length g.pins ≡ pins_at cells g.cell

gate_whole : (cells : List Cell) (g : Gate) → gate_cause cells g ≡ 0 → Whole cells g
unfolding gate_cause lines_of unknown_cell count_differs Each
gate_whole cells g h =
    let none = lowest-none _ (search rules) h in
    record {
      lines = none.0;
      known = leb-false (length cells) g.cell none.1.0;
      count = eqb-true (length g.pins) (pins_at cells g.cell) (not-false _ none.1.1.0);
    }

pins_at-few : (cells : List Cell) (k : ℕ) → Each FewPins cells → pins_at cells k ≤ Size.pins
unfolding Each FewPins pins_at
pins_at-few [] k e = omega arith
pins_at-few (c ∷ cells) zero e = e.0
pins_at-few (c ∷ cells) (suc k) e = pins_at-few cells k e.1

take-fitted : (n k : ℕ) (xs : List ℕ) → n ≤ k → length xs ≡ n → take n (fitted 0 k xs) ≡ xs
unfolding fitted
take-fitted zero k [] h e = refl
take-fitted zero k (x ∷ xs) h e = absurd (omega arith)
take-fitted (suc n) zero xs h e = absurd (not-suc-le-zero h)
take-fitted (suc n) (suc k) [] h e = absurd (omega arith)
take-fitted (suc n) (suc k) (x ∷ xs) h e = ap (λ (l : List ℕ). x ∷ l) (take-fitted n k xs (le_of_suc-le-suc h) (omega arith))

module _ (cells : List Cell) {table : List ℕ} {ss : List Statement} (holds : NetlistHolds table ss) (g : Gate) where
  pub gate-own : (n : ℕ) → n ≡ gate_cause cells g → (n ≡ 0 → ⊥) → Decided cells ss (some (gate g)) holds.past n table
  unfolding refusal_of pick
  gate-own n e h =
      refuses cells holds (some (gate g)) n h (rw (gate-causes cells ss g, ne_eqb (gate_cause cells g) 0 (λ z. h (e ∙ z))) e)

  module _ (none : 0 ≡ gate_cause cells g) where
    whole : Whole cells g
    whole = gate_whole cells g (sym none)

    good : line_bad g.line ≡ false
    unfolding any_line_bad
    good = or_left (line_bad g.line) (any_line_bad g.pins) whole.lines

    pub gate-driven : (get_or table (driver_place g.line) 0 ≡ 0 → ⊥)
        → Decided cells ss (some (gate g)) holds.past No.driven_before table
    unfolding refusal_of taken pick
    gate-driven h =
        refuses cells holds (some (gate g)) No.driven_before (λ e. omega arith)
        (rw (gate-causes cells ss g, ← none, is_taken cells holds input g.line good h))

    module _ (free : get_or table (driver_place g.line) 0 ≡ 0) where
      undriven : claimed g.line ss ≡ false
      unfolding taken
      undriven = is_free cells holds input g.line good free

      free-before : driven_before ss (gate g) ≡ false
      unfolding driven_before lines_claimed any_member claimed
      free-before = rw undriven

      count : get_or table 0 0 ≡ length (gates_of ss)
      count = rw holds.words (netlist-count ss holds.past)

      pub gate-admitted : (p : RawStatement) → IsGate g p → Each FewPins cells → Sound cells ss
          → Decided cells ss (some (gate g)) holds.past 0 (gate_added (get_or table 0 0) p table)
      unfolding refusal_of gate_added gate_stored gate_words pick
      gate-admitted p is few so =
          let n = length g.pins in
          let space : length (gates_of ss) < Size.gates = gate-space cells ss g so (unfold lines_of in whole.lines) free-before in
          let one : (length (gates_of ss) + 1) % 4294967296 ≡ length (gates_of ss) + 1 = omega (arith, space) in
          let narrow : n ≤ Size.pins = rw whole.count (pins_at-few cells g.cell few) in
          let all : min p.count Size.pins ≡ n = omega (arith, is.count) in
          let pins : take (min p.count Size.pins) p.pins ≡ g.pins =
          rw (all, is.pins) (take-fitted n Size.pins g.pins narrow refl)
          in
          let kept : take Size.pins p.pins ≡ fitted 0 Size.pins g.pins =
          rw is.pins (take_all Size.pins (fitted 0 Size.pins g.pins) (omega (arith, length-fitted 0 Size.pins g.pins)))
          in
          admits cells holds (gate g) _
          (rw (gate-causes cells ss g, ← none, undriven))
          (rw (count, one, is.cell, is.line, pins, kept, holds.words)
          (stored-gate ss holds.past g whole.lines undriven space))
