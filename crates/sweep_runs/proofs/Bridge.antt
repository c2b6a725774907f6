-- The sweeps over the tables of accepted cells and statements: read place for place they are those of crate `calculation`, and
-- so is the start.
use Rattle.common_laws.proofs.Base.{Bool, true, false, List, [], ◌∷◌, ◌++◌, append-nil, append_assoc, ◌≡◌, refl, sym, ap, ap₂, ◌∙◌, ℕ, zero, suc, ◌+◌, ◌*◌, ◌-◌, ◌/◌, ◌%◌, ◌≤◌, ◌<◌}
use Rattle.common_laws.proofs.Base.{arith, ne_eqb, eqb, length, get_or}
use Rattle.sizes.specs.Sizes as Size
use Rattle.cost.specs.Cost.{never}
use Rattle.plans.specs.System.{Visit}
use Rattle.reading.specs.Choice.{pick}
use Rattle.reading.specs.Each.{Each}
use Rattle.reading.proofs.Laws.{by_test, clash}
use Rattle.library_table.specs.Cells.{Cell}
use Rattle.library_table.specs.Layout.{library_words}
use Rattle.netlist_table.specs.Netlist.{Gate, Range, Statement, some_line, gates_of, ranges_of, some_range, of_range, low_price, high_price, is_input, is_output, is_open, claimed}
use Rattle.netlist_table.specs.Layout.{netlist_words, driver_word, output_word, packed, range_word, ranged_word}
use Rattle.netlist_table.specs.Gates.{no_gate}
use Rattle.netlist_table.specs.Sound.{RangeSound}
use Rattle.netlist_table.proofs.Causes.{range_lines, ranged-lines}
use Rattle.netlist_table.proofs.Places.{netlist-count, driver-word, output-word, range-word, ranged-word}
use Rattle.calculation.specs.Prices.{input_cost, prices_at}
use Rattle.calculation.specs.Nodes.{Kind, kind_number}
use Rattle.calculation.specs.Ways.{cell_of, setting, observing, group_index, visit, value_roles, pin_roles, setting_visits, observing_visits}
use Rattle.calculation.specs.Ways as W
use Rattle.calculation.specs.Calculation.{start_line, start_lines, start_at}
use Rattle.calculation.specs.Acceptance.{BothSound}
use Rattle.sweep_groups.specs.Tables.{by_role, gate_visit}
use Rattle.sweep_groups.proofs.Bridge.{pins-number, visit_is}
use Rattle.sweep_start.specs.Start.{start_number, price_word, line_price, line_start, lines_start}
use Rattle.sweep_turns.specs.Order.{gate_visits}
use Rattle.sweep_runs.specs.Order.{sweep_visits}
use Rattle.plans.specs.Idle.{in_turn}

-- ---- turns

turns_same : (f g : ℕ → List Visit) (n : ℕ) → ((i : ℕ) → i < n → f i ≡ g i) → in_turn f n ≡ in_turn g n
unfolding in_turn
turns_same f g zero h = refl
turns_same f g (suc n) h = ap₂ (λ (l m : List Visit). l ++ m) (turns_same f g n (λ i b. h i (omega arith))) (h n (omega arith))

-- The first turn and the rest.
first_turn : (f : ℕ → List Visit) (n : ℕ) → in_turn f (suc n) ≡ f 0 ++ in_turn (λ i. f (suc i)) n
unfolding in_turn
first_turn f zero = sym (append-nil (f 0))
first_turn f (suc n) = rw (first_turn f n) (append_assoc (f 0) (in_turn (λ i. f (suc i)) n) (f (suc n)))

-- ---- a gate's pins, and the gates of a sweep

module _ (k : Kind) (cells : List Cell) where
  pins-in-turn : (g : Gate) (n i : ℕ) → in_turn (λ j. visit k cells g (observing (i + j)) ∷ []) n ≡ W.gate_visits k cells g (pin_roles n i)
  unfolding W.gate_visits pin_roles in_turn
  pins-in-turn g zero i = refl
  pins-in-turn g (suc n) i =
      first_turn (λ j. visit k cells g (observing (i + j)) ∷ []) n
      ∙ ap₂ (λ (j : ℕ) (l : List Visit). visit k cells g (observing j) ∷ l) (omega arith)
      (turns_same (λ j. visit k cells g (observing (i + suc j)) ∷ []) (λ j. visit k cells g (observing (suc i + j)) ∷ []) n
      (λ j b. ap (λ (m : ℕ). visit k cells g (observing m) ∷ []) (omega arith))
      ∙ pins-in-turn g n (suc i))

  abbrev both : Gate → List Visit
  both g = W.gate_visits k cells g value_roles

  settings-in-turn : (gs : List Gate) → in_turn (λ j. both (get_or gs j no_gate)) (length gs) ≡ setting_visits k cells gs
  unfolding setting_visits in_turn
  settings-in-turn [] = refl
  settings-in-turn (g ∷ gs) =
      first_turn (λ j. both (get_or (g ∷ gs) j no_gate)) (length gs) ∙ ap (λ (l : List Visit). both g ++ l) (settings-in-turn gs)

  abbrev pins : Gate → List Visit
  pins g = W.gate_visits k cells g (pin_roles (cell_of cells g).pins 1)

  observings_in_turn : (gs : List Gate) → in_turn (λ j. pins (get_or gs (length gs - 1 - j) no_gate)) (length gs) ≡ observing_visits k cells gs
  unfolding observing_visits in_turn
  observings_in_turn [] = refl
  observings_in_turn (g ∷ gs) =
      ap₂ (λ (l m : List Visit). l ++ m)
      (turns_same (λ j. pins (get_or (g ∷ gs) (suc (length gs) - 1 - j) no_gate)) (λ j. pins (get_or gs (length gs - 1 - j) no_gate)) (length gs)
      (λ j b. ap (λ (m : ℕ). pins (get_or (g ∷ gs) m no_gate)) (later j b))
      ∙ observings_in_turn gs)
      (ap (λ (m : ℕ). pins (get_or (g ∷ gs) m no_gate)) last)
    where
      later : (j : ℕ) → j < length gs → suc (length gs) - 1 - j ≡ suc (length gs - 1 - j)
      later j b = omega arith

      last : suc (length gs) - 1 - length gs ≡ 0
      last = omega arith

-- ---- the tables

module _ (cells : List Cell) (ss : List Statement) (sound : BothSound cells ss) (behind past : List ℕ) where
  abbrev library : List ℕ
  library = library_words cells ++ behind

  abbrev netlist : List ℕ
  netlist = netlist_words ss ++ past

  abbrev gate : ℕ → Gate
  gate i = get_or (gates_of ss) i no_gate

  pub values-are : (k : Kind) (i : ℕ) → i < length (gates_of ss) → gate_visits 0 (kind_number k) library netlist i ≡ both k cells (gate i)
  unfolding in_turn by_role pick W.gate_visits value_roles group_index
  values-are k i h =
      rw (visit_is cells ss sound behind past i h k (setting 0) (omega arith), visit_is cells ss sound behind past i h k (setting 1) (omega arith))

  pub pin-visit : (k : Kind) (i : ℕ) (h : i < length (gates_of ss)) (p : ℕ) → p < (cell_of cells (gate i)).pins → gate_visit 1 (kind_number k) library netlist i p ≡ visit k cells (gate i) (observing (1 + p))
  unfolding group_index
  pin-visit k i h p b =
      let z : p ≡ 1 + p - 1 = omega arith in
      ap (gate_visit 1 (kind_number k) library netlist i) z ∙ visit_is cells ss sound behind past i h k (observing (1 + p)) (omega arith, omega arith)

  pub pins-are : (k : Kind) (i : ℕ) → i < length (gates_of ss) → gate_visits 1 (kind_number k) library netlist i ≡ pins k cells (gate i)
  unfolding by_role pick
  pins-are k i h =
      rw (pins-number cells ss sound behind past i h)
      (turns_same (λ p. gate_visit 1 (kind_number k) library netlist i p ∷ []) (λ p. visit k cells (gate i) (observing (1 + p)) ∷ []) (cell_of cells (gate i)).pins
      (λ p b. ap (λ (v : Visit). v ∷ []) (pin-visit k i h p b))
      ∙ pins-in-turn k cells (gate i) (cell_of cells (gate i)).pins 1)

  pub setting-sweep : (k : Kind) → sweep_visits 0 (kind_number k) library netlist ≡ setting_visits k cells (gates_of ss)
  unfolding by_role pick
  setting-sweep k =
      rw (netlist-count ss past)
      (turns_same (gate_visits 0 (kind_number k) library netlist) (λ j. both k cells (gate j)) (length (gates_of ss)) (values-are k)
      ∙ settings-in-turn k cells (gates_of ss))

  pub observing-sweep : (k : Kind) → sweep_visits 1 (kind_number k) library netlist ≡ observing_visits k cells (gates_of ss)
  unfolding by_role pick
  observing-sweep k =
      let n = length (gates_of ss) in
      rw (netlist-count ss past)
      (turns_same (λ j. gate_visits 1 (kind_number k) library netlist (n - 1 - j)) (λ j. pins k cells (gate (n - 1 - j))) n (λ j b. pins-are k (n - 1 - j) (omega arith))
      ∙ observings_in_turn k cells (gates_of ss))

  -- ---- the start

  driver-price : (a b c : Bool) (x : ℕ) → start_number (pick a 1 (pick b 3 (pick c 2 0))) x ≡ pick a x never
  unfolding start_number pick
  driver-price true b c x = refl
  driver-price false true c x = refl
  driver-price false false true x = refl
  driver-price false false false x = refl

  output-price : (a : Bool) (x : ℕ) → start_number (pick a 1 0) x ≡ pick a x never
  unfolding start_number pick
  output-price true x = refl
  output-price false x = refl

  -- What the table says of a range is its price.
  range-price : (high : Bool) (rs : List Range) → Each (RangeSound ss) rs → (l : ℕ)
      → price_word high (of_range packed 0 rs l) ≡ pick high (of_range (λ r. r.high) 1 rs l) (of_range (λ r. r.low) 1 rs l)
  unfolding price_word of_range packed Each pick
  range-price true [] h l = refl
  range-price false [] h l = refl
  range-price high (r ∷ rs) h l =
      by_test (eqb r.line l)
      (λ t. rw (t, ne_eqb (r.low + Size.prices * r.high) 0 (λ e. omega (arith, h.0.least))) (at-end high))
      (λ t. rw t (range-price high rs h.1 l))
    where
      at-end : (b : Bool) → pick b ((r.low + Size.prices * r.high) / Size.prices) ((r.low + Size.prices * r.high) % Size.prices) ≡ pick b r.high r.low
      at-end true = omega (arith, h.0.order, h.0.most)
      at-end false = omega (arith, h.0.order, h.0.most)

  module _ (high : Bool) where
    word-price : (l : ℕ) → price_word high (range_word ss l) ≡ prices_at high ss l
    unfolding range_word low_price high_price pick
    word-price l = range-price high (ranges_of ss) sound.netlist.ranges l ∙ side high
      where
        side : (b : Bool) → pick b (high_price ss l) (low_price ss l) ≡ prices_at b ss l
        side true = refl
        side false = refl

    -- Without a range each word is 0, which says 1.
    no_word : (rs : List Range) → some_line (range_lines rs) ≡ false → (l : ℕ) → 1 ≡ price_word high (of_range packed 0 rs l)
    unfolding some_line range_lines of_range price_word pick
    no_word [] h l = refl
    no_word (r ∷ rs) h l = clash true refl h

    end-price : (l : ℕ) → 1 ≤ l → l ≤ Size.lines → line_price high netlist l ≡ prices_at high ss l
    unfolding line_price range_word ranged_word some_range pick
    end-price l b h = rw (ranged-word ss past, range-word ss past l b h, ← word-price l) (side (some_range ss) refl)
      where
        side : (b : Bool) → some_range ss ≡ b → pick (eqb (pick b 1 0) 0) 1 (price_word high (range_word ss l)) ≡ price_word high (range_word ss l)
        side true e = refl
        side false e = no_word (ranges_of ss) (ap some_line (sym (ranged-lines ss)) ∙ e) l

    line-start : (l : ℕ) → 1 ≤ l → l ≤ Size.lines → line_start high netlist l ≡ start_line (prices_at high ss) ss l
    unfolding input_cost line_start start_line driver_word output_word
    line-start l b h =
        rw (
          driver-word ss past l b h,
          output-word ss past l b h,
          end-price l b h,
          driver-price (is_input l ss) (is_open l ss) (claimed l ss) (prices_at high ss l),
          driver-price (is_input l ss) (is_open l ss) (claimed l ss) 0,
          output-price (is_output l ss) 0,
        )

    lines_start_lem : (n first : ℕ) → 1 ≤ first → first + n ≤ Size.lines + 1 → lines_start high netlist n first ≡ start_lines (prices_at high ss) ss n first
    unfolding lines_start start_lines
    lines_start_lem zero first b h = refl
    lines_start_lem (suc n) first b h = ap₂ (λ (l m : List ℕ). l ++ m) (line-start first b (omega arith)) (lines_start_lem n (suc first) (omega arith) (omega arith))

    pub start_is : lines_start high netlist Size.lines 1 ≡ start_at (prices_at high ss) ss
    unfolding start_at
    start_is = lines_start_lem Size.lines 1 (omega arith) (omega arith)
