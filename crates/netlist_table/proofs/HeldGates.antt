-- A table that holds statements says of their gates. What each law says is in specs/Gates.antt's words.
use Rattle.common_laws.proofs.Base.{List, [], ◌∷◌, ◌++◌, ◌≡◌, refl, sym, ap, ap₂, ◌∙◌, ℕ, zero, suc, ◌+◌, ◌-◌, ◌≤◌, ◌<◌, dec_lt, arith, length, get_or, drop, length-take, length-drop}
use Rattle.common_laws.proofs.Base.{List-get_or-eq-default, get_or-take, get_or-drop, ext_get_or, ne_eqb}
use Rattle.sizes.specs.Sizes as Size
use Rattle.sizes.specs.Places.{gate_place}
use Rattle.reading.specs.Choice.{pick}
use Rattle.reading.specs.Each.{Each}
use Rattle.reading.proofs.Laws.{each_at}
use Rattle.table.specs.Blocks.{fitted}
use Rattle.table.proofs.Places.{length-fitted, getD_fitted}
use Rattle.library_table.specs.Cells.{Cell}
use Rattle.library_table.specs.Sound as C
use Rattle.netlist_table.specs.Netlist.{Gate, Statement, gates_of, pins_at}
use Rattle.netlist_table.specs.Layout.{gate_line_words, gate_words, netlist_words}
use Rattle.netlist_table.specs.Gates.{gate_cell, gate_line, gate_lines, each_of, present, pin_lines, gate_at, no_gate, gate_count, count_held}
use Rattle.netlist_table.specs.Gates.{gates_held, LinesStand}
use Rattle.netlist_table.specs.Sound.{InRange, GateSound, Sound}
use Rattle.netlist_table.proofs.Places.{netlist-room, netlist-count, gate-word}

-- One of the lines of a gate.
pub line_at : (table : List ℕ) (g i : ℕ) → i < Size.gate_lines → get_or (gate_lines table g) i 0 ≡ gate_line table g i
unfolding gate_lines
line_at table g i h = get_or-take Size.gate_lines (drop (gate_place g + 1) table) i 0 h ∙ get_or-drop (gate_place g + 1) table i 0

-- ---- what is left of a list of gates or lines

module _ {A : Type 0} (f : ℕ → A) (n i : ℕ) where
  pub each_next : i < n → each_of f (n - i) i ≡ f i ∷ each_of f (n - (i + 1)) (i + 1)
  unfolding each_of
  each_next h =
      let e : n - i ≡ suc (n - (i + 1)) = omega arith in
      let s : i + 1 ≡ suc i = omega arith in
      rw (e, s)

  pub each-end : n ≤ i → each_of f (n - i) i ≡ []
  unfolding each_of
  each-end h = let e : n - i ≡ 0 = omega arith in rw e

-- All gates are left at first.
pub gates-start : (table : List ℕ) (n : ℕ) → n ≡ count_held table → each_of (gate_at table) (n - 0) 0 ≡ gates_held table
unfolding gates_held
gates-start table n e = let z : n - 0 ≡ count_held table = omega arith in ap (λ (k : ℕ). each_of (gate_at table) k 0) z

-- ---- tables that hold statements

each_of_lem : {A : Type 0} (d : A) (f : ℕ → A) (xs : List A) (first : ℕ) → ((i : ℕ) → i < length xs → f (first + i) ≡ get_or xs i d)
    → each_of f (length xs) first ≡ xs
unfolding each_of
each_of_lem d f [] first h = refl
each_of_lem d f (x ∷ xs) first h =
    ap₂ ◌∷◌
    (ap f (omega arith) ∙ h 0 (omega arith))
    (each_of_lem d f xs (suc first) (λ i k. ap f (omega arith) ∙ h (suc i) (omega arith)))

present-fitted : (n : ℕ) (ls : List ℕ) → length ls ≤ n → Each InRange ls → present (fitted 0 n ls) ≡ ls
unfolding present fitted pick Each InRange
present-fitted zero [] h r = refl
present-fitted zero (l ∷ ls) h r = absurd (omega arith)
present-fitted (suc n) [] h r = present-fitted n [] (omega arith) r
present-fitted (suc n) (l ∷ ls) h r =
    rw (ne_eqb l 0 (λ e. omega (arith, r.0.0))) (ap (λ (ks : List ℕ). l ∷ ks) (present-fitted n ls (omega arith) r.1))

-- No cell of a sound library has more pins than there may be.
pins-few : (cells : List Cell) → Each C.SoundCell cells → (k : ℕ) → pins_at cells k ≤ Size.pins
unfolding pins_at Each
pins-few [] h k = omega arith
pins-few (c ∷ cells) h zero = h.0.header.most-pins
pins-few (c ∷ cells) h (suc k) = pins-few cells h.1 k

module _ {cells : List Cell} {ss : List Statement} (sound : Sound cells ss) (past : List ℕ) where
  abbrev table : List ℕ
  table = netlist_words ss ++ past

  -- ---- one gate

  module _ (i : ℕ) (h : i < length (gates_of ss)) where
    abbrev held : Gate
    held = get_or (gates_of ss) i no_gate

    few-gates : i < Size.gates
    few-gates = omega (arith, sound.few)

    sound-gate : GateSound cells held
    sound-gate = each_at (GateSound cells) (gates_of ss) i no_gate h sound.gates

    number : (j : ℕ) → j < Size.gate_words → get_or table (gate_place i + j) 0 ≡ get_or (gate_words held) j 0
    number j q = gate-word ss past no_gate i j h few-gates q

    pub cell-held : gate_cell table i ≡ held.cell
    unfolding gate_words
    cell-held = ap (λ (n : ℕ). get_or table n 0) (omega arith) ∙ number 0 (omega arith)

    pub line-held : (j : ℕ) → j < Size.gate_lines → gate_line table i j ≡ get_or (gate_line_words held) j 0
    unfolding gate_words
    line-held j q = ap (λ (n : ℕ). get_or table n 0) (omega arith) ∙ number (suc j) (omega arith)

    pub own_line : gate_line table i 0 ≡ held.line
    own_line = line-held 0 (omega arith)

    pub pin-line : (p : ℕ) → p < Size.pins → gate_line table i (p + 1) ≡ get_or held.pins p 0
    pin-line p q =
        let e : p + 1 ≡ suc p = omega arith in
        line-held (p + 1) (omega arith)
        ∙ ap (λ (n : ℕ). get_or (gate_line_words held) n 0) e
        ∙ getD_fitted 0 Size.pins held.pins p q

    lines-count : length (gate_lines table i) ≡ length (gate_line_words held)
    unfolding gate_lines
    lines-count = simp (length-take, length-drop, length-fitted) (omega (arith, netlist-room ss past, few-gates))

    pub lines-held : gate_lines table i ≡ gate_line_words held
    lines-held = ext_get_or 0 (gate_lines table i) (gate_line_words held) lines-count each
      where
        each : (j : ℕ) → j < length (gate_lines table i) → get_or (gate_lines table i) j 0 ≡ get_or (gate_line_words held) j 0
        each j q =
            let b : j < Size.gate_lines = omega (arith, lines-count, length-fitted 0 Size.pins held.pins) in
            line_at table i j b ∙ line-held j b

    pin-most : (p : ℕ) → get_or held.pins p 0 ≤ Size.lines
    unfolding InRange
    pin-most p = go (dec_lt p (length held.pins))
      where
        go : Dec (p < length held.pins) → get_or held.pins p 0 ≤ Size.lines
        go (yes b) = (each_at InRange held.pins p 0 b sound-gate.pins).1
        go (no b) = rw (List-get_or-eq-default held.pins 0 {n = p} (omega arith)) (omega arith)

    line-most : (j : ℕ) → j < Size.gate_lines → gate_line table i j ≤ Size.lines
    unfolding InRange
    line-most zero b = rw own_line sound-gate.line.1
    line-most (suc p) b = let e : suc p ≡ p + 1 = omega arith in rw e (rw (pin-line p (omega arith)) (pin-most p))

    module _ (library : C.Sound cells) where
      pins-held : pin_lines table i ≡ held.pins
      pins-held =
          let few : length held.pins ≤ Size.pins = omega (arith, sound-gate.count, pins-few cells library.each held.cell) in
          let size = length-fitted 0 Size.pins held.pins in
          let all = each_of_lem 0 (gate_line table i) (fitted 0 Size.pins held.pins) 1
          (λ j k. ap (gate_line table i) (omega arith) ∙ line-held (suc j) (omega (arith, size))) in
          ap (λ (n : ℕ). present (each_of (gate_line table i) n 1)) (sym size)
          ∙ ap present all
          ∙ present-fitted Size.pins held.pins few sound-gate.pins

      gate-held : gate_at table i ≡ held
      unfolding gate_at
      gate-held = rw (cell-held, own_line, pins-held)

  -- ---- all gates

  -- What is read of them is there.
  pub lines-stand : LinesStand table (gate_count table)
  lines-stand =
      let count = netlist-count ss past in
      record {
        count = omega (arith, count, sound.few);
        room = omega (arith, netlist-room ss past, count, sound.few);
        most = λ g i h b. line-most g (omega (arith, count)) i b;
      }

  pub gates-held : C.Sound cells → gates_held table ≡ gates_of ss
  unfolding gates_held
  gates-held library =
      let count : count_held table ≡ length (gates_of ss) = omega (arith, netlist-count ss past, sound.few) in
      ap (λ (n : ℕ). each_of (gate_at table) n 0) count
      ∙ each_of_lem no_gate (gate_at table) (gates_of ss) 0 (λ i h. ap (gate_at table) (omega arith) ∙ gate-held i h library)
