-- What stands at a place of the netlist table.
use Rattle.common_laws.proofs.Base.{List, ◌∷◌, ◌++◌, ◌≡◌, refl, sym, ap, ◌∙◌, ℕ, zero, suc, ◌+◌, ◌*◌, ◌≤◌, ◌<◌, add-zero, add-suc, not-suc-le-zero, le_of_suc-le-suc, one-add}
use Rattle.common_laws.proofs.Base.{arith, length, get_or, length-append, List-get_or-append, get_or-append-add}
use Rattle.sizes.specs.Places.{driver_place, gate_place, mention_place, output_place, range_place, ranged_place}
use Rattle.sizes.specs.Sizes as Size
use Rattle.table.specs.Blocks.{fitted, blocks}
use Rattle.table.proofs.Places.{length-fitted, getD_fitted, length_blocks, getD_blocks}
use Rattle.netlist_table.specs.Netlist.{Gate, Statement, gates_of}
use Rattle.netlist_table.specs.Layout.{gate_words, driver_word, output_word, mention_word, range_word, ranged_word, line_parts, line_words, part_words}
use Rattle.netlist_table.specs.Layout.{netlist_words}

pub length-gate_words : (g : Gate) → length (gate_words g) ≡ Size.gate_words
unfolding gate_words
length-gate_words g = ap (λ (n : ℕ). suc (suc n)) (length-fitted 0 Size.pins g.pins)

pub length-line_words : (f : ℕ → ℕ) (n first : ℕ) → length (line_words f n first) ≡ n
unfolding line_words
length-line_words f zero first = refl
length-line_words f (suc n) first = ap suc (length-line_words f n (suc first))

pub length-part_words : (f : ℕ → ℕ) → length (part_words f) ≡ Size.lines
length-part_words f = length-line_words f Size.lines 1

pub getD_line_words : (f : ℕ → ℕ) (n first i : ℕ) → i < n → get_or (line_words f n first) i 0 ≡ f (first + i)
unfolding line_words
getD_line_words f zero first i h = absurd (not-suc-le-zero h)
getD_line_words f (suc n) first zero h = ap f (sym (add-zero first))
getD_line_words f (suc n) first (suc i) h =
    getD_line_words f n (suc first) i (le_of_suc-le-suc h) ∙ ap f (omega arith)

-- The part that says 0 of every line, where a reader of a list wants one.
pub zero_word : ℕ → ℕ
zero_word l = 0

module _ (ss : List Statement) where
  parts : List ℕ
  parts = blocks part_words (line_parts ss)

  -- Whether there is a range, and the gates.
  gates : List ℕ
  gates = ranged_word ss ∷ fitted 0 (Size.gates * Size.gate_words) (blocks gate_words (gates_of ss))

  length-parts : length parts ≡ length (line_parts ss) * Size.lines
  unfolding parts
  length-parts = length_blocks part_words Size.lines length-part_words (line_parts ss)

  pub length-netlist_words : length (netlist_words ss) ≡ Size.netlist
  unfolding netlist_words parts gates line_parts
  length-netlist_words =
      ap suc
      (length-append parts gates
      ∙ rw (length-parts, length-fitted 0 (Size.gates * Size.gate_words) (blocks gate_words (gates_of ss))))

  module _ (rest : List ℕ) where
    pub netlist-room : Size.netlist ≤ length (netlist_words ss ++ rest)
    netlist-room = omega (arith, length-append (netlist_words ss) rest, length-netlist_words)

    -- the count of gates
    pub netlist-count : get_or (netlist_words ss ++ rest) 0 0 ≡ length (gates_of ss)
    unfolding netlist_words
    netlist-count = refl

    inside : (i : ℕ) → suc i < Size.netlist → get_or (netlist_words ss ++ rest) (suc i) 0 ≡ get_or (parts ++ gates) i 0
    unfolding netlist_words parts gates
    inside i h = List-get_or-append (netlist_words ss) rest 0 (suc i) (rw (length-netlist_words) h)

    -- line l of part p
    part-word : (p l : ℕ) → p < length (line_parts ss) → 1 ≤ l → l ≤ Size.lines
        → get_or (netlist_words ss ++ rest) (p * Size.lines + l) 0 ≡ get_or (line_parts ss) p zero_word l
    unfolding line_parts parts
    part-word p zero h low high = absurd (not-suc-le-zero low)
    part-word p (suc i) h low high =
        rw (add-suc (p * Size.lines) i)
        (inside (p * Size.lines + i) (omega arith)
        ∙ List-get_or-append parts gates 0 (p * Size.lines + i) (omega (arith, length-parts))
        ∙ getD_blocks part_words Size.lines length-part_words zero_word (line_parts ss) p i h high
        ∙ getD_line_words (get_or (line_parts ss) p zero_word) Size.lines 1 i high
        ∙ ap (get_or (line_parts ss) p zero_word) (one-add i))

    module _ (l : ℕ) (low : 1 ≤ l) (high : l ≤ Size.lines) where
      pub driver-word : get_or (netlist_words ss ++ rest) (driver_place l) 0 ≡ driver_word ss l
      unfolding line_parts
      driver-word = ap (λ (i : ℕ). get_or (netlist_words ss ++ rest) i 0) (omega arith) ∙ part-word 0 l (omega arith) low high

      pub output-word : get_or (netlist_words ss ++ rest) (output_place l) 0 ≡ output_word ss l
      unfolding line_parts
      output-word = part-word 1 l (omega arith) low high

      pub mention_word_lem : get_or (netlist_words ss ++ rest) (mention_place l) 0 ≡ mention_word ss l
      unfolding line_parts
      mention_word_lem = part-word 2 l (omega arith) low high

      pub range-word : get_or (netlist_words ss ++ rest) (range_place l) 0 ≡ range_word ss l
      unfolding line_parts
      range-word = part-word 3 l (omega arith) low high

    -- whether there is a range
    pub ranged-word : get_or (netlist_words ss ++ rest) ranged_place 0 ≡ ranged_word ss
    unfolding gates line_parts
    ranged-word =
        let at : ranged_place ≡ suc (length parts + 0) = omega (arith, length-parts) in
        rw at (inside (length parts + 0) (omega (arith, length-parts)) ∙ get_or-append-add parts gates 0 0)

    -- number j of gate g
    pub gate-word : (d : Gate) (g j : ℕ) → g < length (gates_of ss) → g < Size.gates → j < Size.gate_words
        → get_or (netlist_words ss ++ rest) (gate_place g + j) 0 ≡ get_or (gate_words (get_or (gates_of ss) g d)) j 0
    unfolding gates line_parts
    gate-word d g j h k q =
        let i = g * Size.gate_words + j in
        let at : gate_place g + j ≡ suc (length parts + suc i) = omega (arith, length-parts) in
        rw at
        (inside (length parts + suc i) (omega (arith, length-parts))
        ∙ get_or-append-add parts gates (suc i) 0
        ∙ getD_fitted 0 (Size.gates * Size.gate_words) (blocks gate_words (gates_of ss)) i (omega arith)
        ∙ getD_blocks gate_words Size.gate_words length-gate_words d (gates_of ss) g j h q)
