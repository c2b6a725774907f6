-- The netlist table: how it holds the statements that were read. The layout is the builder's (docs/TABLES.md has it in words).
-- The laws that say what stands at a place are in `proofs/Places.antt`.
use Rattle.std.specs.Prelude.{List, [], ◌∷◌, ◌++◌, ◌≡◌, ℕ, zero, suc, ◌+◌, ◌*◌, length, replicate, drop}
use Rattle.sizes.specs.Sizes as Size
use Rattle.table.specs.Blocks.{fitted, blocks}
use Rattle.reading.specs.Choice.{pick}
use Rattle.reading.specs.Refusal.{Read, refused, read}
use Rattle.netlist_table.specs.Netlist.{Gate, Range, Statement, is_input, is_output, is_open, claimed, mentioned, some_range, gates_of, ranges_of, of_range}

-- The lines of a gate: the one that it drives, then those that its pins read, 0 after the last.
abbrev pub gate_line_words : Gate → List ℕ
gate_line_words g = g.line ∷ fitted 0 Size.pins g.pins

-- A gate: its cell, then its lines.
unfoldable pub gate_words : Gate → List ℕ
gate_words g = g.cell ∷ gate_line_words g

-- What drives a line: 0 nothing, 1 an input, 2 a gate, 3 nothing, and it is declared open.
unfoldable pub driver_word : List Statement → ℕ → ℕ
driver_word ss l = pick (is_input l ss) 1 (pick (is_open l ss) 3 (pick (claimed l ss) 2 0))

unfoldable pub output_word : List Statement → ℕ → ℕ
output_word ss l = pick (is_output l ss) 1 0

unfoldable pub mention_word : List Statement → ℕ → ℕ
mention_word ss l = pick (mentioned l ss) 1 0

-- A range in one number: LOW and 1,000 times HIGH; 0 where a line has none.
unfoldable pub packed : Range → ℕ
packed r = r.low + Size.prices * r.high

unfoldable pub range_word : List Statement → ℕ → ℕ
range_word ss l = of_range packed 0 (ranges_of ss) l

-- Whether some line has one: who asks for no prices reads this number alone.
unfoldable pub ranged_word : List Statement → ℕ
ranged_word ss = pick (some_range ss) 1 0

-- The parts of the table that say something of each line, in their order.
unfoldable pub line_parts : List Statement → List (ℕ → ℕ)
line_parts ss = driver_word ss ∷ output_word ss ∷ mention_word ss ∷ range_word ss ∷ []

-- A number for each line from `first` on.
unfoldable pub line_words : (ℕ → ℕ) → ℕ → ℕ → List ℕ
line_words f zero first = []
line_words f (suc n) first = f first ∷ line_words f n (suc first)

-- A part: a number for each line.
abbrev pub part_words : (ℕ → ℕ) → List ℕ
part_words f = line_words f Size.lines 1

-- The count of gates; for each line what drives it, then whether it is an output, then whether it is mentioned, then its range;
-- whether there is a range; then the gates: the published size.
unfoldable pub netlist_words : List Statement → List ℕ
netlist_words ss =
    length (gates_of ss)
    ∷ (blocks part_words (line_parts ss)
    ++ (ranged_word ss ∷ fitted 0 (Size.gates * Size.gate_words) (blocks gate_words (gates_of ss))))

-- A table holds statements: they stand in its published size, with what stands past it.
pub record NetlistHolds (table : List ℕ) (ss : List Statement) : Type 0 where
  pub past : List ℕ
  pub words : table ≡ netlist_words ss ++ past

-- What reading leaves in the lent table: all zero after a refusal; else the statements in the published size, and what
-- stood past it.
unfoldable pub netlist_after : Read (List Statement) → List ℕ → List ℕ
netlist_after (refused number line) before = replicate (length before) 0
netlist_after (read ss) before = netlist_words ss ++ drop Size.netlist before
