-- What holds of the statements of every netlist that is read: the facts on which the parts behind the reader rest.
-- `proofs/Laws.antt` shows them of every text, and of every list of statements that is admitted, and gives them by membership.
use Rattle.std.specs.Prelude.{true, false, ◌≡◌, ℕ, ◌≤◌, ◌<◌, length}
use mathlib.Core.List.{List, [], ◌∷◌, Memᴰ}
use Rattle.sizes.specs.Sizes as Size
use Rattle.reading.specs.Each.{Each}
use Rattle.library_table.specs.Cells.{Cell}
use Rattle.netlist_table.specs.Netlist.{Gate, Range, Statement, output, is_input, member, lines_of, gates_of, ranges_of, claimed_lines, marked_lines, ranged_lines, pins_at}

-- "Line numbers run from 1 to 1,000."
unfoldable pub InRange : ℕ → Type 0
InRange l = (1 ≤ l) × (l ≤ Size.lines)

unfoldable pub LinesInRange : Statement → Type 0
LinesInRange s = Each InRange (lines_of s)

-- A gate of a cell that the library has, with as many pins as the cell, on lines in range.
pub record GateSound (cells : List Cell) (g : Gate) : Type 0 where
  pub known : g.cell < length cells
  pub count : length g.pins ≡ pins_at cells g.cell
  pub line : InRange g.line
  pub pins : Each InRange g.pins

-- A range of an input, its bounds within 1 to 999, LOW not above HIGH.
pub record RangeSound (ss : List Statement) (r : Range) : Type 0 where
  pub input : is_input r.line ss ≡ true
  pub least : 1 ≤ r.low
  pub order : r.low ≤ r.high
  pub most : r.high ≤ Size.most_price

-- No number stands twice.
unfoldable pub Apart : List ℕ → Type 0
Apart [] = Unit {0}
Apart (x ∷ xs) = (member x xs ≡ false) × Apart xs

pub record Sound (cells : List Cell) (ss : List Statement) : Type 0 where
  pub lines : Each LinesInRange ss
  pub gates : Each (GateSound cells) (gates_of ss)
  pub few : length (gates_of ss) ≤ Size.gates
  -- each line is driven or declared open at most once, marked output at most once, and has at most one range
  pub claimed : Apart (claimed_lines ss)
  pub marked : Apart (marked_lines output ss)
  pub ranged : Apart (ranged_lines ss)
  pub ranges : Each (RangeSound ss) (ranges_of ss)

-- The lines that gates drive are pairwise different.
abbrev pub DrivenOnce : List Gate → Type 0
DrivenOnce [] = Unit {0}
DrivenOnce (g ∷ gs) = ((h : Gate) → Memᴰ h gs → g.line ≡ h.line → ⊥) × DrivenOnce gs
