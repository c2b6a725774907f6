-- How a netlist is told to have no loops or open lines, and no line that two pins read: by marks, one for each line.
use Rattle.std.specs.Prelude.{Bool, true, false, not, ◌&&◌, ◌≡◌, ℕ, zero, suc, ◌+◌, eqb, length, get_or, set, replicate}
use mathlib.Core.List.{List, [], ◌∷◌, flat_map, Memᴰ}
use Rattle.sizes.specs.Sizes as Size
use Rattle.reading.specs.Choice.{pick}
use Rattle.netlist_table.specs.Netlist.{Gate}
use Rattle.netlist_table.specs.Gates.{gates_held}
use Rattle.netlist_table.specs.Lines.{inputs_held, mentions_held}

-- ---- marks

unfoldable pub marked : List Bool → ℕ → Bool
marked marks l = get_or marks l false

unfoldable pub all_marked : List Bool → List ℕ → Bool
all_marked marks [] = true
all_marked marks (l ∷ ls) = marked marks l && all_marked marks ls

unfoldable pub mark_each : List Bool → List ℕ → List Bool
mark_each marks [] = marks
mark_each marks (l ∷ ls) = mark_each (set marks l true) ls

abbrev pub no_marks : List Bool
no_marks = replicate Size.line_places false

-- ---- loops and open lines

-- A gate whose pins are all levelled levels its line.
unfoldable pub ready : List Bool → Gate → Bool
ready marks g = not (marked marks g.line) && all_marked marks g.pins

unfoldable pub level : List Bool → Gate → List Bool
level marks g = pick (ready marks g) (set marks g.line true) marks

unfoldable pub pass : List Gate → List Bool → List Bool
pass [] marks = marks
pass (g ∷ gs) marks = pass gs (level marks g)

unfoldable pub passes : ℕ → List Gate → List Bool → List Bool
passes zero gs marks = marks
passes (suc n) gs marks = passes n gs (pass gs marks)

-- Each pass levels a line, until one levels none.
abbrev pub most_passes : ℕ
most_passes = Size.line_places + 1

-- The lines that passes over the gates level, from the inputs on.
unfoldable pub levelled_lines : List ℕ → List Gate → List Bool
levelled_lines inputs gs = passes most_passes gs (mark_each no_marks inputs)

unfoldable pub without_loops : List ℕ → Bool
without_loops table = all_marked (levelled_lines (inputs_held table) (gates_held table)) (mentions_held table)

-- What a pass leaves, and that where it says so it has changed nothing.
pub record Passed (gs : List Gate) (before after : List Bool) (changed : Bool) : Type 0 where
  pub leaves : after ≡ pass gs before
  pub same : changed ≡ false → after ≡ before

-- What the marks come to where gates of the list are levelled, in any order and each as often as one likes.
pub data Ahead (gs : List Gate) (before : List Bool) : List Bool → Type 0 where
  none : Ahead gs before before
  next : {marks : List Bool} (g : Gate) → Memᴰ g gs → Ahead gs before marks → Ahead gs before (level marks g)

-- ---- lines read twice

-- Each of the lines, unmarked before, stands there once.
unfoldable pub once_each : List Bool → List ℕ → Bool
once_each marks [] = true
once_each marks (l ∷ ls) = not (marked marks l) && once_each (set marks l true) ls

abbrev pub pins_of : List Gate → List ℕ
pins_of gs = flat_map (λ (g : Gate). g.pins) gs

unfoldable pub read_once : List ℕ → Bool
read_once table = once_each no_marks (pins_of (gates_held table))

-- Whether lines stand once, and the marks where they do.
pub record Noted (ls : List ℕ) (before after : List Bool) (once : Bool) : Type 0 where
  pub answers : once ≡ once_each before ls
  pub leaves : once ≡ true → after ≡ mark_each before ls
  pub size : length after ≡ length before
