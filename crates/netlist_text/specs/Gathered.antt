-- The pins of a line of text, as they are gathered.
use Rattle.std.specs.Prelude.{List, ◌≡◌, ℕ, length}
use Rattle.std.specs.Prelude as Code
use Rattle.std.proofs.Math.Option.{Option, none, some}
use Rattle.sizes.specs.Sizes as Size
use Rattle.table.specs.Blocks.{fitted}
use Rattle.netlist_table.specs.Netlist.{any_line_bad}
use Rattle.netlist_text.specs.declared.statements.Pins.{Pins}

-- Pins that were gathered are those of a list of lines: as many as a gate has at most, 0 after the last, the list's length,
-- and whether one of all of them is out of range.
pub record PinsAre (ls : List ℕ) (p : Pins) : Type 0 where
  pub pins : p.pins ≡ fitted 0 Size.pins ls
  pub count : p.count ≡ length ls
  pub bad : p.bad ≡ any_line_bad ls

-- What gathering the pins of a line's fields comes to; none is bad form.
unfoldable pub PinsRead : Option (List ℕ) → Code.Option Pins → Type 0
PinsRead none Code.None = Unit {0}
PinsRead none (Code.Some p) = ⊥
PinsRead (some ls) Code.None = ⊥
PinsRead (some ls) (Code.Some p) = PinsAre ls p
