-- Waking gates by the links of a netlist (crate `sweep_links`): those that read a line, and the one that drives it.
use Rattle.std.specs.Prelude.{List, ◌≡◌, ℕ, ◌-◌, ◌≤◌, ◌<◌, length}
use Rattle.sizes.specs.Sizes as Size
use Rattle.netlist_table.specs.Gates.{gate_line}
use Rattle.sweep_links.specs.Lines.{Chained, Driven}
use Rattle.sweep_links.specs.Turns.{bit_at}

-- The links have the chains of some netlist, and the line is one of its lines.
pub record ReadersFit (links : List ℕ) (line : ℕ) : Type 0 where
  pub netlist : List ℕ
  pub gates : ℕ
  pub chained : Chained netlist gates links
  pub inside : line ≤ Size.lines

-- Every gate that has the line among its pins is awake, where turn t is that of gate t; and no turn was put to rest.
pub record ReadersWoken (netlist : List ℕ) (gates line : ℕ) (before after : List ℕ) : Type 0 where
  pub slept : (t : ℕ) → bit_at after t ≡ 0 → bit_at before t ≡ 0
  pub readers : (g i : ℕ) → g < gates → 1 ≤ i → i ≤ Size.pins → gate_line netlist g i ≡ line → bit_at after g ≡ 1
  pub size : length after ≡ length before

-- The links have the drivers of some netlist, and the line is one of its lines.
pub record DriverFits (gates : ℕ) (links : List ℕ) (line : ℕ) : Type 0 where
  pub netlist : List ℕ
  pub driven : Driven netlist gates links
  pub inside : line ≤ Size.lines

-- The last gate that drives the line is awake, where turn t is that of gate `gates - 1 - t`; and no turn was put to rest.
pub record DriverWoken (netlist : List ℕ) (gates line : ℕ) (before after : List ℕ) : Type 0 where
  pub slept : (t : ℕ) → bit_at after t ≡ 0 → bit_at before t ≡ 0
  pub driver : (g : ℕ) → g < gates → gate_line netlist g 0 ≡ line
      → ((h : ℕ) → h < gates → gate_line netlist h 0 ≡ line → h ≤ g) → bit_at after (gates - 1 - g) ≡ 1
  pub size : length after ≡ length before
