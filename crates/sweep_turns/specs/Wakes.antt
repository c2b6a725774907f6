-- Which turns of a sweep are awake. A turn that is not awake is passed over, since the visits of its gate change nothing; a
-- gate becomes awake when a number changes that it needs. A role is a number, 0 setting and 1 observing.
use Rattle.std.specs.Prelude.{Bool, true, ◌≡◌, ℕ, zero, suc, ◌+◌, ◌≤◌, ◌<◌, length, get_or}
use mathlib.Core.List.{List, Memᴰ}
use Rattle.sizes.specs.Sizes as Size
use Rattle.sizes.specs.Places.{observing_place}
use Rattle.plans.specs.System.{Way, Visit}
use Rattle.plans.specs.Sweep.{at}
use Rattle.plans.specs.Idle.{Needs}
use Rattle.sweep_links.specs.Turns.{bit_at}
use Rattle.netlist_table.specs.Gates.{gate_line, gate_lines}
use Rattle.sweep_groups.specs.Tables.{by_role, gate_pins, visit_count, visit_place, gate_visit}
use Rattle.sweep_turns.specs.Order.{gate_of_turn, gate_visits, turn_visits}

-- The turn is not awake.
abbrev pub Asleep : List ℕ → ℕ → Type 0
Asleep awake turn = bit_at awake turn ≡ 0

-- Whether a gate needs numbers of a line: where lines are set one of its pins reads the line, where they are observed it drives
-- the line.
abbrev pub NeedsLine : ℕ → List ℕ → ℕ → ℕ → Type 0
NeedsLine zero netlist g l = (i : ℕ) × (1 ≤ i) × (i ≤ Size.pins) × (gate_line netlist g i ≡ l)
NeedsLine (suc role) netlist g l = gate_line netlist g 0 ≡ l

-- The line whose number visit i of a gate renews, `lines` being the gate's line and those of its pins.
abbrev pub visit_line : ℕ → List ℕ → ℕ → ℕ
visit_line role lines i = by_role role (get_or lines 0 0) (get_or lines (i + 1) 0)

-- No pin reads the gate's own line.
abbrev pub OwnUnread : List ℕ → ℕ → Type 0
OwnUnread lines pins = (i : ℕ) → 1 ≤ i → i ≤ pins → get_or lines i 0 ≡ get_or lines 0 0 → ⊥

-- No line is driven twice.
abbrev pub DrivenOnce : List ℕ → ℕ → Type 0
DrivenOnce netlist gates = (g h : ℕ) → g < gates → h < gates → gate_line netlist g 0 ≡ gate_line netlist h 0 → g ≡ h

-- What makes the links of a netlist tell who needs a number.
pub record NeedsByLine (role kind : ℕ) (library netlist : List ℕ) : Type 0 where
  pub once : DrivenOnce netlist (get_or netlist 0 0)
  -- a gate that needs the number that visit i of gate h renews needs its line
  pub needs : (g h i : ℕ) → g < get_or netlist 0 0 → h < get_or netlist 0 0 → i < visit_count role (gate_pins library netlist h)
      → (v : Visit) → Memᴰ v (gate_visits role kind library netlist g) → Needs v (visit_place role kind (gate_lines netlist h) i)
      → NeedsLine role netlist g (visit_line role (gate_lines netlist h) i)
  -- where lines are observed, each way of a visit of gate g needs the gate's output observed
  pub leads : (g i : ℕ) → g < get_or netlist 0 0 → i < visit_count role (gate_pins library netlist g) → (role ≡ 0 → ⊥)
      → (w : Way) → Memᴰ w (gate_visit role kind library netlist g i).ways → Memᴰ (observing_place kind (get_or (gate_lines netlist g) 0 0)) w.needs

-- After a number of the line changed, if it did, every gate that needs numbers of the line is awake. No turn was put to rest.
pub record LineWoken (role : ℕ) (netlist : List ℕ) (gates line : ℕ) (changed : Bool) (before after : List ℕ) : Type 0 where
  pub slept : (t : ℕ) → Asleep after t → Asleep before t
  pub woken : changed ≡ true → (t : ℕ) → t < gates → NeedsLine role netlist (gate_of_turn role gates t) line → bit_at after t ≡ 1
  pub size : length after ≡ length before

module _ (role kind : ℕ) (library netlist : List ℕ) where
  -- Visits made `ys` of the numbers `xs`. No turn is asleep then that needs a number that has changed, and none was put to
  -- rest.
  pub record ChangesWoken (before xs after ys : List ℕ) : Type 0 where
    pub slept : (t : ℕ) → t < get_or netlist 0 0 → Asleep after t → Asleep before t
    pub unmoved : (t : ℕ) → t < get_or netlist 0 0 → Asleep after t
        → (v : Visit) → Memᴰ v (turn_visits role kind library netlist t) → (n : ℕ) → Needs v n → at ys n ≡ at xs n
    pub size : length after ≡ length before
