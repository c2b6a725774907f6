-- What a walk puts back: the CO and SO of lines that a pad on trial changed, from the pad's line backwards.
use Rattle.std.specs.Prelude.{Bool, true, List, [], ◌∷◌, ◌++◌, ◌⊎◌, ◌≡◌, ℕ, ◌+◌, ◌-◌, ◌≤◌, ◌<◌, length, get_or}
use Rattle.sizes.specs.Sizes as Size
use Rattle.sizes.specs.Places.{line_place}
use Rattle.netlist_table.specs.Gates.{gate_line, LinesStand}
use Rattle.netlist_table.specs.Sound.{InRange}

-- The place of a line's CO; its SO stands behind it.
abbrev pub co_place : ℕ → ℕ
co_place m = line_place m + Size.observed_at

-- The CO and SO of a line are those that stand.
pub record Same (standing tried : List ℕ) (m : ℕ) : Type 0 where
  pub co : get_or tried (co_place m) 0 ≡ get_or standing (co_place m) 0
  pub so : get_or tried (co_place m + 1) 0 ≡ get_or standing (co_place m + 1) 0

-- One line put back; where it had changed it is put on the stack.
pub record Put (standing : List ℕ) (line : ℕ) (before stack after pushed : List ℕ) : Type 0 where
  pub same : Same standing after line
  pub others : (n : ℕ) → (get_or after n 0 ≡ get_or before n 0) ⊎ (get_or after n 0 ≡ get_or standing n 0)
  pub elsewhere : (m : ℕ) → InRange m → (m ≡ line → ⊥) → Same standing after m → Same standing before m
  pub either : (Same standing before line × (pushed ≡ stack)) ⊎ (pushed ≡ stack ++ line ∷ [])

-- A line on the stack.
abbrev pub OnStack : List ℕ → ℕ → Type 0
OnStack stack x = (j : ℕ) × (j < length stack) × (get_or stack j 0 ≡ x)

-- The walk, of lines that stand behind others: a line that had changed and is put back is on the stack, or is open, or all behind
-- it is put back.
pub record Going (standing entry : List ℕ) (Behind : ℕ → ℕ → Type 0) (line : ℕ) (Open : ℕ → Type 0) (tried stack : List ℕ) : Type 0 where
  pub kept : (n : ℕ) → (get_or tried n 0 ≡ get_or entry n 0) ⊎ (get_or tried n 0 ≡ get_or standing n 0)
  pub first : Same standing tried line
  pub done : (x : ℕ) → InRange x → (Same standing entry x → ⊥) → Same standing tried x
      → OnStack stack x ⊎ (Open x ⊎ ((p : ℕ) → Behind x p → Same standing tried p))

-- What a trial on a line changed: nothing but CO and SO, of lines that are reached from it through lines that changed
-- (`falls_spread` of crate `calculation`).
pub data Reached (standing entry : List ℕ) (Behind : ℕ → ℕ → Type 0) (line : ℕ) : ℕ → Type 0 where
  pad : Reached standing entry Behind line line
  behind : {x p : ℕ} → InRange x → (Same standing entry x → ⊥) → Reached standing entry Behind line x → Behind x p → Reached standing entry Behind line p

abbrev pub Changed : List ℕ → List ℕ → (ℕ → ℕ → Type 0) → ℕ → Type 0
Changed standing entry Behind line =
    (n : ℕ) → (get_or entry n 0 ≡ get_or standing n 0)
    ⊎ ((m : ℕ) × ((n ≡ co_place m) ⊎ (n ≡ co_place m + 1)) × Reached standing entry Behind line m)

-- Lines put back one after the other.
pub data Puts (standing : List ℕ) : List ℕ → List ℕ → List ℕ → List ℕ → Type 0 where
  none : {before stack : List ℕ} → Puts standing before stack before stack
  next : {line : ℕ} {before stack between half after pushed : List ℕ} → Puts standing before stack between half
      → Put standing line between half after pushed → Puts standing before stack after pushed

-- The lines that the pins of a gate read, put back: pins 1 to below `end`.
pub record PinsBack (standing netlist : List ℕ) (gate end : ℕ) (before stack after pushed : List ℕ) : Type 0 where
  pub few : length pushed + 1 ≤ length stack + end
  pub puts : Puts standing before stack after pushed
  pub back : (i : ℕ) → 1 ≤ i → i < end → 1 ≤ gate_line netlist gate i → Same standing after (gate_line netlist gate i)

-- ---- the walk over the tables

abbrev pub driver_of : List ℕ → ℕ → ℕ
driver_of links x = get_or links (Size.drivers_at + x) 0

-- Behind a line stand those that the pins of its driver read.
abbrev pub BehindOf : List ℕ → List ℕ → ℕ → ℕ → Type 0
BehindOf netlist links x p =
    (1 ≤ driver_of links x) × ((i : ℕ) × (1 ≤ i) × (i < Size.gate_lines) × (1 ≤ gate_line netlist (driver_of links x - 1) i) × (p ≡ gate_line netlist (driver_of links x - 1) i))

-- What a walk asks: lines in the table, and drivers that it has.
pub record WalkFits (netlist links : List ℕ) : Type 0 where
  pub lines_stand : LinesStand netlist (get_or netlist 0 0)
  pub drivers : (x : ℕ) → x ≤ Size.lines → driver_of links x ≤ get_or netlist 0 0

pub record BackFits (netlist links : List ℕ) (line : ℕ) : Type 0 where
  pub low : 1 ≤ line
  pub most : line ≤ Size.lines
  pub walk : WalkFits netlist links

-- From one turn of a walk to another.
abbrev pub Walk : List ℕ → List ℕ → List ℕ → List ℕ → List ℕ → List ℕ → List ℕ → Type 0
Walk netlist links standing before stack after pushed =
    (entry : List ℕ) (line : ℕ) → Going standing entry (BehindOf netlist links) line (λ x. ⊥) before stack
    → Going standing entry (BehindOf netlist links) line (λ x. ⊥) after pushed

abbrev pub Walked : List ℕ → List ℕ → List ℕ → List ℕ → List ℕ → List ℕ → Bool → Type 0
Walked netlist links standing before stack after r =
    r ≡ true → (entry : List ℕ) (line : ℕ) → Going standing entry (BehindOf netlist links) line (λ x. ⊥) before stack
    → Changed standing entry (BehindOf netlist links) line → after ≡ standing

-- Where the walk came to its end, and the trial changed nothing but what it can reach, the table is the one that stands.
abbrev pub PutBack : List ℕ → List ℕ → List ℕ → List ℕ → ℕ → List ℕ → Bool → Type 0
PutBack netlist links standing entry line after r = r ≡ true → Changed standing entry (BehindOf netlist links) line → after ≡ standing
