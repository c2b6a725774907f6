-- What the steps of a budgeted run ask and leave, over the tables. The values of lines are the leaves of a queue, 0 before 1.
use Rattle.std.specs.Prelude.{List, ◌⊎◌, ◌≡◌, ℕ, ◌+◌, ◌≤◌, ◌<◌, Option, Some, ltb, length, get_or}
use Rattle.sizes.specs.Sizes as Size
use Rattle.sizes.specs.Places.{gate_place, leaf_of, leaf_place}
use Rattle.reading.specs.Choice.{pick}
use Rattle.cost.specs.Cost.{never}
use Rattle.plans.specs.Sweep.{at, least}
use Rattle.netlist_table.specs.Gates.{gate_line}
use Rattle.sweep_groups.specs.Tables.{gate_visit}
use Rattle.sweep_groups.specs.Fits.{TablesFit}
use Rattle.budget_queue.specs.Queue.{cost_at}

-- ---- one gate

-- What a value is on offer for: nothing where it is fixed already.
unfoldable pub bid_of : ℕ → ℕ → ℕ
bid_of number offer = pick (ltb number never) never offer

-- The offer of a gate for its output at a value, and what it is on offer for.
abbrev pub gate_offer : List ℕ → List ℕ → List ℕ → ℕ → ℕ → ℕ
gate_offer library netlist xs g v = least xs (gate_visit 0 0 library netlist g v).ways

abbrev pub gate_bid : List ℕ → List ℕ → List ℕ → ℕ → ℕ → ℕ
gate_bid library netlist xs g v =
    bid_of (at xs (leaf_place (leaf_of (gate_line netlist g 0) v))) (gate_offer library netlist xs g v)

-- One gate, beside the numbers.
pub record GateReady (library netlist numbers : List ℕ) (gate : ℕ) : Type 0 where
  pub tables_fit : TablesFit library netlist
  pub inside : gate < get_or netlist 0 0
  pub size : length numbers ≡ Size.numbers

-- The line that a gate drives.
pub record OutputStands (netlist : List ℕ) (gate : ℕ) : Type 0 where
  pub room : gate_place gate + 1 < length netlist
  pub least : 1 ≤ gate_line netlist gate 0
  pub most : gate_line netlist gate 0 ≤ Size.lines

-- The offers of a gate were taken anew, and no other changed.
pub record Refreshed (library netlist numbers : List ℕ) (gate : ℕ) (before after : List ℕ) : Type 0 where
  pub here : (v : ℕ) → v ≤ 1 → cost_at after (leaf_of (gate_line netlist gate 0) v) ≡ gate_bid library netlist numbers gate v
  pub others : (i : ℕ) → i < Size.leaves → ((v : ℕ) → v ≤ 1 → i ≡ leaf_of (gate_line netlist gate 0) v → ⊥) → cost_at after i ≡ cost_at before i

-- ---- some gates

-- A leaf of a gate of which `among` holds.
pub record LeafAmong (netlist : List ℕ) (among : ℕ → Type 0) (i : ℕ) : Type 0 where
  pub gate : ℕ
  pub value : ℕ
  pub inside : gate < get_or netlist 0 0
  pub small : value ≤ 1
  pub listed : among gate
  pub same : i ≡ leaf_of (gate_line netlist gate 0) value

-- Bids that are right at the gates.
abbrev pub GateBids : List ℕ → List ℕ → List ℕ → (ℕ → ℕ) → Type 0
GateBids library netlist xs bids =
    (g v : ℕ) → g < get_or netlist 0 0 → v ≤ 1 → bids (leaf_of (gate_line netlist g 0) v) ≡ gate_bid library netlist xs g v

-- Each leaf has its bid, but for those of some gates.
abbrev pub Stale : List ℕ → (ℕ → Type 0) → List ℕ → (ℕ → ℕ) → Type 0
Stale netlist among q bids = (i : ℕ) → i < Size.leaves → (cost_at q i ≡ bids i) ⊎ LeafAmong netlist among i

-- The offers of these gates were taken anew: now each leaf has its bid.
pub record Fresh (library netlist numbers : List ℕ) (among : ℕ → Type 0) (before after : List ℕ) : Type 0 where
  pub fresh : (bids : ℕ → ℕ) → GateBids library netlist numbers bids → Stale netlist among before bids
      → (i : ℕ) → i < Size.leaves → cost_at after i ≡ bids i

-- All gates, and those that have a line among their pins.
abbrev pub AnyGate : ℕ → Type 0
AnyGate g = Unit {0}

abbrev pub Reads : List ℕ → ℕ → ℕ → Type 0
Reads netlist line g = (k : ℕ) × (1 ≤ k) × (k ≤ Size.pins) × (gate_line netlist g k ≡ line)

-- What taking them anew asks.
pub record RefreshFits (library netlist numbers : List ℕ) : Type 0 where
  pub tables_fit : TablesFit library netlist
  pub size : length numbers ≡ Size.numbers

-- ---- one pin of a line's chain, from the last back

-- A gate is taken anew unless the next pin of the chain is its own too.
pub record Passed (library netlist numbers : List ℕ) (gate : ℕ) (next : Option ℕ) (before after : List ℕ) : Type 0 where
  pub same : next ≡ Some gate → after ≡ before
  pub other : (next ≡ Some gate → ⊥) → Refreshed library netlist numbers gate before after
