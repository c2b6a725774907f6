-- What acceptance gives of each gate, line and row: the readers' facts by membership.
use Rattle.common_laws.proofs.Base.{true, List, [], ◌∷◌, List-as-Memᴰ, List-Memᴰ-not-nil, ◌≡◌, refl, ℕ, zero, suc, ◌-◌, ◌≤◌, ◌<◌, arith, length, get_or}
use Rattle.reading.proofs.Laws.{each_at, each_member}
use Rattle.cost.specs.Cost.{most}
use Rattle.library_table.specs.Cells.{Row, Group, Cell}
use Rattle.library_table.specs.Cells as C
use Rattle.library_table.specs.declared.Word.{Word}
use Rattle.library_table.specs.Library.{group_count, excepted, word_groups}
use Rattle.library_table.specs.Sound.{SoundRow, SoundGroup, SoundGroups, SoundCell}
use Rattle.library_table.proofs.Laws.{cell-known, CO_observes, SO_observes}
use Rattle.netlist_table.specs.Netlist.{Gate, Statement, gates_of}
use Rattle.netlist_table.specs.Sound.{InRange, GateSound}
use Rattle.calculation.specs.Nodes.{Kind, combinational, sequential}
use Rattle.calculation.specs.Ways.{no_cell, cell_of, pin_line, asked, Role, setting, observing, purpose_of, word_of, group_index, group_of}
use Rattle.calculation.specs.Acceptance.{BothSound}
use Rattle.calculation.proofs.Places.{Placed}
use Rattle.netlist_table.proofs.Laws.{gate-sound, gate-pins}
use Rattle.calculation.proofs.Visits.{Has, MayName}

-- ---- groups

-- A row of a group belongs to one of the groups that there are.
group_inside : (gs : List Group) (e : ℕ) (r : Row) → List-as-Memᴰ r (get_or gs e []) → e < length gs
group_inside [] e r m = absurd (List-Memᴰ-not-nil m)
group_inside (g ∷ gs) zero r m = omega arith
group_inside (g ∷ gs) (suc e) r m = omega (arith, group_inside gs e r m)

-- A row of CO or SO names "observe the output".
pub row_observes : (k : Kind) (i n : ℕ) (all : List Group) (r : Row) → SoundRow (word_of k (observing i)) n all r → C.bit r.columns (C.bit_of n C.observe) ≡ true
unfolding word_of excepted C.bit_of
row_observes combinational i n all r s = CO_observes n r (s.useful refl)
row_observes sequential i n all r s = SO_observes n r (s.useful refl)

-- What sums ask of a depth, and all that is known of it here: that it is a figure.
pub depth-figure : {w : Word} {n : ℕ} {all : List Group} {r : Row} → SoundRow w n all r → r.depth ≤ most
depth-figure s = omega (arith, s.depth)

-- The count of the groups of a role's word tells that the cell has the role.
index_has : (k : Kind) (c : Cell) (e : ℕ) → group_index (setting e) < group_count (word_of k (setting e)) c.pins → Has c (setting e)
unfolding word_of group_index group_count
index_has combinational c e h = omega arith
index_has sequential c e h = omega arith

pub has_index : (k : Kind) (c : Cell) (role : Role) → Has c role → group_index role < group_count (word_of k role) c.pins
unfolding word_of group_index group_count
has_index combinational c (setting e) h = omega arith
has_index sequential c (setting e) h = omega arith
has_index combinational c (observing i) h = omega (arith, h.0, h.1)
has_index sequential c (observing i) h = omega (arith, h.0, h.1)

-- ---- both

module _ {cells : List Cell} {ss : List Statement} (sound : BothSound cells ss) where
  module _ (g : Gate) (listed : List-as-Memᴰ g (gates_of ss)) where
    abbrev cell : Cell
    cell = cell_of cells g

    gate : GateSound cells g
    gate = gate-sound cells ss sound.netlist g listed

    pub gate-cell : SoundCell cell
    unfolding cell_of
    gate-cell = each_at SoundCell cells g.cell no_cell gate.known sound.library.each

    pub pin-count : length g.pins ≡ cell.pins
    unfolding cell_of
    pin-count = gate-pins cells ss sound.netlist g listed no_cell

    pub gate-pin : (i : ℕ) → 1 ≤ i → i ≤ cell.pins → InRange (pin_line g i)
    unfolding pin_line
    gate-pin i a b = each_at InRange g.pins (i - 1) 0 (omega (arith, pin-count)) gate.pins

    -- What the gate is visited for, and what its columns ask for, has its number in the table.
    pub purpose_placed : (role : Role) → Has cell role → Placed (purpose_of g role)
    unfolding purpose_of
    purpose_placed (setting e) h = (gate.line, h)
    purpose_placed (observing i) h = gate-pin i h.0 h.1

    pub asked-placed : (role : Role) (c : C.Column) → MayName cell.pins role c → Placed (asked g c)
    unfolding asked
    asked-placed role (C.pin i v) h = (gate-pin i h.0 h.1, h.2)
    asked-placed (setting e) (C.output v) h = absurd h
    asked-placed (observing i) (C.output v) h = (gate.line, h)
    asked-placed (setting e) C.observe h = absurd h
    asked-placed (observing i) C.observe h = gate.line

    -- ---- the groups of the gate's cell

    pub gate-groups : (w : Word) → SoundGroups w cell.pins (word_groups w cell)
    gate-groups w = cell-known w cell gate-cell

    -- The groups of a role's line, and the one of the role.
    abbrev pub line_groups : Kind → Role → List Group
    line_groups k role = word_groups (word_of k role) cell

    pub role_group_lem : (k : Kind) (role : Role) → Has cell role → SoundGroup (word_of k role) cell.pins (line_groups k role) (group_of k cell role)
    unfolding group_of
    role_group_lem k role h =
        let gs : SoundGroups (word_of k role) cell.pins (line_groups k role) = gate-groups (word_of k role) in
        each_at (SoundGroup (word_of k role) cell.pins (line_groups k role)) (line_groups k role) (group_index role) []
        (rw gs.count (has_index k cell role h)) gs.groups

    pub role_row : (k : Kind) (role : Role) → Has cell role → (r : Row) → List-as-Memᴰ r (group_of k cell role) → SoundRow (word_of k role) cell.pins (line_groups k role) r
    role_row k role h r m = each_member (SoundRow (word_of k role) cell.pins (line_groups k role)) m (role_group_lem k role h).rows

    -- "CC and SC have two groups (output to 0, output to 1)": a row of group e is one of value 0 or 1.
    pub row_value_lem : (k : Kind) (e : ℕ) (r : Row) → List-as-Memᴰ r (group_of k cell (setting e)) → Has cell (setting e)
    unfolding group_of
    row_value_lem k e r m =
        index_has k cell e
        (rw (gate-groups (word_of k (setting e))).count at
        (group_inside (word_groups (word_of k (setting e)) cell) (group_index (setting e)) r m))
